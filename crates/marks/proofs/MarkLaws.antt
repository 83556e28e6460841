-- Laws of the signs of a trip's stop: those of the codes of a record, and the line's stop of a trip's stop.
use Rattle.std.specs.Prelude.{None, Option, Some}
use mathlib.Core.Path.{◌≡◌, refl, sym, ap, ◌∙◌}
use mathlib.Core.Bool.{Bool, true, false}
use mathlib.Core.List.{List, [], ◌∷◌, ◌++◌}
use Prim.Native.Nat.{ℕ, suc, ◌+◌, ◌-◌, ◌≤◌, ◌<◌}
use native.Mathlib.Omega.{arith}
use lib.Dec.{eqb}
use lib.ListN.{length}
use borrow.Author.Tests.{eq-eqb, ne_eqb, eqb-true, eqb-false}
use Rattle.laws.specs.Tests.{pick, both, one_of, either, clash, both_left, both_right, both_true}
use Rattle.file.specs.Files.{fields_of, field_counts}
use Rattle.file.specs.Format.{Fields, written_record}
use Rattle.file.specs.Records.{records_in}
use Rattle.field.specs.Kinds as kind
use Rattle.field.specs.Kinds.{kinds, kind_of}
use Rattle.field.specs.Names.{field}
use Rattle.field.specs.Values.{is_empty, value}
use Rattle.walk.specs.Walk.{Cuts}
use Rattle.walk.proofs.WalkLaws.{cut_first}
use Rattle.lines.proofs.OrderLaws.{found_place}
use Rattle.keys.specs.Keys.{key_table, key_fields, numbers, key_of, same, first_with, of_trip, third, none}
use Rattle.keys.specs.KeyFiles.{KeyFile, PlaceIn}
use Rattle.keys.specs.Ranks.{Small, rank, rank_of, record_at}
use Rattle.keys.proofs.KeyFileLaws.{first_with_lem}
use Rattle.rules.specs.Texts.{texts}
use Rattle.link.specs.Links as link
use Rattle.link.specs.Links.{links, link_of}
use Rattle.link.specs.Met.{number}
use Rattle.link.specs.Numeric.{numeric, NumberAt, CodeAt}
use Rattle.link.specs.Signs.{sign_in, is_in}
use Rattle.link.proofs.KindOfLinks.{code_kind_lem}
use Rattle.trail.specs.Lists.{select, first_or}
use Rattle.trip.specs.View.{signs_from}
use Rattle.trip.proofs.ViewLaws.{first_found, first_same, of_trip_fields}
use Rattle.stopmarks.specs.declared.Marks.{Marks}
use Rattle.marks.specs.Marks.{StopSought, line_stop_at, plain_signs, MarksOf}

-- THE SIGNS OF CODES. One of three, and one or none.
one_of_three : (a b c : Bool) → one_of (one_of a b) c ≡ one_of a (one_of b c)
one_of_three true b c = refl
one_of_three false b c = refl

one_or_none : (a : Bool) → one_of a false ≡ a
one_or_none true = refl
one_or_none false = refl

-- one more code: the sign of an empty one, 0, is none that is looked for.
sign_first : (sign : ℕ → ℕ) (x f n : ℕ) (r : Fields) → (x ≡ 0 → ⊥)
    → is_in x (signs_from sign f (suc n) r) ≡ one_of (eqb x (pick (is_empty (field f r)) 0 (sign (value (field f r))))) (is_in x (signs_from sign (f + 1) n r))
unfolding is_in signs_from
sign_first sign x f n r h =
    either (is_empty (field f r))
    (λ t. rw (t, ne_eqb x 0 h))
    (λ t. rw t)

-- texts i to `to` - 1 are looked through
module _ (sign : ℕ → ℕ) (x i to : ℕ) (r : Fields) (h : x ≡ 0 → ⊥) where
  abbrev here : ℕ
  here = pick (is_empty (field (i + 1) r)) 0 (sign (value (field (i + 1) r)))

  codes_first : i < to → is_in x (signs_from sign (i + 1) (to - i) r) ≡ one_of (eqb x here) (is_in x (signs_from sign (i + 1 + 1) (to - (i + 1)) r))
  codes_first l =
      let z : to - i ≡ suc (to - (i + 1)) = omega arith in
      rw z (sign_first sign x (i + 1) (to - (i + 1)) r h)

  -- the first has the sign
  pub codes_here : i < to → (y : ℕ) → y ≡ here → y ≡ x → is_in x (signs_from sign (i + 1) (to - i) r) ≡ true
  codes_here l y e d =
      let z : eqb x here ≡ true = eq-eqb x here (sym d ∙ e) in
      codes_first l ∙ rw z

  -- it has another, or none
  pub codes_past : i < to → (y : ℕ) → y ≡ here → (y ≡ x → ⊥) → is_in x (signs_from sign (i + 1) (to - i) r) ≡ is_in x (signs_from sign (i + 1 + 1) (to - (i + 1)) r)
  codes_past l y e d =
      let z : eqb x here ≡ false = ne_eqb x here (λ q. d (e ∙ sym q)) in
      codes_first l ∙ rw z

  -- none is left
  pub codes_none : to ≤ i → is_in x (signs_from sign (i + 1) (to - i) r) ≡ false
  unfolding is_in signs_from
  codes_none l =
      let z : to - i ≡ 0 = omega arith in
      rw z

  -- whether one sign is the other, asked the other way round
  turned : (y : ℕ) → y ≡ here → eqb y x ≡ eqb x here
  turned y e =
      either (eqb y x)
      (λ t. t ∙ sym (eq-eqb x here (sym (eqb-true y x t) ∙ e)))
      (λ t. t ∙ sym (ne_eqb x here (λ q. eqb-false y x t (e ∙ sym q))))

  -- one of those that came, or of those that are left, has the sign: the first of these comes
  codes_turn : i < to → (y : ℕ) → y ≡ here → (a b w : Bool) → b ≡ one_of a (eqb y x)
      → one_of a (is_in x (signs_from sign (i + 1) (to - i) r)) ≡ w → one_of b (is_in x (signs_from sign (i + 1 + 1) (to - (i + 1)) r)) ≡ w
  codes_turn l y e a b w d u =
      let rest = is_in x (signs_from sign (i + 1 + 1) (to - (i + 1)) r) in
      let z : b ≡ one_of a (eqb x here) = d ∙ ap (one_of a) (turned y e) in
      rw z (one_of_three a (eqb x here) rest) ∙ ap (one_of a) (sym (codes_first l)) ∙ u

  -- none is left
  codes_end : to ≤ i → (a w : Bool) → one_of a (is_in x (signs_from sign (i + 1) (to - i) r)) ≡ w → a ≡ w
  unfolding is_in signs_from
  codes_end l a w u =
      let z : to - i ≡ 0 = omega arith in
      sym (one_or_none a) ∙ rw z at u

-- THE MARKS. What came and what is left, of the codes in texts i to `to` - 1, are all.
pub record Coming (sign : ℕ → ℕ) (i to : ℕ) (r : Fields) (all : List ℕ) (m : Marks) : Type 0 where
  pub dollar_so : one_of m.dollar (is_in 36 (signs_from sign (i + 1) (to - i) r)) ≡ is_in 36 all
  pub opening_so : one_of m.opening (is_in 40 (signs_from sign (i + 1) (to - i) r)) ≡ is_in 40 all
  pub closing_so : one_of m.closing (is_in 41 (signs_from sign (i + 1) (to - i) r)) ≡ is_in 41 all
  pub section_so : one_of m.section (is_in 0xA7 (signs_from sign (i + 1) (to - i) r)) ≡ is_in 0xA7 all

module _ (sign : ℕ → ℕ) (i to : ℕ) (r : Fields) where
  -- none has come
  pub coming_first : (m : Marks) → MarksOf [] m → Coming sign i to r (signs_from sign (i + 1) (to - i) r) m
  unfolding is_in
  coming_first m e =
      record {
        dollar_so = rw e.dollar_is;
        opening_so = rw e.opening_is;
        closing_so = rw e.closing_is;
        section_so = rw e.section_is;
      }

  module _ (all : List ℕ) (m : Marks) (c : Coming sign i to r all m) where
    -- one more comes
    pub coming_next : i < to → (y : ℕ) → y ≡ pick (is_empty (field (i + 1) r)) 0 (sign (value (field (i + 1) r))) → (n : Marks)
        → (n.dollar ≡ one_of m.dollar (eqb y 36)) × (n.opening ≡ one_of m.opening (eqb y 40)) × (n.closing ≡ one_of m.closing (eqb y 41)) × (n.section ≡ one_of m.section (eqb y 0xA7))
        → Coming sign (i + 1) to r all n
    coming_next l y e n d =
        record {
          dollar_so = codes_turn sign 36 i to r (λ z. omega arith) l y e m.dollar n.dollar (is_in 36 all) d.0 c.dollar_so;
          opening_so = codes_turn sign 40 i to r (λ z. omega arith) l y e m.opening n.opening (is_in 40 all) d.1 c.opening_so;
          closing_so = codes_turn sign 41 i to r (λ z. omega arith) l y e m.closing n.closing (is_in 41 all) d.2 c.closing_so;
          section_so = codes_turn sign 0xA7 i to r (λ z. omega arith) l y e m.section n.section (is_in 0xA7 all) d.3 c.section_so;
        }

    -- all have come
    pub coming_last : to ≤ i → MarksOf all m
    coming_last l =
        record {
          dollar_is = codes_end sign 36 i to r (λ z. omega arith) l m.dollar (is_in 36 all) c.dollar_so;
          opening_is = codes_end sign 40 i to r (λ z. omega arith) l m.opening (is_in 40 all) c.opening_so;
          closing_is = codes_end sign 41 i to r (λ z. omega arith) l m.closing (is_in 41 all) c.closing_so;
          section_is = codes_end sign 0xA7 i to r (λ z. omega arith) l m.section (is_in 0xA7 all) c.section_so;
        }

-- the codes of Zaslinky are its texts 4 to 6
pub line_stop_codes : (i : ℕ) → 4 ≤ i → i < 7 → CodeAt 7 (i + 1)
unfolding link_of links link.zaslinky
line_stop_codes i h l =
    either (eqb i 4)
    (λ t. let z : i + 1 ≡ 5 = omega (arith, eqb-true i 4 t) in rw z (code_kind_lem 7 5 refl))
    (λ t.
    either (eqb i 5)
    (λ u. let z : i + 1 ≡ 6 = omega (arith, eqb-true i 5 u) in rw z (code_kind_lem 7 6 refl))
    (λ u.
    let p = eqb-false i 4 t in
    let q = eqb-false i 5 u in
    let z : i + 1 ≡ 7 = omega arith in
    rw z (code_kind_lem 7 7 refl)))

-- where its record was cut, its signs are those of the record at the place
pub line_stop_signs : (sign : ℕ → ℕ) (x : ℕ) (s : List ℕ) (at : ℕ) {old places : List ℕ} {end : ℕ} → Cuts (fields_of 7) s at old places end → {y : Bool}
    → y ≡ is_in x (signs_from sign 5 3 (texts 7 s places)) → y ≡ is_in x (signs_from sign 5 3 (record_at 7 s at))
line_stop_signs sign x s at c e =
    let z = cut_first (fields_of 7) s at _ _ _ c in
    rw z e

-- and so its marks
pub line_stop_marked : (sign : ℕ → ℕ) (s : List ℕ) (at : ℕ) {old places : List ℕ} {end : ℕ} → Cuts (fields_of 7) s at old places end → {m : Marks}
    → MarksOf (signs_from sign 5 3 (texts 7 s places)) m → MarksOf (signs_from sign 5 3 (record_at 7 s at)) m
line_stop_marked sign s at c e =
    let z = cut_first (fields_of 7) s at _ _ _ c in
    rw z e

-- those of Zasspoje are its texts 5 and 6
pub trip_stop_codes : (i : ℕ) → 5 ≤ i → i < 7 → CodeAt 8 (i + 1)
unfolding link_of links link.zasspoje
trip_stop_codes i h l =
    either (eqb i 5)
    (λ u. let z : i + 1 ≡ 6 = omega (arith, eqb-true i 5 u) in rw z (code_kind_lem 8 6 refl))
    (λ u.
    let q = eqb-false i 5 u in
    let z : i + 1 ≡ 7 = omega arith in
    rw z (code_kind_lem 8 7 refl))

-- its first field is a number
pub line_number : NumberAt 8 1
unfolding numeric kind_of kinds kind.zasspoje fields_of field_counts
line_number = (refl, omega arith, omega arith)

-- THE LINE'S STOP of a trip's stop. A key of two numbers is that of fields 1 and 2.
stop_key : (line tariff : ℕ) (q : Fields) → both (eqb (number 1 q) line) (eqb (number 2 q) tariff) ≡ same (key_of 7 q) (line ∷ tariff ∷ [])
unfolding key_fields key_table numbers same of_trip
stop_key line tariff q = of_trip_fields 7 [] refl line tariff q

pub two_numbers : length (key_fields 7) ≡ 2
unfolding key_fields key_table
two_numbers = refl

-- where no record has a key, none is the first
none_first : (k : List ℕ) (at : ℕ) (rs : List Fields) → first_with 7 k at rs ≡ None → first_or [] (λ q. same (key_of 7 q) k) rs ≡ []
unfolding first_with first_or
none_first k at [] e = refl
none_first k at (r ∷ rs) e =
    either (same (key_of 7 r) k)
    (λ t.
    let d : Some at ≡ None = rw t at e in
    let z : ◌≡◌ {A = ℕ} 0 1 = cc in
    absurd (omega arith))
    (λ t. rw t (none_first k (at + length (written_record r)) rs (rw t at e)))

-- it is looked for by its line and its tariff number
pub sought_is : (s : List ℕ) (r : Fields) (line tariff : ℕ) → line ≡ number 1 r → tariff ≡ third 8 r → line < none → tariff < none
    → {found : Option ℕ} → found ≡ first_with 7 (line ∷ tariff ∷ []) 0 (records_in (fields_of 7) s) → StopSought s r found
sought_is s r line tariff a b l t e =
    record { line_small = rw a at l; tariff_small = rw b at t; look = rw (a, b) at e }

module _ (codes : List Fields) (s : List ℕ) (r : Fields) {found : Option ℕ} (sought : StopSought s r found) where
  abbrev key : List ℕ
  key = number 1 r ∷ third 8 r ∷ []

  abbrev line_stops : List Fields
  line_stops = records_in (fields_of 7) s

  by_key : line_stop_at codes line_stops r ≡ first_or [] (λ q. same (key_of 7 q) key) line_stops
  unfolding line_stop_at
  by_key = first_same [] (λ q. both (eqb (number 1 q) (number 1 r)) (eqb (number 2 q) (third 8 r))) (λ q. same (key_of 7 q) key) (stop_key (number 1 r) (third 8 r)) line_stops

  -- found
  module _ (f : KeyFile 7 s) (p : ℕ) (d : found ≡ Some p) where
    there : first_with 7 key 0 line_stops ≡ Some p
    there = sym sought.look ∙ d

    pub stop_found : PlaceIn 7 s p × (p < length s)
    unfolding Small key_fields key_table
    stop_found =
        let small : Small key = (sought.line_small, (sought.tariff_small, tt)) in
        let q = found_place (fields_of 7) (rank_of 7) s (rank key) p f.legal (sym (first_with_lem 7 key f.keyed small refl 0 line_stops f.keys) ∙ there) in
        (q.place, q.within)

    stop_is : line_stop_at codes line_stops r ≡ record_at 7 s p
    stop_is = by_key ∙ first_found 7 s key p f.legal there

    pub stop_there : (x : ℕ) {y : Bool} → y ≡ is_in x (signs_from (λ c. sign_in codes c) 5 3 (record_at 7 s p))
        → y ≡ is_in x (signs_from (λ c. sign_in codes c) 5 3 (line_stop_at codes line_stops r))
    stop_there x e = rw stop_is e

    pub marks_there : {m : Marks} → MarksOf (signs_from (λ c. sign_in codes c) 5 3 (record_at 7 s p)) m
        → MarksOf (signs_from (λ c. sign_in codes c) 5 3 (line_stop_at codes line_stops r)) m
    marks_there e = rw stop_is e

  -- not found: then there are no signs
  module _ (d : found ≡ None) where
    stop_empty : line_stop_at codes line_stops r ≡ []
    stop_empty = by_key ∙ none_first key 0 line_stops (sym sought.look ∙ d)

    pub stop_none : (x : ℕ) → false ≡ is_in x (signs_from (λ c. sign_in codes c) 5 3 (line_stop_at codes line_stops r))
    unfolding is_in signs_from
    stop_none x = rw stop_empty

    pub marks_none : {m : Marks} → MarksOf [] m → MarksOf (signs_from (λ c. sign_in codes c) 5 3 (line_stop_at codes line_stops r)) m
    unfolding signs_from
    marks_none e = rw stop_empty e

-- THE SIGNS OF A STOP. One of two lists has it, and one of those that are selected.
in_append : (x : ℕ) (a b : List ℕ) → is_in x (a ++ b) ≡ one_of (is_in x a) (is_in x b)
unfolding is_in
in_append x [] b = refl
in_append x (y ∷ a) b =
    either (eqb x y)
    (λ t. rw t)
    (λ t. rw t (in_append x a b))

in_select : (x d : ℕ) (l : List ℕ) → is_in x (select (λ y. eqb y d) l) ≡ both (eqb x d) (is_in x l)
unfolding is_in select
in_select x d [] = either (eqb x d) (λ t. rw t) (λ t. rw t)
in_select x d (y ∷ l) =
    either (eqb x d)
    (λ t.
    either (eqb y d)
    (λ u. rw (u, in_select x d l, t))
    (λ u.
    let z : eqb x y ≡ false = ne_eqb x y (λ q. eqb-false y d u (sym q ∙ eqb-true x d t)) in
    rw (u, z, in_select x d l, t)))
    (λ t.
    either (eqb y d)
    (λ u.
    let z : eqb x y ≡ false = ne_eqb x y (λ q. eqb-false x d t (q ∙ eqb-true y d u)) in
    rw (u, z, in_select x d l, t))
    (λ u. rw (u, in_select x d l, t)))

-- own codes: none is given, or one is
own_none : (sign : ℕ → ℕ) (r : Fields) → length (field 6 r) + length (field 7 r) ≡ 0 → eqb (length (signs_from sign 6 2 r)) 0 ≡ true
unfolding signs_from
own_none sign r h =
    let a : is_empty (field 6 r) ≡ true = eq-eqb (length (field 6 r)) 0 (omega arith) in
    let b : is_empty (field 7 r) ≡ true = eq-eqb (length (field 7 r)) 0 (omega arith) in
    rw (a, b)

one_more : (y : ℕ) (l : List ℕ) → eqb (length (y ∷ l)) 0 ≡ false
one_more y l = ne_eqb (length (y ∷ l)) 0 (λ z. omega arith)

own_some : (sign : ℕ → ℕ) (r : Fields) → (length (field 6 r) + length (field 7 r) ≡ 0 → ⊥) → eqb (length (signs_from sign 6 2 r)) 0 ≡ false
unfolding signs_from
own_some sign r h =
    either (is_empty (field 6 r))
    (λ a.
    let b : is_empty (field 7 r) ≡ false = ne_eqb (length (field 7 r)) 0 (λ z. h (omega (arith, z, eqb-true (length (field 6 r)) 0 a))) in
    rw (a, b))
    (λ a. rw a (one_more (sign (value (field 6 r))) (signs_from sign 7 1 r)))

-- a stop with no code of its own, and one with a code
pub bare : (r : Fields) → both (is_empty (field 6 r)) (is_empty (field 7 r)) ≡ true → length (field 6 r) + length (field 7 r) ≡ 0
bare r e =
    let a = eqb-true (length (field 6 r)) 0 (both_left (is_empty (field 6 r)) (is_empty (field 7 r)) e) in
    let b = eqb-true (length (field 7 r)) 0 (both_right (is_empty (field 6 r)) (is_empty (field 7 r)) e) in
    omega arith

pub coded : (r : Fields) → both (is_empty (field 6 r)) (is_empty (field 7 r)) ≡ false → length (field 6 r) + length (field 7 r) ≡ 0 → ⊥
coded r e z =
    let a : is_empty (field 6 r) ≡ true = eq-eqb (length (field 6 r)) 0 (omega arith) in
    let b : is_empty (field 7 r) ≡ true = eq-eqb (length (field 7 r)) 0 (omega arith) in
    clash (both_true (is_empty (field 6 r)) (is_empty (field 7 r)) a b) e

module _ (codes line_stops : List Fields) (r : Fields) (x : ℕ) where
  abbrev own : Bool
  own = is_in x (signs_from (λ c. sign_in codes c) 6 2 r)

  abbrev theirs : Bool
  theirs = is_in x (signs_from (λ c. sign_in codes c) 5 3 (line_stop_at codes line_stops r))

  -- a stop with no code of its own has the signs of the line's stop
  pub signs_theirs : length (field 6 r) + length (field 7 r) ≡ 0 → {y : Bool} → y ≡ theirs → y ≡ is_in x (plain_signs codes line_stops r)
  unfolding plain_signs
  signs_theirs h e = rw (own_none (λ c. sign_in codes c) r h) e

  -- one with a code has its own, and a `$` of the line's stop
  signs_own : (length (field 6 r) + length (field 7 r) ≡ 0 → ⊥) → is_in x (plain_signs codes line_stops r) ≡ one_of own (both (eqb x 36) theirs)
  unfolding plain_signs
  signs_own h =
      let l = signs_from (λ c. sign_in codes c) 5 3 (line_stop_at codes line_stops r) in
      rw (own_some (λ c. sign_in codes c) r h)
      (in_append x (signs_from (λ c. sign_in codes c) 6 2 r) (select (λ y. eqb y 36) l) ∙ rw (in_select x 36 l))

  module _ (h : length (field 6 r) + length (field 7 r) ≡ 0 → ⊥) {o : Bool} (mine : o ≡ own) where
    -- its own have it
    pub signs_here : o ≡ true → true ≡ is_in x (plain_signs codes line_stops r)
    signs_here e =
        let z : own ≡ true = sym mine ∙ e in
        rw (signs_own h, z)

    -- they don't, and it is no `$`
    pub signs_other : o ≡ false → (x ≡ 36 → ⊥) → false ≡ is_in x (plain_signs codes line_stops r)
    signs_other e d =
        let z : own ≡ false = sym mine ∙ e in
        rw (signs_own h, z, ne_eqb x 36 d)

    -- they don't, and it is a `$`
    pub signs_dollar : o ≡ false → x ≡ 36 → {y : Bool} → y ≡ theirs → y ≡ is_in x (plain_signs codes line_stops r)
    signs_dollar e d g =
        let z : own ≡ false = sym mine ∙ e in
        let w : eqb x 36 ≡ true = eq-eqb x 36 d in
        rw (signs_own h, z, w) g

-- THE MARKS OF A STOP.
module _ (codes line_stops : List Fields) (r : Fields) where
  abbrev own_signs : List ℕ
  own_signs = signs_from (λ c. sign_in codes c) 6 2 r

  abbrev their_signs : List ℕ
  their_signs = signs_from (λ c. sign_in codes c) 5 3 (line_stop_at codes line_stops r)

  -- with no code of its own it has those of the line's stop
  pub marks_theirs : length (field 6 r) + length (field 7 r) ≡ 0 → {m : Marks} → MarksOf their_signs m → MarksOf (plain_signs codes line_stops r) m
  unfolding plain_signs
  marks_theirs h e = rw (own_none (λ c. sign_in codes c) r h) e

  -- with a code its own, and a `$` of the line's stop
  module _ (h : length (field 6 r) + length (field 7 r) ≡ 0 → ⊥) where
    own_mark : (x : ℕ) → (x ≡ 36 → ⊥) → is_in x own_signs ≡ is_in x (plain_signs codes line_stops r)
    own_mark x d = sym (signs_own codes line_stops r x h ∙ rw (ne_eqb x 36 d) (one_or_none (is_in x own_signs)))

    pub marks_own : {o t m : Marks} → MarksOf own_signs o → MarksOf their_signs t
        → (m.dollar ≡ one_of o.dollar t.dollar) × (m.opening ≡ o.opening) × (m.closing ≡ o.closing) × (m.section ≡ o.section)
        → MarksOf (plain_signs codes line_stops r) m
    marks_own {o} {t} {m} e f d =
        let z : m.dollar ≡ one_of (is_in 36 own_signs) (is_in 36 their_signs) = rw (d.0, e.dollar_is, f.dollar_is) in
        record {
          dollar_is = z ∙ sym (signs_own codes line_stops r 36 h);
          opening_is = d.1 ∙ e.opening_is ∙ own_mark 40 (λ q. omega arith);
          closing_is = d.2 ∙ e.closing_is ∙ own_mark 41 (λ q. omega arith);
          section_is = d.3 ∙ e.section_is ∙ own_mark 0xA7 (λ q. omega arith);
        }
