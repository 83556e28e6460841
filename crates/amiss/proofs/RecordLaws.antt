-- Laws of a record that is looked at: its texts and their numbers, the record of Pevnykod that a search finds and its sign, and that a Zaslinky
-- record's stop is met.
use Rattle.std.specs.Prelude.{None, Some}
use mathlib.Core.Path.{◌≡◌, refl, sym, ap, ◌∙◌}
use mathlib.Core.Bool.{Bool, true, false}
use mathlib.Core.List.{List, [], ◌∷◌, ◌++◌}
use mathlib.Core.Logic.{◌⊎◌, inl, inr}
use Prim.Native.Nat.{ℕ, ◌+◌, ◌-◌, ◌≤◌, ◌<◌}
use native.Mathlib.Omega.{arith}
use lib.Dec.{ltb}
use lib.ListN.{length, get_or, drop, length-append}
use lib.Seq.{get_or-append-add}
use borrow.Author.Tests.{eqb-true, eqb-false, ltb-true, ltb-false}
use Rattle.laws.specs.Tests.{either, never}
use Rattle.file.specs.Files.{fields_of, field_counts}
use Rattle.file.specs.Format.{Text, Fields, written_record, written}
use Rattle.file.specs.Records.{records_in}
use Rattle.field.specs.Kinds as kind
use Rattle.field.specs.Kinds.{kinds, kind_of, signs, admits}
use Rattle.field.specs.Names.{field}
use Rattle.field.specs.Stage.{first_unkind}
use Rattle.field.specs.Values.{is_empty, is_byte, among, all_digits, is_digits, value}
use Rattle.walk.specs.Walk.{LegalFrom, Cuts, part_of}
use Rattle.walk.proofs.WalkLaws.{cut_size, cut_first, none_left}
use Rattle.lines.proofs.LineLaws.{size_cons, place_on, place_start, next_at}
use Rattle.keys.specs.Keys.{key_of, same, has, first_with, none}
use Rattle.keys.specs.KeyFiles.{KeyFile, PlaceIn}
use Rattle.keys.specs.Ranks.{IsKeyed, record_at}
use Rattle.keys.proofs.TableLaws.{one_of_lem}
use Rattle.rules.specs.Texts.{texts, Kinded}
use Rattle.rules.proofs.KindLaws.{text_at}
use Rattle.link.specs.Numeric.{numeric, code_kind, NumberAt, CodeAt}
use Rattle.link.specs.Signs.{first_byte, sign_in}
use Rattle.link.proofs.KindOfLinks.{digits_small, number_kind, code_text}
use Rattle.lookup.specs.Ways.{Lasts}
use Rattle.thirteen.specs.Batch.{Batch, file_in, records_of}
use Rattle.amiss.specs.Sound.{AllOfKind, OfKind, StopsMet, Known, Record}
use Rattle.amiss.proofs.SoundLaws.{sound_kinds}

-- a text that is a number can be read, and is below a thousand million
pub record Numeral (t : Text) : Type 0 where
  pub digits : all_digits t ≡ true
  pub most : length t ≤ 18
  pub small : value t < none

pub numeral : (t : Text) → is_digits 1 9 t ≡ true → Numeral t
numeral t e = let d = digits_small t e in record { digits = d.0; most = omega (arith, d.1); small = d.2 }

-- a field of a record that was cut: the text that was taken for it, a number, and a code that is given
module _ {file : ℕ} {s places : List ℕ} (k : Kinded file s places) (f : ℕ) {t : Text} (e : t ≡ part_of s places (f - 1)) where
  text_of : 1 ≤ f → f ≤ fields_of file → field f (texts file s places) ≡ t
  text_of h l = text_at k (f - 1) (omega arith) e

  module _ (n : NumberAt file f) where
    pub number_text : field f (texts file s places) ≡ t
    number_text = text_of n.1 n.2

    pub number_part : Numeral t
    number_part =
        numeral t (rw number_text at (number_kind file (texts file s places) k.kinds (cut_size (fields_of file) s places) f n))

  module _ (n : CodeAt file f) where
    pub code_field : field f (texts file s places) ≡ t
    code_field = text_of n.1 n.2

    pub code_part : (length t ≡ 0 → ⊥) → Numeral t
    code_part z = go (rw code_field at (code_text file (texts file s places) k.kinds (cut_size (fields_of file) s places) f n))
      where
        go : (is_empty t ≡ true) ⊎ (is_digits 1 9 t ≡ true) → Numeral t
        go (inl p) = absurd (z (eqb-true (length t) 0 p))
        go (inr p) = numeral t p

    -- whether it is empty, and its number
    pub code_is_empty : {b : Bool} → b ≡ is_empty t → is_empty (field f (texts file s places)) ≡ b
    code_is_empty d = rw code_field (sym d)

    pub code_number : {v : ℕ} → v ≡ value t → v ≡ value (field f (texts file s places))
    code_number d = d ∙ ap (λ (x : Text). value x) (sym code_field)

    -- it can be read, and its number is small, where it is not
    module _ (g : is_empty (field f (texts file s places)) ≡ false) where
      pub code_numeral : Numeral t
      code_numeral = code_part (λ z. eqb-false (length (field f (texts file s places))) 0 g (ap (λ (x : Text). length x) code_field ∙ z))

      pub code_small : value (field f (texts file s places)) < none
      code_small = rw code_field code_numeral.small

-- all records are of their kinds: so are the last ones, and so is the first
kinds_tail : (file : ℕ) (a b : List Fields) → AllOfKind file (a ++ b) → AllOfKind file b
unfolding AllOfKind
kinds_tail file [] b h = h
kinds_tail file (r ∷ a) b h = kinds_tail file a b h.1

kinds_head : (file : ℕ) (r : Fields) (rs : List Fields) → AllOfKind file (r ∷ rs) → first_unkind file 1 r ≡ 0
unfolding AllOfKind
kinds_head file r rs h = h.0

-- a file whose records are of their kinds: the record at a place
module _ (file : ℕ) (s : List ℕ) (at : ℕ) (k : OfKind file s) (p : PlaceIn file s at) (h : at < length s) where
  pub kind_there : first_unkind file 1 (record_at file s at) ≡ 0
  kind_there =
      let w = (next_at (fields_of file) s at p h).rest in
      kinds_head file _ _ (rw w at (kinds_tail file p.past (records_in (fields_of file) (drop at s)) (rw p.whole at k)))

  -- where it was cut, its texts are of their kinds
  pub cut_kinded : {old places : List ℕ} {next : ℕ} → Cuts (fields_of file) s at old places next → Kinded file s places
  cut_kinded c = record { parted = c.parted; kinds = rw (← cut_first (fields_of file) s at _ _ _ c) kind_there }

-- the first record that has a code number, and what stands before it
record Hit (c at : ℕ) (rs : List Fields) (p : ℕ) : Type 0 where
  past : List Fields
  first : Fields
  rest : List Fields
  whole : rs ≡ past ++ (first ∷ rest)
  size : p ≡ at + length (written past)
  sign : sign_in rs c ≡ first_byte (field 2 first)

hit : (c at : ℕ) (rs : List Fields) (p : ℕ) → first_with 3 (c ∷ []) at rs ≡ Some p → Hit c at rs p
unfolding first_with sign_in written
hit c at [] p e = let z : ◌≡◌ {A = ℕ} 0 1 = cc in absurd (omega arith)
hit c at (r ∷ rs) p e =
    either (same (key_of 3 r) (c ∷ []))
    (λ t.
    let d : Some at ≡ Some p = rw t at e in
    let z : at ≡ p = cc in
    record { past = []; first = r; rest = rs; whole = refl; size = omega arith; sign = rw t })
    (λ t. on t (hit c (at + length (written_record r)) rs p (rw t at e)))
  where
    on : same (key_of 3 r) (c ∷ []) ≡ false → Hit c (at + length (written_record r)) rs p → Hit c at (r ∷ rs) p
    on t h = record {
      past = r ∷ h.past;
      first = h.first;
      rest = h.rest;
      whole = ap (λ (l : List Fields). r ∷ l) h.whole;
      size = omega (arith, h.size, size_cons r h.past);
      sign = rw t h.sign;
    }

-- the record of Pevnykod that is found by a code number has its sign
pub record SignHere (s : List ℕ) (c p : ℕ) : Type 0 where
  pub place : PlaceIn 3 s p
  pub within : p < length s
  pub sign : sign_in (records_in (fields_of 3) s) c ≡ first_byte (field 2 (record_at 3 s p))

pub sign_found : (s : List ℕ) (c p : ℕ) → LegalFrom (fields_of 3) s 0 → first_with 3 (c ∷ []) 0 (records_in (fields_of 3) s) ≡ Some p
    → SignHere s c p
sign_found s c p l e =
    let n = fields_of 3 in
    let h = hit c 0 (records_in n s) p e in
    let w = place_on n s 0 (place_start n s l) h.past (h.first ∷ h.rest) h.whole p h.size in
    let here : record_at 3 s p ≡ h.first = rw w.left in
    record {
      place = w.place;
      within = either (ltb p (length s))
          (λ t. ltb-true p (length s) t)
          (λ t. absurd (omega (arith, ap length (sym (none_left n s p (ltb-false p (length s) t)) ∙ w.left))));
      sign = h.sign ∙ ap (λ (r : Fields). first_byte (field 2 r)) (sym here);
    }

-- a code number that no record has, has no sign
pub sign_none : (c at : ℕ) (rs : List Fields) → first_with 3 (c ∷ []) at rs ≡ None → sign_in rs c ≡ 0
unfolding first_with sign_in
sign_none c at [] e = refl
sign_none c at (r ∷ rs) e =
    either (same (key_of 3 r) (c ∷ []))
    (λ t.
    let d : Some at ≡ None = rw t at e in
    let z : ◌≡◌ {A = ℕ} 0 1 = cc in
    absurd (omega arith))
    (λ t. rw t (sign_none c (at + length (written_record r)) rs (rw t at e)))

-- the sign's text is not empty, and its first byte is the one at 0
given_sign : (bs : List ℕ) (t : Text) → among bs t ≡ true → 0 < length t
unfolding among is_byte
given_sign [] t e = never e
given_sign (b ∷ bs) [] e = given_sign bs [] e
given_sign (b ∷ bs) (x ∷ t) e = omega arith

pub first_byte_lem : (t : Text) → get_or t 0 0 ≡ first_byte t
unfolding first_byte
first_byte_lem [] = refl
first_byte_lem (b ∷ t) = refl

pub sign_given : (t : Text) → admits (kind_of 3 2) t ≡ true → 0 < length t
unfolding kind_of kinds kind.pevnykod admits
sign_given t e = given_sign signs t e

-- Zaslinky's stop is a number
pub stop_number : NumberAt 7 4
unfolding numeric kind_of kinds kind.zaslinky fields_of field_counts
stop_number = (refl, omega arith, omega arith)

-- Zasspoje's first code is a code
pub first_code : (file : ℕ) → file ≡ 8 → CodeAt file 6
unfolding code_kind kind_of kinds kind.zasspoje fields_of field_counts
first_code file e = rw e (refl, omega arith, omega arith)

-- what is known where a record is looked at
module _ {b : Batch} {file : ℕ} {order ways last : List ℕ} (k : Known b file order ways last) where
  -- a keyed file
  pub key_file : (x : ℕ) → IsKeyed x → KeyFile x (file_in b x)
  key_file x h = (k.looks.routes x h).serves.keyed

  pub kind_file : (x : ℕ) → IsKeyed x → OfKind x (file_in b x)
  kind_file x h = sound_kinds b x (k.sound x h.0 (omega (arith, h.1)))

  -- after a search
  pub later : (l : List ℕ) → Lasts b l → Known b file order ways l
  later l n = record {
    sound = k.sound;
    looks = record { size = k.looks.size; routes = k.looks.routes; lasts = n };
    stops = k.stops;
  }

  -- the code that was found
  pub code_there : (c p : ℕ) → first_with 3 (c ∷ []) 0 (records_of b 3) ≡ Some p → SignHere (file_in b 3) c p
  code_there c p e = sign_found (file_in b 3) c p (key_file 3 (omega arith, omega arith)).legal e

pub record_later : {b : Batch} {file : ℕ} {s places order ways last : List ℕ} → Record b file s places order ways last
    → (l : List ℕ) → Lasts b l → Record b file s places order ways l
record_later r l n = record { known = later r.known l n; kinded = r.kinded }

-- the stop of a record of Zaslinky is met where all are
pub stop_met : (b : Batch) (at : ℕ) → StopsMet b → PlaceIn 7 (file_in b 7) at → at < length (file_in b 7)
    → has 2 (value (field 4 (record_at 7 (file_in b 7) at)) ∷ []) (records_of b 2) ≡ true
stop_met b at m p h =
    let n = fields_of 7 in
    let s = file_in b 7 in
    let rest = records_in n (drop at s) in
    let i = length p.past in
    let some : 0 < length rest = omega (arith, ap length (next_at n s at p h).rest) in
    let l : i < length (records_in n s) = omega (arith, ap length p.whole, length-append p.past rest) in
    let z : i + 0 ≡ i = omega arith in
    let e : get_or (records_in n s) i [] ≡ get_or rest 0 [] =
    ap (λ (rs : List Fields). get_or rs i []) p.whole ∙ rw z at (get_or-append-add p.past rest 0 []) in
    rw e at (m i l)

-- field 1 is a number in each of the files 2-13
pub first_number : (file : ℕ) → 2 ≤ file → file ≤ 13 → NumberAt file 1
unfolding numeric kind_of kinds kind.zastavky kind.pevnykod kind.dopravci kind.linky kind.spoje kind.zaslinky kind.zasspoje kind.udaje kind.caskody kind.altdop kind.altlinky kind.mistenky fields_of field_counts
first_number file low high = one_of_lem (λ (k : ℕ). NumberAt k 1) 2 12 ((refl, omega arith, omega arith), ((refl, omega arith, omega arith), ((refl, omega arith, omega arith), ((refl, omega arith, omega arith), ((refl, omega arith, omega arith), ((refl, omega arith, omega arith), ((refl, omega arith, omega arith), ((refl, omega arith, omega arith), ((refl, omega arith, omega arith), ((refl, omega arith, omega arith), ((refl, omega arith, omega arith), ((refl, omega arith, omega arith), tt)))))))))))) file low (omega arith)
