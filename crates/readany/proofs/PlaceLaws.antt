-- A record whose fields were read: what the places say of each text, and that the bytes are the writing of all.
use mathlib.Core.Path.{◌≡◌, refl, sym, ap, ◌∙◌, subst}
use mathlib.Core.Bool.{Bool, true, false}
use mathlib.Core.List.{List, [], ◌∷◌, ◌++◌, append_assoc}
use Prim.Native.Nat.{ℕ, zero, suc, ◌+◌, ◌-◌, ◌≤◌, ◌<◌}
use native.Mathlib.Numerals.{add-one}
use native.Mathlib.Omega.{arith}
use lib.ListN.{drop}
use borrow.Author.Tests.{lt-ltb, le-ltb}
use Rattle.std.specs.Prelude.{Option, Some, None, IfSome}
use Rattle.file.specs.Bytes.{quote, comma, semicolon, CR, LF, permitted_text}
use Rattle.file.specs.Format.{Text, Fields, written_field, written_record, PermittedTexts}
use Rattle.file.specs.Records.{up_to}
use Rattle.field.specs.Kinds.{kind_of, admits}
use Rattle.field.specs.Stage.{first_unkind}
use Rattle.walk.specs.Walk.{start_of, part_of, cut_record, Parted}
use Rattle.extent.specs.Extent.{between}
use Rattle.onward.specs.Onward.{follower, Come, Due}
use Rattle.onward.proofs.StepLaws.{starts_bytes}
use Rattle.readany.specs.Reads.{LineTo, ReadTo}

-- a whole field: its bytes, and what follows it
record FieldIs (last : Bool) (s : List ℕ) (at : ℕ) (t : Text) (next : ℕ) : Type 0 where
  bytes : drop at s ≡ written_field last t ++ drop next s
  fits : permitted_text t ≡ true

-- fields behind one another are a record
record Wrote (s : List ℕ) (at : ℕ) (ts : Fields) (next : ℕ) : Type 0 where
  bytes : drop at s ≡ written_record ts ++ drop next s
  texts : PermittedTexts ts

wrote : (s : List ℕ) (m : ℕ) (p : ℕ → ℕ) (g : ℕ → Text) (next : ℕ) → ((i : ℕ) → i < m → FieldIs false s (p i) (g i) (p (suc i))) → FieldIs true s (p m) (g m) next
    → Wrote s (p 0) (up_to (suc m) g) next
unfolding up_to written_record PermittedTexts
wrote s zero p g next f l = record { bytes = l.bytes; texts = (l.fits, tt) }
wrote s (suc m) p g next f l =
    let w = wrote s m (λ i. p (suc i)) (λ i. g (suc i)) next (λ i h. f (suc i) (omega arith)) l in
    let a = f 0 (omega arith) in
    let r = written_record (up_to (suc m) (λ i. g (suc i))) in
    record {
      bytes = a.bytes ∙ ap (λ (x : List ℕ). written_field false (g 0) ++ x) w.bytes ∙ sym (append_assoc (written_field false (g 0)) r (drop next s));
      texts = (a.fits, w.texts);
    }

-- texts that are of their kinds one by one
all_kinds : (file m : ℕ) (g : ℕ → Text) (f : ℕ) → ((i : ℕ) → i < m → admits (kind_of file (f + i)) (g i) ≡ true) → first_unkind file f (up_to m g) ≡ 0
unfolding up_to first_unkind
all_kinds file zero g f h = refl
all_kinds file (suc m) g f h =
    let z : f + 0 ≡ f = omega arith in
    let a = rw z at (h 0 (omega arith)) in
    rw a (all_kinds file m (λ i. g (suc i)) (f + 1) (λ i l. let y : f + 1 + i ≡ f + suc i = omega arith in rw y (h (suc i) (omega arith))))

-- n fields were read, and behind them CR and LF: the record is whole
module _ (file m : ℕ) (s : List ℕ) (start : ℕ) (places : List ℕ) (c : Come file (m + 1) s start places (m + 1)) (few : m < 13) (next : ℕ) (h : LineTo s (start_of places (m + 1) - 1) next) where
  parts : Parted (m + 1) s places
  parts j l = let t = c.fields j l in record { few = omega arith; order = t.order; near = omega (arith, t.near) }

  text_is : (j : ℕ) → j < m + 1 → part_of s places j ≡ between s (start_of places j) (start_of places (j + 1) - 3)
  unfolding part_of
  text_is j l = refl

  -- a field but the last, and the last
  one_field : (j : ℕ) → j < m → FieldIs false s (start_of places j - 1) (part_of s places j) (start_of places (suc j) - 1)
  unfolding written_field part_of
  one_field j l =
      let t = c.fields j (omega arith) in
      let q = start_of places (j + 1) in
      let e : follower (j + 1) (m + 1) ≡ comma = rw (lt-ltb (j + 1) (m + 1) (omega arith)) in
      let k : q - 2 + 1 ≡ q - 1 = omega (arith, t.order) in
      let b : drop (q - 2) s ≡ comma ∷ drop (q - 1) s = rw k at (starts_bytes comma s (q - 2) (rw e at (c.marks j (omega arith)))) in
      rw (← add-one j)
      (record {
        bytes = t.bytes ∙ ap (λ (x : List ℕ). quote ∷ (part_of s places j ++ quote ∷ x)) b ∙ ap (λ (x : List ℕ). quote ∷ x) (sym (append_assoc (part_of s places j) (quote ∷ comma ∷ []) (drop (q - 1) s)));
        fits = t.fits;
      })

  last_field : FieldIs true s (start_of places m - 1) (part_of s places m) next
  unfolding written_field part_of
  last_field =
      let t = c.fields m (omega arith) in
      let q = start_of places (m + 1) in
      let e : follower (m + 1) (m + 1) ≡ semicolon = rw (le-ltb (m + 1) (m + 1) (omega arith)) in
      let k : q - 2 + 1 ≡ q - 1 = omega (arith, t.order) in
      let n : q - 1 + 1 + 1 ≡ next = omega (arith, h.place) in
      let b : drop (q - 2) s ≡ semicolon ∷ drop (q - 1) s = rw k at (starts_bytes semicolon s (q - 2) (rw e at (c.marks m (omega arith)))) in
      let d : drop (q - 1) s ≡ CR ∷ drop (q - 1 + 1) s = starts_bytes CR s (q - 1) h.first in
      let g : drop (q - 1 + 1) s ≡ LF ∷ drop next s = rw n at (starts_bytes LF s (q - 1 + 1) h.second) in
      let w : drop (q - 2) s ≡ semicolon ∷ CR ∷ LF ∷ drop next s = b ∙ ap (λ (x : List ℕ). semicolon ∷ x) (d ∙ ap (λ (x : List ℕ). CR ∷ x) g) in
      record {
        bytes = t.bytes ∙ ap (λ (x : List ℕ). quote ∷ (part_of s places m ++ quote ∷ x)) w ∙ ap (λ (x : List ℕ). quote ∷ x) (sym (append_assoc (part_of s places m) (quote ∷ semicolon ∷ CR ∷ LF ∷ []) (drop next s)));
        fits = t.fits;
      }

  whole : Wrote s (start_of places 0 - 1) (up_to (suc m) (λ j. part_of s places j)) next
  whole = wrote s m (λ j. start_of places j - 1) (λ j. part_of s places j) next one_field last_field

  kinds : first_unkind file 1 (up_to (suc m) (λ j. part_of s places j)) ≡ 0
  unfolding part_of
  kinds =
      all_kinds file (suc m) (λ j. part_of s places j) 1
      (λ j l. let t = c.fields j (omega arith) in let z : 1 + j ≡ j + 1 = omega arith in rw z t.kind)

  pub come_last : start + 1 ≤ start_of places (m + 1) → ReadTo file (m + 1) s start places next
  unfolding cut_record
  come_last from =
      let z : start_of places 0 - 1 ≡ start = omega (arith, c.first) in
      record {
        far = omega (arith, h.place);
        near = h.near;
        parted = parts;
        bytes = rw (add-one m) (rw z at whole.bytes);
        texts = rw (add-one m) whole.texts;
        kinds = rw (add-one m) kinds;
      }

-- the same, where the line's end is due at `at`
pub due_all : (file n m : ℕ) (s : List ℕ) (start : ℕ) (places : List ℕ) (f at next : ℕ) → Due file m s start places f at → n ≡ m → f ≡ m → 1 ≤ m → LineTo s at next → ReadTo file n s start places next
due_all file n m s start places f at next d same all some h =
    let z : m ≡ n - 1 + 1 = omega arith in
    let w : f ≡ n - 1 + 1 = omega arith in
    let y : n - 1 + 1 ≡ n = omega arith in
    let c = subst (λ (x : ℕ). Come file x s start places (n - 1 + 1)) z (subst (λ (x : ℕ). Come file m s start places x) w d.come) in
    let p : start_of places (n - 1 + 1) ≡ at + 1 = subst (λ (x : ℕ). start_of places x ≡ at + 1) w d.here in
    let k : at ≡ start_of places (n - 1 + 1) - 1 = omega arith in
    subst (λ (x : ℕ). ReadTo file x s start places next) y
    (come_last file (n - 1) s start places c (omega (arith, d.few)) next (subst (λ (x : ℕ). LineTo s x next) k h) (omega (arith, d.from)))

-- the same of a line's end that was looked for
pub due_read : {file n m : ℕ} {s : List ℕ} {start : ℕ} {places : List ℕ} {f at : ℕ} → Due file m s start places f at → n ≡ m → f ≡ m → 1 ≤ m → (found : Option ℕ)
    → IfSome found (λ next. LineTo s at next) → IfSome found (λ next. ReadTo file n s start places next)
due_read {file = file} {n = n} {m = m} {s = s} {start = start} {places = places} {f = f} {at = at} d same all some (Some next) h = due_all file n m s start places f at next d same all some h
due_read d same all some None h = h

-- a record that was read, by the numbers that its file and its fields were found to have
pub read_as : {file k n m : ℕ} {s : List ℕ} {start : ℕ} {places : List ℕ} {next : ℕ} → file ≡ k → n ≡ m → ReadTo k m s start places next → ReadTo file n s start places next
read_as {k = k} {n = n} {s = s} {start = start} {places = places} {next = next} e d h =
    subst (λ (x : ℕ). ReadTo x n s start places next) (sym e) (subst (λ (x : ℕ). ReadTo k x s start places next) (sym d) h)

pub found_as : {file k n m : ℕ} (s : List ℕ) (start : ℕ) (places : List ℕ) (found : Option ℕ) → file ≡ k → n ≡ m
    → IfSome found (λ next. ReadTo k m s start places next) → IfSome found (λ next. ReadTo file n s start places next)
found_as s start places (Some next) e d h = read_as e d h
found_as s start places None e d h = h
