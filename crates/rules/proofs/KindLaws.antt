-- What is known of the texts of a record, all of whose fields are of their kinds: each is of its field's kind, and a date's field is
-- empty or a date.
use mathlib.Core.Path.{◌≡◌, refl}
use mathlib.Core.Bool.{Bool, true, false}
use mathlib.Core.List.{List, [], ◌∷◌}
use Prim.Native.Nat.{ℕ, zero, suc, ◌+◌, ◌-◌, ◌≤◌, ◌<◌}
use native.Mathlib.Omega.{arith}
use lib.ListN.{length, get_or}
use Rattle.laws.specs.Tests.{one_of, either}
use Rattle.file.specs.Format.{Text, Fields}
use Rattle.file.specs.Files.{fields_of}
use Rattle.field.specs.Values.{is_empty, is_date_text}
use Rattle.field.specs.Kinds.{kind_of, admits}
use Rattle.field.specs.Names.{field}
use Rattle.field.specs.Stage.{first_unkind}
use Rattle.field.specs.declared.Kind.{Kind}
use Rattle.walk.specs.Walk.{part_of}
use Rattle.walk.proofs.WalkLaws.{cut_size, cut_text}
use Rattle.dated.specs.Dates.{DateOrNone}
use Rattle.rules.specs.Texts.{texts, Kinded}

-- where no text is of another kind, the first is of its own, and none of the others is of another
of_first : (file f : ℕ) (t : Text) (ts : Fields) → 1 ≤ f → first_unkind file f (t ∷ ts) ≡ 0
    → (admits (kind_of file f) t ≡ true) × (first_unkind file (f + 1) ts ≡ 0)
unfolding first_unkind
of_first file f t ts h e =
    either (admits (kind_of file f) t)
    (λ p. (p, rw p at e))
    (λ p. let z = rw p at e in absurd (omega arith))

kind_from : (file f : ℕ) (r : Fields) (i : ℕ) → 1 ≤ f → first_unkind file f r ≡ 0 → i < length r → admits (kind_of file (f + i)) (get_or r i []) ≡ true
kind_from file f [] i h e l = absurd (omega arith)
kind_from file f (t ∷ ts) zero h e l = let z : f + 0 ≡ f = omega arith in rw z (of_first file f t ts h e).0
kind_from file f (t ∷ ts) (suc i) h e l =
    let z : f + suc i ≡ f + 1 + i = omega arith in
    rw z (kind_from file (f + 1) ts i (omega arith) (of_first file f t ts h e).1 (omega arith))

-- each field of a record is of its kind
pub kind_at : (file : ℕ) (r : Fields) → first_unkind file 1 r ≡ 0 → (f : ℕ) → 1 ≤ f → f ≤ length r → admits (kind_of file f) (field f r) ≡ true
kind_at file r e f h l =
    let z : 1 + (f - 1) ≡ f = omega arith in
    rw z at (kind_from file 1 r (f - 1) (omega arith) e (omega arith))

-- a record that was cut: field i + 1 is the text that was taken at i
module _ {file : ℕ} {s places : List ℕ} (k : Kinded file s places) (i : ℕ) (h : i < fields_of file) {t : Text} (e : t ≡ part_of s places i) where
  pub text_at : get_or (texts file s places) i [] ≡ t
  text_at = cut_text (fields_of file) s places i h t e

  -- it is of its field's kind
  pub text_kind : admits (kind_of file (1 + i)) t ≡ true
  text_kind =
      let l : 1 + i ≤ length (texts file s places) = omega (arith, cut_size (fields_of file) s places) in
      let z : 1 + i - 1 ≡ i = omega arith in
      rw (z, text_at) at (kind_at file (texts file s places) k.kinds (1 + i) (omega arith) l)

  -- and a date's is empty or a date
  pub maybe_date : kind_of file (1 + i) ≡ Kind.MaybeDate → DateOrNone t
  unfolding admits
  maybe_date d = rw d at text_kind

  pub sure_date : kind_of file (1 + i) ≡ Kind.Date → DateOrNone t
  unfolding admits
  sure_date d = go (is_empty t) (rw d at text_kind)
    where
      go : (b : Bool) → is_date_text t ≡ true → one_of b (is_date_text t) ≡ true
      go true q = refl
      go false q = q
