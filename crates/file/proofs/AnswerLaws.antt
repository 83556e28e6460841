-- Laws of the reader's answers: which refusal comes first, what an answer says of the reading, and that a refusal has a number other than 0
-- and no values.
use mathlib.Core.Path.{◌≡◌, refl, ap, ◌∙◌, sym}
use mathlib.Core.Bool.{Bool, true, false}
use mathlib.Core.List.{List, [], ◌∷◌}
use Prim.Native.Nat.{ℕ, ◌≤◌, ◌<◌}
use native.Mathlib.Omega.{arith}
use lib.Dec.{eqb, leb, T}
use lib.ListN.{length}
use borrow.Author.Tests.{ne_eqb, le-leb, lt-leb, leb-true}
use Rattle.laws.specs.Below.{below}
use Rattle.laws.specs.Numbered.{Numbered, answered, refused, refused_at}
use Rattle.laws.specs.Tests.{one_of, either, clash, both_left, both_right, both_true}
use Rattle.file.specs.Answers.{numbered, asked, counted, located}
use Rattle.file.specs.Files.{is_file, field_counts, fields_of, longest}
use Rattle.file.specs.Reading.{reading}
use Rattle.file.specs.declared.Outcome.{Outcome}
use Rattle.file.specs.declared.Outcome.TheVariants.{Whole, Unfit, CutShort}
use Rattle.file.specs.declared.Refusal.{Refusal}
use Rattle.file.proofs.WriterLaws.{fields_file}

-- every file has a field, and what has none is no file
some_fields : ℕ → Bool
some_fields k = one_of (eqb k 0) (leb 1 (fields_of k))

one_of_lem : (a b : Bool) → T (one_of a b) → a ≡ false → b ≡ true
one_of_lem true b t e = clash refl e
one_of_lem false true t e = refl
one_of_lem false false t e = absurd t

pub file_fields : (file : ℕ) → is_file file ≡ true → 1 ≤ fields_of file
unfolding some_fields fields_of field_counts
file_fields file h =
    let a = leb-true 1 file (both_left (leb 1 file) (leb file 13) h) in
    let b = leb-true file 13 (both_right (leb 1 file) (leb file 13) h) in
    leb-true 1 (fields_of file) (one_of_lem (eqb file 0) (leb 1 (fields_of file)) (below 14 some_fields tt file (omega arith)) (ne_eqb file 0 (λ e. omega arith)))

pub file_some : (file : ℕ) → 1 ≤ fields_of file → is_file file ≡ true
file_some file h = let f = fields_file file 1 (omega arith) h in both_true (leb 1 file) (leb file 13) (le-leb 1 file f.0) (le-leb file 13 f.1)

pub file_none : (file : ℕ) → fields_of file ≡ 0 → is_file file ≡ false
file_none file e = either (is_file file) (λ t. absurd (omega (arith, file_fields file t))) (λ t. t)

-- the first refusal, or what the reading came to
module _ (answer : Outcome → Numbered) (file : ℕ) (s : List ℕ) where
  pub asked_none : is_file file ≡ false → refused 20 ≡ asked answer file s
  unfolding asked
  asked_none h = rw h

  pub asked_long : is_file file ≡ true → longest < length s → refused_at 1 file 0 ≡ asked answer file s
  unfolding asked
  asked_long h l = rw (h, lt-leb (length s) longest l)

  pub asked_read : is_file file ≡ true → length s ≤ longest → (o : Outcome) → o ≡ reading (fields_of file) s → answer o ≡ asked answer file s
  unfolding asked
  asked_read h l o e = rw (h, le-leb (length s) longest l, e)

-- a refusal's number is not 0
pub number_some : (r : Refusal) → (numbered r).number ≡ 0 → ⊥
unfolding numbered
number_some (Refusal.TooLong file) e = omega arith
number_some (Refusal.Unfit file at) e = omega arith
number_some (Refusal.CutShort file at) e = omega arith
number_some Refusal.NoSuch e = omega arith
number_some Refusal.NotPermitted e = omega arith
number_some Refusal.NoRoom e = omega arith

-- and it has no values
pub refusal_values : (r : Refusal) → (numbered r).values ≡ []
unfolding numbered
refusal_values (Refusal.TooLong file) = refl
refusal_values (Refusal.Unfit file at) = refl
refusal_values (Refusal.CutShort file at) = refl
refusal_values Refusal.NoSuch = refl
refusal_values Refusal.NotPermitted = refl
refusal_values Refusal.NoRoom = refl

-- a count tells that the file is legal; a refusal is the file's own, whatever is asked of it
pub record CountedIn (file : ℕ) (s : List ℕ) (k : ℕ) : Type 0 where
  pub file_is : is_file file ≡ true
  pub short : length s ≤ longest
  pub whole : reading (fields_of file) s ≡ Whole k

same_values : {x y : Numbered} → x ≡ y → (x.number ≡ y.number) × (x.values ≡ y.values)
same_values e = (ap (λ (z : Numbered). z.number) e, ap (λ (z : Numbered). z.values) e)

pub asked_whole : (file : ℕ) (s : List ℕ) (k : ℕ) → answered (k ∷ []) ≡ asked (counted file) file s → CountedIn file s k
unfolding asked counted
asked_whole file s k e =
    either (is_file file)
    (λ f.
    either (leb (length s) longest)
    (λ l. go f l (reading (fields_of file) s) refl (rw (f, l) at e))
    (λ l. absurd (let z = (same_values (rw (f, l) at e)).0 in omega arith)))
    (λ f. absurd (let z = (same_values (rw f at e)).0 in omega arith))
  where
    go : is_file file ≡ true → leb (length s) longest ≡ true → (o : Outcome) → reading (fields_of file) s ≡ o → answered (k ∷ []) ≡ counted file o → CountedIn file s k
    go f l (Whole j) r e = let z = (same_values e).1 in let d : k ≡ j = cc in record { file_is = f; short = leb-true (length s) longest l; whole = r ∙ rw d }
    go f l (Unfit at) r e = absurd (let z = (same_values e).0 in omega arith)
    go f l (CutShort at) r e = absurd (let z = (same_values e).0 in omega arith)

-- a refusal is the file's own, whatever is asked of it, where what is asked keeps 2 and 3
pub asked_own : (file : ℕ) (s : List ℕ) (answer : Outcome → Numbered) → ((at : ℕ) → answer (Unfit at) ≡ refused_at 2 file at) → ((at : ℕ) → answer (CutShort at) ≡ refused_at 3 file at)
    → (why : Refusal) → numbered why ≡ asked (counted file) file s → numbered why ≡ asked answer file s
unfolding asked counted
asked_own file s answer p q why e =
    either (is_file file)
    (λ i. either (leb (length s) longest) (λ l. rw (i, l) (go (reading (fields_of file) s) (rw (i, l) at e))) (λ l. rw (i, l) (rw (i, l) at e)))
    (λ i. rw i (rw i at e))
  where
    go : (o : Outcome) → numbered why ≡ counted file o → numbered why ≡ answer o
    go (Whole k) e = absurd (number_some why (same_values e).0)
    go (Unfit at) e = e ∙ sym (p at)
    go (CutShort at) e = e ∙ sym (q at)

pub asked_refused : (file : ℕ) (s : List ℕ) (r f : ℕ) (why : Refusal) → numbered why ≡ asked (counted file) file s → numbered why ≡ asked (located file s r f) file s
unfolding located
asked_refused file s r f why e = asked_own file s (located file s r f) (λ at. refl) (λ at. refl) why e
