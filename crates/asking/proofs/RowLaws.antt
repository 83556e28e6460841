-- Laws of many questions: one turn of the loop over them, the end of it, how many there are, and whether their answers fit.
use mathlib.Core.Path.{◌≡◌, refl, sym, ap, ◌∙◌}
use mathlib.Core.Bool.{Bool, true, false}
use mathlib.Core.List.{List, [], ◌∷◌, ◌++◌}
use Prim.Native.Nat.{ℕ, suc, ◌+◌, ◌*◌, ◌/◌, ◌≤◌, ◌<◌}
use native.Mathlib.Numerals.{add-one}
use native.Mathlib.Omega.{arith}
use lib.Dec.{eqb}
use lib.ListN.{get_or, length, drop, set, length-set, length-drop}
use lib.Seq.{drop-cons}
use Rattle.laws.specs.Numbered.{Numbered, answered, refused}
use Rattle.laws.specs.Splice.{splice, store, splice_none, splice_then}
use Rattle.laws.specs.Tests.{pick}
use Rattle.fault.specs.Answers.{numbered_fault}
use Rattle.fault.proofs.OneResult.{fault_no_values}
use Rattle.fault.specs.declared.Fault.{Fault}
use Rattle.asking.specs.Rows.{Ask, rows, row_at, questions}

-- three stores side by side are one splice
pub three_stores : (d : List ℕ) (at a b c : ℕ) → at + 3 ≤ length d → set (set (set d at a) (at + 1) b) (at + 2) c ≡ splice d at (a ∷ b ∷ c ∷ [])
three_stores d at a b c h =
    let p : at + 1 < length (set d at a) = simp length-set (omega arith) in
    let q : at + 2 < length (set (set d at a) (at + 1) b) = simp length-set (omega arith) in
    store (set (set d at a) (at + 1) b) (at + 2) c q
    ∙ rw (store (set d at a) (at + 1) b p, store d at a (omega arith), splice_then d at (a ∷ []) (b ∷ []) (at + 1) refl (omega arith))
    (splice_then d at (a ∷ b ∷ []) (c ∷ []) (at + 2) refl (omega arith))

-- a list from place i on has its number there first
next : (s : List ℕ) (i j : ℕ) → j ≡ i + 1 → i < length s → drop i s ≡ get_or s i 0 ∷ drop j s
next s i j e h = rw (e, add-one, drop-cons s i 0 h)

-- seven of them
seven : (s : List ℕ) (i : ℕ) → i + 7 ≤ length s
    → drop i s ≡ get_or s i 0 ∷ get_or s (i + 1) 0 ∷ get_or s (i + 2) 0 ∷ get_or s (i + 3) 0 ∷ get_or s (i + 4) 0 ∷ get_or s (i + 5) 0 ∷ get_or s (i + 6) 0 ∷ drop (i + 7) s
seven s i h =
    rw (
      next s i (i + 1) (omega arith) (omega arith),
      next s (i + 1) (i + 2) (omega arith) (omega arith),
      next s (i + 2) (i + 3) (omega arith) (omega arith),
      next s (i + 3) (i + 4) (omega arith) (omega arith),
      next s (i + 4) (i + 5) (omega arith) (omega arith),
      next s (i + 5) (i + 6) (omega arith) (omega arith),
      next s (i + 6) (i + 7) (omega arith) (omega arith),
    )

-- ONE TURN. The question at place i, and those after it.
pub questions_turn : (s : List ℕ) (i : ℕ) → i + 7 ≤ length s → questions (drop i s) ≡ suc (questions (drop (i + 7) s))
unfolding questions
questions_turn s i h = rw (seven s i h)

pub rows_turn : (ask : Ask) (s : List ℕ) (i : ℕ) → i + 7 ≤ length s
    → rows ask (drop i s) ≡ row_at ask s i ++ rows ask (drop (i + 7) s)
unfolding rows
rows_turn ask s i h = rw (seven s i h)

-- THE END. Fewer than seven numbers are no question.
pub rows_few : (ask : Ask) (s : List ℕ) → length s < 7 → rows ask s ≡ []
unfolding rows
rows_few ask [] h = refl
rows_few ask (a ∷ []) h = refl
rows_few ask (a ∷ b ∷ []) h = refl
rows_few ask (a ∷ b ∷ c ∷ []) h = refl
rows_few ask (a ∷ b ∷ c ∷ d ∷ []) h = refl
rows_few ask (a ∷ b ∷ c ∷ d ∷ e ∷ []) h = refl
rows_few ask (a ∷ b ∷ c ∷ d ∷ e ∷ f ∷ []) h = refl
rows_few ask (a ∷ b ∷ c ∷ d ∷ e ∷ f ∷ g ∷ more) h = absurd (omega arith)

-- the answers are the same where each question's is
pub rows_same : (ask other : Ask) → ((a b c d e f g : ℕ) → ask a b c d e f g ≡ other a b c d e f g) → (s : List ℕ) → rows ask s ≡ rows other s
unfolding rows
rows_same ask other k [] = refl
rows_same ask other k (a ∷ []) = refl
rows_same ask other k (a ∷ b ∷ []) = refl
rows_same ask other k (a ∷ b ∷ c ∷ []) = refl
rows_same ask other k (a ∷ b ∷ c ∷ d ∷ []) = refl
rows_same ask other k (a ∷ b ∷ c ∷ d ∷ e ∷ []) = refl
rows_same ask other k (a ∷ b ∷ c ∷ d ∷ e ∷ f ∷ []) = refl
rows_same ask other k (a ∷ b ∷ c ∷ d ∷ e ∷ f ∷ g ∷ more) = rw (k a b c d e f g, rows_same ask other k more)

-- HOW MANY. A question is seven numbers, and fewer than seven are left.
pub questions_all : (s : List ℕ) → (7 * questions s ≤ length s) × (length s < 7 * questions s + 7)
unfolding questions
questions_all [] = (omega arith, omega arith)
questions_all (a ∷ []) = (omega arith, omega arith)
questions_all (a ∷ b ∷ []) = (omega arith, omega arith)
questions_all (a ∷ b ∷ c ∷ []) = (omega arith, omega arith)
questions_all (a ∷ b ∷ c ∷ d ∷ []) = (omega arith, omega arith)
questions_all (a ∷ b ∷ c ∷ d ∷ e ∷ []) = (omega arith, omega arith)
questions_all (a ∷ b ∷ c ∷ d ∷ e ∷ f ∷ []) = (omega arith, omega arith)
questions_all (a ∷ b ∷ c ∷ d ∷ e ∷ f ∷ g ∷ more) = let k = questions_all more in (omega (arith, k.0), omega (arith, k.1))

-- as the code counts them, and whether their answers fit
pub count_is : (s : List ℕ) → length s / 7 ≡ questions s
count_is s = omega (arith, (questions_all s).0, (questions_all s).1)

pub fits : (s list : List ℕ) → length s / 7 ≤ length list / 3 → 3 * questions s ≤ length list
fits s list h = omega (arith, count_is s)

pub fits_not : (s list : List ℕ) → length list / 3 < length s / 7 → length list < 3 * questions s
fits_not s list h = omega (arith, count_is s)

-- THE LOOP, at place i of the questions and place `at` of the list d.
module _ (ask : Ask) (s d : List ℕ) (i at : ℕ) where
  -- a turn: with one answer laid, the rest of the answers give the same list
  pub laid_turn : i + 7 ≤ length s → at + 3 * questions (drop i s) ≤ length d → {a b c : ℕ} → row_at ask s i ≡ a ∷ b ∷ c ∷ [] → {after : List ℕ} → after ≡ splice d at (a ∷ b ∷ c ∷ [])
      → splice after (at + 3) (rows ask (drop (i + 7) s)) ≡ splice d at (rows ask (drop i s))
  laid_turn h k {a} {b} {c} e f =
      rw (f, rows_turn ask s i h, e) (splice_then d at (a ∷ b ∷ c ∷ []) (rows ask (drop (i + 7) s)) (at + 3) refl (omega (arith, questions_turn s i h)))

  -- the end: the list is as it should be
  pub laid_all : length s ≤ i + 6 → {whole : List ℕ} → splice d at (rows ask (drop i s)) ≡ whole → d ≡ whole
  laid_all h e = sym (splice_none d at) ∙ rw (← rows_few ask (drop i s) (simp length-drop (omega arith))) e

-- WHAT COMES BACK. A refusal is that of a list with no room, and has a number.
pub room_short : (t : Bool) (f : Fault) (n : ℕ) → numbered_fault f ≡ pick t (answered (n ∷ [])) (refused 22) → eqb (numbered_fault f).number 0 ≡ false
room_short true f n e =
    let z : length (numbered_fault f).values ≡ 1 = ap (λ (a : Numbered). length a.values) e in
    let w : length (numbered_fault f).values ≡ 0 = ap (λ (vs : List ℕ). length vs) (fault_no_values f) in
    absurd (omega (arith, z, w))
room_short false f n e = ap (λ (a : Numbered). eqb a.number 0) e

-- an answer is how many there are, and they fit
pub room_enough : (t : Bool) (n m : ℕ) → answered (n ∷ []) ≡ pick t (answered (m ∷ [])) (refused 22) → (t ≡ true) × (n ≡ m)
room_enough true n m e = (refl, ap (λ (a : Numbered). get_or a.values 0 0) e)
room_enough false n m e =
    let z : ◌≡◌ {A = ℕ} 1 0 = ap (λ (a : Numbered). length a.values) e in
    absurd (omega (arith, z))
