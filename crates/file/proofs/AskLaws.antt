-- What is asked of a legal file: its k records of n fields have k times n texts, which are no more than its bytes, so the one that is
-- asked for is among them.
use mathlib.Core.Path.{◌≡◌, refl, sym, ap, ◌∙◌}
use mathlib.Core.Bool.{Bool, true, false}
use mathlib.Core.List.{List, [], ◌∷◌}
use Prim.Native.Nat.{ℕ, suc, ◌+◌, ◌-◌, ◌*◌, ◌≤◌, ◌<◌}
use native.Mathlib.Nat.{mul-le-mul_right}
use native.Mathlib.Omega.{arith}
use lib.Dec.{eqb, leb}
use lib.ListN.{length, length-append}
use borrow.Author.Tests.{le-leb, lt-leb}
use Rattle.laws.specs.Numbered.{answered, refused}
use Rattle.laws.specs.Tests.{pick, both}
use Rattle.file.specs.Answers.{span_of}
use Rattle.file.specs.Bytes.{quote, ends}
use Rattle.file.specs.Files.{among}
use Rattle.file.specs.Reader.{Reads, Sought, text_in, text_span}
use Rattle.file.specs.Reading.{Mode, opening, within, quoted, returning, feeding, stopped, State, fresh, is_last, follows, step, Span, finished_in, spans, reading}
use Rattle.file.specs.declared.Outcome.TheVariants.{Whole}
use Rattle.file.proofs.Demand3.{whole_legal}
use Rattle.file.proofs.PlaceLaws.{read_count, read_places, size_places}

-- a byte finishes one text at the most
one_text : (n : ℕ) (m : Mode) (f at a b : ℕ) → length (finished_in n m f at a b) ≤ 1
unfolding finished_in
one_text n opening f at a b = omega arith
one_text n within f at a b = omega arith
one_text n quoted f at a b = go (both (ends (quote ∷ b ∷ [])) (eqb b (follows (is_last n f))))
  where
    go : (t : Bool) → length (pick {A = List Span} t (record { start = a; size = at - 1 - a } ∷ []) []) ≤ 1
    go true = omega arith
    go false = omega arith
one_text n returning f at a b = omega arith
one_text n feeding f at a b = omega arith
one_text n stopped f at a b = omega arith

pub texts_few : (n : ℕ) (s : List ℕ) (st : State) → length (spans n st s) ≤ length s
unfolding spans
texts_few n [] st = omega arith
texts_few n (b ∷ s) st =
    let l = finished_in n st.mode st.field st.at st.start b in
    omega (arith, length-append l (spans n (step n st b) s), one_text n st.mode st.field st.at st.start b, texts_few n s (step n st b))

pub texts_count : (n : ℕ) (s : List ℕ) (k : ℕ) → Reads n s k → length (spans n fresh s) ≡ k * n
texts_count n s k h =
    let l = whole_legal n h.some s (rw h.whole tt) in
    let c = read_count n h.some l.0 l.1 in
    let d : Whole (length l.0) ≡ Whole k = sym c ∙ ap (λ (x : List ℕ). reading n x) l.2 ∙ h.whole in
    let e : length l.0 ≡ k = cc in
    let p = ap (λ (x : List ℕ). length (spans n fresh x)) l.2 in
    sym p ∙ ap length (read_places n h.some l.0 l.1) ∙ size_places n l.0 0 l.1 ∙ ap (λ (x : ℕ). x * n) e

-- so many texts stand before field f of record r
abbrev pub before_it : ℕ → ℕ → ℕ → ℕ
before_it n r f = (r - 1) * n + (f - 1)

-- and they are fewer than the file's bytes
pub record Few (n : ℕ) (s : List ℕ) (r f : ℕ) : Type 0 where
  pub rows : (r - 1) * n ≤ length s
  pub has : before_it n r f < length (spans n fresh s)
  pub all : length (spans n fresh s) ≤ length s

module _ (n : ℕ) (s : List ℕ) (k r f : ℕ) (h : Reads n s k) where
  pub few : 1 ≤ r → r ≤ k → 1 ≤ f → f ≤ n → Few n s r f
  few p q u v =
      let c = texts_count n s k h in
      let t = texts_few n s fresh in
      let m : suc (r - 1) * n ≤ k * n = mul-le-mul_right n (omega arith) in
      let e : suc (r - 1) * n ≡ (r - 1) * n + n = omega arith in
      record { rows = omega arith; has = omega arith; all = t }

  pub sought : 1 ≤ r → r ≤ k → 1 ≤ f → f ≤ n → Sought n s (before_it n r f)
  sought p q u v = record { some = h.some; count = k; whole = h.whole; has = (few p q u v).has }

  pub asked_in : 1 ≤ r → r ≤ k → 1 ≤ f → f ≤ n → answered ((text_span n s (before_it n r f)).start ∷ (text_span n s (before_it n r f)).size ∷ []) ≡ text_in n s k r f
  unfolding text_in span_of
  asked_in p q u v = rw (le-leb 1 r p, le-leb r k q, le-leb 1 f u, le-leb f n v)

-- no such record, and no such field
pub asked_no_record : (n : ℕ) (s : List ℕ) (k r f : ℕ) → among k r ≡ false → refused 20 ≡ text_in n s k r f
unfolding text_in
asked_no_record n s k r f h = rw h

pub asked_no_field : (n : ℕ) (s : List ℕ) (k r f : ℕ) → among n f ≡ false → refused 20 ≡ text_in n s k r f
unfolding text_in
asked_no_field n s k r f h = rw h (go (among k r))
  where
    go : (t : Bool) → refused 20 ≡ pick (both t false) (answered ((span_of n s r f).start ∷ (span_of n s r f).size ∷ [])) (refused 20)
    go true = refl
    go false = refl

pub among_zero : (n k : ℕ) → k ≡ 0 → among n k ≡ false
among_zero n k e = rw (lt-leb 1 k (omega arith))

pub among_over : (n k : ℕ) → n < k → among n k ≡ false
among_over n k h = rw (lt-leb k n h) (go (leb 1 k))
  where
    go : (t : Bool) → both t false ≡ false
    go true = refl
    go false = refl
