-- The text that so many others stand before, sought from a file's start on: in a legal file a whole field lies ahead as long as a text is
-- still to come.
use Rattle.std.specs.Prelude.{Result, Ok, Err}
use mathlib.Core.Path.{◌≡◌, refl, sym, ap, ◌∙◌}
use mathlib.Core.Bool.{Bool, true, false}
use mathlib.Core.List.{List, [], ◌∷◌}
use Prim.Native.Nat.{ℕ, zero, suc, ◌+◌, ◌-◌, ◌≤◌, ◌<◌}
use native.Mathlib.Omega.{arith}
use lib.Dec.{ltb}
use lib.ListN.{length, get_or, drop, drop_of_length-le}
use borrow.Author.Tests.{ltb-true, ltb-false}
use Rattle.laws.specs.Tests.{either}
use Rattle.file.specs.Reading.{opening, State, state, is_last, run, Span, spans, outcome}
use Rattle.file.specs.Fields.{closing, next_field, next_record, halt, end_of, ahead_of}
use Rattle.file.specs.Reader.{Sought, OpensAt, text_span}
use Rattle.file.proofs.Sound.{IsWhole}
use Rattle.file.proofs.FieldLaws.{field_on, field_near, field_run, field_spans, field_off}

-- a reading that halts is not whole
halt_not_whole : (p : ℕ) (t : Bool) → IsWhole (halt p t) → ⊥
halt_not_whole p true w = w
halt_not_whole p false w = w

-- where a text is still to come in a legal file, a whole field lies ahead
pub record TextAhead (s : List ℕ) (at : ℕ) (last : Bool) : Type 0 where
  pub within : at < length s
  pub next : ℕ
  pub ahead : ahead_of s at last ≡ Ok next

no_text : (n : ℕ) (st : State) (s : List ℕ) (at : ℕ) → length s ≤ at → spans n st (drop at s) ≡ []
unfolding spans
no_text n st s at h = rw (drop_of_length-le s h)

pub text_ahead : (n f k at : ℕ) (s : List ℕ) → IsWhole (outcome (run n (state opening f k at 0) (drop at s))) → 0 < length (spans n (state opening f k at 0) (drop at s))
    → TextAhead s at (is_last n f)
text_ahead n f k at s w h =
    let i : at < length s = either (ltb at (length s)) (λ t. ltb-true at (length s) t) (λ t. absurd (omega (arith, ap length (no_text n (state opening f k at 0) s at (ltb-false at (length s) t))))) in
    go i (ahead_of s at (is_last n f)) refl
  where
    go : at < length s → (a : Result ℕ ℕ) → ahead_of s at (is_last n f) ≡ a → TextAhead s at (is_last n f)
    go i (Ok next) e = record { within = i; next = next; ahead = e }
    go i (Err place) e = absurd (halt_not_whole place (ltb place (length s)) (rw (field_off n f k at 0 (is_last n f) refl s i place e) at w))

-- the text that is sought has `left` texts before it from `at` on, where a field's opening quote is due
pub record TextsLeft (n : ℕ) (s : List ℕ) (others at f left : ℕ) : Type 0 where
  pub k : ℕ
  pub whole : IsWhole (outcome (run n (state opening f k at 0) (drop at s)))
  pub has : left < length (spans n (state opening f k at 0) (drop at s))
  pub same : get_or (spans n (state opening f k at 0) (drop at s)) left (record { start = 0; size = 0 }) ≡ text_span n s others

pub left_first : (n : ℕ) (s : List ℕ) (others : ℕ) → Sought n s others → TextsLeft n s others 0 0 others
left_first n s others h = record { k = 0; whole = rw h.whole tt; has = h.has; same = refl }

first_of : (xs : List Span) (x : Span) (l : List Span) → xs ≡ x ∷ l → (i : ℕ) → i ≤ 0 → get_or xs i (record { start = 0; size = 0 }) ≡ x
first_of xs x l e zero h = rw e
first_of xs x l e (suc i) h = absurd (omega arith)

module _ (n : ℕ) (s : List ℕ) (others at f left : ℕ) (l : TextsLeft n s others at f left) where
  pub left_ahead : TextAhead s at (is_last n f)
  left_ahead = text_ahead n f l.k at s l.whole (omega (arith, l.has))

  -- past a whole field there is one text less
  pub left_next : (next : ℕ) → ahead_of s at (is_last n f) ≡ Ok next → 0 < left → TextsLeft n s others next (next_field (is_last n f) f) (left - 1)
  left_next next e h =
      let i = left_ahead.within in
      let r = field_run n f l.k at 0 (is_last n f) refl s i next e in
      let p = field_spans n f l.k at 0 (is_last n f) refl s i next e in
      let d : left ≡ suc (left - 1) = omega arith in
      record {
        k = next_record (is_last n f) l.k;
        whole = rw r at l.whole;
        has = let g = rw p at l.has in omega arith;
        same = (rw (p, d) at l.same);
      }

  -- the place past it
  abbrev pub past : ℕ
  past = end_of s (at + 1) + length (closing (is_last n f))

  pub past_is : left_ahead.next ≡ past
  past_is = (field_on n f l.k at 0 (is_last n f) refl s left_ahead.within left_ahead.next left_ahead.ahead).1

  pub past_near : past ≤ length s
  past_near = rw past_is at (field_near n f l.k at 0 (is_last n f) refl s left_ahead.within left_ahead.next left_ahead.ahead)

  pub left_past : 0 < left → TextsLeft n s others past (next_field (is_last n f) f) (left - 1)
  left_past h = rw past_is at (left_next left_ahead.next left_ahead.ahead h)

  -- where none stands before it, its opening quote is due here
  pub left_none : left ≤ 0 → OpensAt n s others at
  left_none h =
      let a = left_ahead in
      let p = field_spans n f l.k at 0 (is_last n f) refl s a.within a.next a.ahead in
      record { near = a.within; text = sym l.same ∙ first_of _ _ _ p left h }
