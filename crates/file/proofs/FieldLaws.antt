-- A field at a place of a file: what the reader's functions see of it, and what it does to the reading.
use Rattle.std.specs.Prelude.{Ok, Err}
use mathlib.Core.Path.{◌≡◌, refl, sym, ap, ◌∙◌}
use mathlib.Core.Bool.{Bool, true, false}
use mathlib.Core.List.{List, [], ◌∷◌}
use Prim.Native.Nat.{ℕ, suc, ◌+◌, ◌-◌, ◌≤◌, ◌<◌}
use native.Mathlib.Numerals.{add-one}
use native.Mathlib.Omega.{arith}
use lib.Dec.{eqb, ltb}
use lib.ListN.{length, get_or, drop, drop_of_length-le, length-drop}
use lib.Seq.{drop-cons, drop-drop}
use borrow.Author.Tests.{eqb-true, lt-ltb, le-ltb, ltb-true, ltb-false, eq-eqb}
use Rattle.laws.specs.Tests.{either, never, both_left}
use Rattle.file.specs.Bytes.{quote, goes, matched, starts, comma, semicolon, CR, LF, ends, undefined, permitted_byte, goes_on, closes}
use Rattle.file.specs.Format.{ending}
use Rattle.file.specs.Reading.{opening, within, State, state, is_last, step_in, run, finished_in, spans, outcome_in, outcome}
use Rattle.file.specs.Fields.{closing, next_field, next_record, halt, end_of, closed_by, ahead_of, ahead_from}
use Rattle.file.specs.declared.Outcome.TheVariants.{Unfit}
use Rattle.file.proofs.TextLaws.{goes_within, closes_at}
use Rattle.file.proofs.StepLaws.{TextRun, text_run, stays, run_cons, Passed, field_passed, field_halted}

-- a byte that stands at a place
pub starts_at : (b : ℕ) (s : List ℕ) (at : ℕ) → at < length s → starts b (drop at s) ≡ eqb (get_or s at 0) b
unfolding starts
starts_at b s at h = rw (drop-cons s at 0)

pub starts_past : (b : ℕ) (s : List ℕ) (at : ℕ) → length s ≤ at → starts b (drop at s) ≡ false
unfolding starts
starts_past b s at h = rw (drop_of_length-le s h)

matched_front : (d : ℕ) (due l : List ℕ) → starts d l ≡ true → matched (d ∷ due) l ≡ suc (matched due (drop 1 l))
unfolding matched starts
matched_front d due [] h = never h
matched_front d due (x ∷ l) h = rw h

-- one more byte of what is due, or no more
pub matched_more : (d : ℕ) (due s : List ℕ) (at next : ℕ) → next ≡ at + 1 → starts d (drop at s) ≡ true → matched (d ∷ due) (drop at s) ≡ suc (matched due (drop next s))
matched_more d due s at next e h = matched_front d due (drop at s) h ∙ rw (drop-drop, ← e)

pub matched_done : (l : List ℕ) → matched [] l ≡ 0
unfolding matched
matched_done l = refl

pub matched_none : (d : ℕ) (due l : List ℕ) → starts d l ≡ false → matched (d ∷ due) l ≡ 0
unfolding matched starts
matched_none d due [] h = refl
matched_none d due (x ∷ l) h = rw h

pub matched_within : (due l : List ℕ) → matched due l ≤ length l
unfolding matched
matched_within [] l = omega arith
matched_within (d ∷ due) [] = omega arith
matched_within (d ∷ due) (b ∷ l) = either (eqb b d) (λ e. rw e (omega (arith, matched_within due l))) (λ e. rw e (omega arith))

-- a text from its opening quote on, and what closes it, for the bytes l after the quote
module _ (n f k at a : ℕ) (last : Bool) (h : is_last n f ≡ last) (l : List ℕ) where
  inside : TextRun n f k (at + 1) (at + 1) within l
  inside = text_run n f k (at + 1) l (at + 1) within tt

  enters : run n (state opening f k at a) (quote ∷ l) ≡ run n (state within f k (at + 1) (at + 1)) l
  unfolding run step_in
  enters = refl

  enters_none : spans n (state opening f k at a) (quote ∷ l) ≡ spans n (state within f k (at + 1) (at + 1)) l
  unfolding spans step_in finished_in
  enters_none = refl

  -- the closing is whole: the reading goes on behind it, and the text is finished
  pub list_passed : matched (closing last) (drop (goes l) l) ≡ length (closing last)
      → Passed n f k (at + 1 + goes l) (at + 1) last (state opening f k at a) (quote ∷ l) (drop (length (closing last)) (drop (goes l) l))
  list_passed m =
      let r = inside in
      let p = field_passed n f k (at + 1 + goes l) (at + 1) last h r.to (drop (goes l) l) r.still m in
      record { runs = enters ∙ r.runs ∙ p.runs; one = enters_none ∙ r.none ∙ p.one }

  -- it is not: the reading halts where it breaks off
  pub list_halted : matched (closing last) (drop (goes l) l) < length (closing last)
      → outcome (run n (state opening f k at a) (quote ∷ l))
      ≡ halt (at + 1 + goes l + matched (closing last) (drop (goes l) l)) (ltb (matched (closing last) (drop (goes l) l)) (length (drop (goes l) l)))
  list_halted m =
      let r = inside in
      ap (λ (st : State). outcome st) (enters ∙ r.runs) ∙ field_halted n f k (at + 1 + goes l) (at + 1) last h r.to (drop (goes l) l) r.still r.stops m

-- a text stops where it stops
stop_again : (l : List ℕ) → goes (drop (goes l) l) ≡ 0
unfolding goes
stop_again [] = refl
stop_again (b ∷ l) = either (goes_on (b ∷ l)) (λ h. rw h (stop_again l)) (λ h. rw h (rw h))

stopped_text : (s : List ℕ) (at : ℕ) → goes (drop (end_of s at) s) ≡ 0
stopped_text s at = rw (← drop-drop (goes (drop at s)) at s) (stop_again (drop at s))

matched_due : (due l : List ℕ) → matched due l ≤ length due
unfolding matched
matched_due [] l = omega arith
matched_due (d ∷ due) [] = omega arith
matched_due (d ∷ due) (b ∷ l) = either (eqb b d) (λ e. rw e (omega (arith, matched_due due l))) (λ e. rw e (omega arith))

-- a text that stops at a quote stops because a field ends; where none ends, neither quote nor comma nor semicolon stands there
starts_quote : (l : List ℕ) → ends l ≡ true → starts quote l ≡ true
unfolding ends starts
starts_quote [] e = never e
starts_quote (a ∷ []) e = never e
starts_quote (a ∷ b ∷ l) e = both_left (eqb a quote) _ e

no_start : (l : List ℕ) → goes l ≡ 0 → ends l ≡ false → (b : ℕ) → permitted_byte b ≡ true → starts b l ≡ false
unfolding goes goes_on starts
no_start [] g e b p = refl
no_start (x ∷ l) g e b p =
    either (eqb x b)
    (λ q. absurd (let z = rw (e, eqb-true x b q, p) at g in omega arith))
    (λ q. q)

first_follows : (last : Bool) (l : List ℕ) → ((b : ℕ) → permitted_byte b ≡ true → starts b l ≡ false) → matched (ending last) l ≡ 0
unfolding permitted_byte undefined
first_follows true l h = matched_none semicolon (CR ∷ LF ∷ []) l (h semicolon refl)
first_follows false l h = matched_none comma [] l (h comma refl)

quote_fits : permitted_byte quote ≡ true
unfolding permitted_byte undefined
quote_fits = refl

ending_some : (last : Bool) → 0 < length (ending last)
ending_some true = omega arith
ending_some false = omega arith

same_test : (a b c d : ℕ) → (a < b → c < d) → (b ≤ a → d ≤ c) → ltb a b ≡ ltb c d
same_test a b c d p q =
    either (ltb a b)
    (λ h. h ∙ sym (lt-ltb c d (p (ltb-true a b h))))
    (λ h. h ∙ sym (le-ltb c d (q (ltb-false a b h))))

unopened : (n f k at a b : ℕ) (l : List ℕ) → eqb b quote ≡ false → outcome (run n (state opening f k at a) (b ∷ l)) ≡ Unfit at
unfolding step_in outcome_in
unopened n f k at a b l q = rw (run_cons n (state opening f k at a) b l, q, stays n f k at a l)

-- what follows a closing quote, by how much of it stands
pub from_stop : (s : List ℕ) (last : Bool) (at m : ℕ) → matched (ending last) (drop at s) ≡ m → m < length (ending last) → ahead_from s last at ≡ Err (at + m)
unfolding ahead_from
from_stop s last at m e h = rw (e, lt-ltb m (length (ending last)) h)

pub from_field : (s : List ℕ) (last : Bool) (at : ℕ) → matched (ending last) (drop at s) ≡ length (ending last) → ahead_from s last at ≡ Ok (at + length (ending last))
unfolding ahead_from
from_field s last at e = rw (e, le-ltb (length (ending last)) (length (ending last)) (omega arith))

pub no_quote_ahead : (s : List ℕ) (at : ℕ) (last : Bool) → eqb (get_or s at 0) quote ≡ false → ahead_of s at last ≡ Err at
unfolding ahead_of
no_quote_ahead s at last q = rw q

-- what lies ahead of an opening quote is what follows its text's closing
pub ahead_closed : (s : List ℕ) (at : ℕ) (last : Bool) (close : ℕ) → get_or s at 0 ≡ quote → close ≡ at + 1 + closes (drop (at + 1) s)
    → ahead_of s at last ≡ ahead_from s last close
unfolding ahead_of ahead_from
ahead_closed s at last close q e =
    let end = end_of s (at + 1) in
    let k = closes_at s (at + 1) end refl in
    either (ends (drop end s))
    (λ h.
    let c : close ≡ end + 1 = let z = rw h at k in omega arith in
    let m = matched_more quote (ending last) s end close c (starts_quote (drop end s) h) in
    let t = same_test (suc (matched (ending last) (drop close s))) (suc (length (ending last))) (matched (ending last) (drop close s)) (length (ending last)) (λ u. omega arith) (λ u. omega arith) in
    let w : end + suc (matched (ending last) (drop close s)) ≡ close + matched (ending last) (drop close s) = omega arith in
    rw (eq-eqb (get_or s at 0) quote q, m, t, w))
    (λ h.
    let c : close ≡ end = let z = rw h at k in omega arith in
    let g = stopped_text s (at + 1) in
    let no_byte = no_start (drop end s) g h in
    let m : matched (closing last) (drop end s) ≡ 0 = matched_none quote (ending last) (drop end s) (no_byte quote quote_fits) in
    let f : matched (ending last) (drop close s) ≡ 0 = rw c (first_follows last (drop end s) no_byte) in
    rw (eq-eqb (get_or s at 0) quote q, m, f, lt-ltb 0 (suc (length (ending last))) (omega arith), lt-ltb 0 (length (ending last)) (ending_some last), c))

-- the same at a place of a file: by what lies ahead of it
module _ (n f k at a : ℕ) (last : Bool) (h : is_last n f ≡ last) (s : List ℕ) (i : at < length s) where
  opens : get_or s at 0 ≡ quote → drop at s ≡ quote ∷ drop (at + 1) s
  opens q = rw (add-one, drop-cons s at 0, q)

  behind : drop (goes (drop (at + 1) s)) (drop (at + 1) s) ≡ drop (end_of s (at + 1)) s
  behind = rw drop-drop

  -- a whole field: the reading goes on at the next, and the text is finished
  pub field_on : (next : ℕ) → ahead_of s at last ≡ Ok next
      → Passed n f k (end_of s (at + 1)) (at + 1) last (state opening f k at a) (drop at s) (drop next s) × (next ≡ end_of s (at + 1) + length (closing last))
  unfolding ahead_of
  field_on next e =
      either (eqb (get_or s at 0) quote)
      (λ q.
      either (ltb (closed_by s last (end_of s (at + 1))) (length (closing last)))
      (λ t. let g = rw (q, t) at e in let z : ◌≡◌ {A = ℕ} 0 1 = cc in absurd (omega arith))
      (λ t.
      let g = rw (q, t) at e in
      let x : end_of s (at + 1) + closed_by s last (end_of s (at + 1)) ≡ next = cc in
      let m : closed_by s last (end_of s (at + 1)) ≡ length (closing last) =
      omega (arith, ltb-false (closed_by s last (end_of s (at + 1))) (length (closing last)) t, matched_due (closing last) (drop (end_of s (at + 1)) s)) in
      let y : next ≡ end_of s (at + 1) + length (closing last) = omega arith in
      let p = list_passed n f k at a last h (drop (at + 1) s) (rw behind m) in
      let w : drop (length (closing last)) (drop (goes (drop (at + 1) s)) (drop (at + 1) s)) ≡ drop next s = rw (behind, drop-drop, ← y) in
      (rw (opens (eqb-true (get_or s at 0) quote q), ← w) p, y)))
      (λ q. let g = rw q at e in let z : ◌≡◌ {A = ℕ} 0 1 = cc in absurd (omega arith))

  pub field_near : (next : ℕ) → ahead_of s at last ≡ Ok next → next ≤ length s
  unfolding ahead_of
  field_near next e =
      either (eqb (get_or s at 0) quote)
      (λ q.
      either (ltb (closed_by s last (end_of s (at + 1))) (length (closing last)))
      (λ t. let g = rw (q, t) at e in let z : ◌≡◌ {A = ℕ} 0 1 = cc in absurd (omega arith))
      (λ t.
      let g = rw (q, t) at e in
      let x : end_of s (at + 1) + closed_by s last (end_of s (at + 1)) ≡ next = cc in
      omega
      (arith, matched_within (closing last) (drop (end_of s (at + 1)) s), length-drop (end_of s (at + 1)) s, goes_within (drop (at + 1) s), length-drop (at + 1) s)))
      (λ q. let g = rw q at e in let z : ◌≡◌ {A = ℕ} 0 1 = cc in absurd (omega arith))

  -- so the reading from here on is the reading from the next field on
  pub field_run : (next : ℕ) → ahead_of s at last ≡ Ok next
      → run n (state opening f k at a) (drop at s) ≡ run n (state opening (next_field last f) (next_record last k) next 0) (drop next s)
  field_run next e =
      let o = field_on next e in
      o.0.runs ∙ ap (λ (x : ℕ). run n (state opening (next_field last f) (next_record last k) x 0) (drop next s)) (sym o.1)

  -- and the texts are this one and those from the next field on
  pub field_spans : (next : ℕ) → ahead_of s at last ≡ Ok next
      → spans n (state opening f k at a) (drop at s)
      ≡ record { start = at + 1; size = goes (drop (at + 1) s) } ∷ spans n (state opening (next_field last f) (next_record last k) next 0) (drop next s)
  field_spans next e =
      let o = field_on next e in
      let z : end_of s (at + 1) - (at + 1) ≡ goes (drop (at + 1) s) = omega arith in
      o.0.one
      ∙ ap
      (λ (x : ℕ).
      record { start = at + 1; size = end_of s (at + 1) - (at + 1) } ∷ spans n (state opening (next_field last f) (next_record last k) x 0) (drop next s))
      (sym o.1)
      ∙ ap (λ (x : ℕ). record { start = at + 1; size = x } ∷ spans n (state opening (next_field last f) (next_record last k) next 0) (drop next s)) z

  -- not a whole one: the reading halts
  pub field_off : (place : ℕ) → ahead_of s at last ≡ Err place → outcome (run n (state opening f k at a) (drop at s)) ≡ halt place (ltb place (length s))
  unfolding ahead_of
  field_off place e =
      either (eqb (get_or s at 0) quote)
      (λ q.
      either (ltb (closed_by s last (end_of s (at + 1))) (length (closing last)))
      (λ t.
      let g = rw (q, t) at e in
      let x : end_of s (at + 1) + closed_by s last (end_of s (at + 1)) ≡ place = cc in
      let p = list_halted n f k at a last h (drop (at + 1) s) (rw behind (ltb-true _ _ t)) in
      let r = rw (behind, length-drop) at p in
      let v =
      same_test (closed_by s last (end_of s (at + 1))) (length s - end_of s (at + 1)) place (length s) (λ u. omega arith)
      (λ u. omega (arith, goes_within (drop (at + 1) s), length-drop (at + 1) s)) in
      rw (opens (eqb-true (get_or s at 0) quote q)) (r ∙ rw (x, v)))
      (λ t. let g = rw (q, t) at e in let z : ◌≡◌ {A = ℕ} 0 1 = cc in absurd (omega arith)))
      (λ q.
      let g = rw q at e in
      let x : at ≡ place = cc in
      rw (drop-cons s at 0) (unopened n f k at a (get_or s at 0) (drop (suc at) s) q ∙ rw (lt-ltb place (length s) (omega arith), x)))
