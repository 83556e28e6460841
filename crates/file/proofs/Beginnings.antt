-- Which beginnings are beginnings of legal files: each that the reading gets through, since every state can be completed, and none
-- beyond the byte at which it stops, since a reading that stopped stays so.
use mathlib.Core.Path.{◌≡◌, refl, sym, ap, ◌∙◌, subst}
use mathlib.Core.List.{List, [], ◌∷◌, ◌++◌}
use mathlib.Core.Logic.{◌⊎◌, inl, inr}
use Prim.Native.Nat.{ℕ, zero, suc, ◌+◌, ◌-◌, ◌≤◌, ◌<◌}
use native.Mathlib.Nat.{add-zero}
use native.Mathlib.Omega.{arith}
use lib.Dec.{eqb}
use lib.ListN.{length, take}
use borrow.Author.Tests.{eqb-true, eqb-false}
use Rattle.laws.specs.Tests.{either}
use Rattle.file.specs.Bytes.{quote, comma, semicolon, CR, LF, ends, permitted_byte, permitted_text}
use Rattle.file.specs.Format.{Fields, written_record, PermittedTexts}
use Rattle.file.specs.Fields.{closing, next_field, next_record}
use Rattle.file.specs.Reading.{Mode, opening, within, quoted, returning, feeding, stopped, State, state, is_last, in_text, after_text, step_in, step, run, outcome_in, outcome}
use Rattle.file.specs.declared.Outcome.TheVariants.{Unfit, CutShort}
use Rattle.file.proofs.StepLaws.{TextMode, run_cons, stays, closed_run}
use Rattle.file.proofs.ReadBack.{record_read}
use Rattle.file.proofs.Sound.{IsWhole, Room}

pub run_append : (n : ℕ) (x : List ℕ) (st : State) (y : List ℕ) → run n st (x ++ y) ≡ run n (run n st x) y
unfolding run
run_append n [] st y = refl
run_append n (b ∷ x) st y = run_append n x (step n st b) y

-- the reading has not stopped
abbrev pub Going : Mode → Type 0
Going opening = Unit
Going within = Unit
Going quoted = Unit
Going returning = Unit
Going feeding = Unit
Going stopped = ⊥

-- so many empty texts
blanks : ℕ → Fields
blanks zero = []
blanks (suc d) = [] ∷ blanks d

size_blanks : (d : ℕ) → length (blanks d) ≡ d
unfolding blanks
size_blanks zero = refl
size_blanks (suc d) = ap suc (size_blanks d)

permitted_blanks : (d : ℕ) → PermittedTexts (blanks d)
unfolding blanks PermittedTexts permitted_text
permitted_blanks zero = tt
permitted_blanks (suc d) = (refl, permitted_blanks d)

-- every reading that has not stopped can be completed: from a due field by empty ones
abbrev Completed : ℕ → State → Type 0
Completed n st = (more : List ℕ) × IsWhole (outcome (run n st more))

complete_fields : (n f k at a : ℕ) → f < n → Completed n (state opening f k at a)
unfolding run outcome_in
complete_fields n f k at a h =
    let ts = blanks (n - f) in
    let r = record_read n k ts f at a [] (omega (arith, size_blanks (n - f))) (omega (arith, size_blanks (n - f))) (permitted_blanks (n - f)) in
    (written_record ts ++ [], subst (λ (st : State). IsWhole (outcome st)) (sym r.runs) tt)

pub fewer : (n f : ℕ) → f < n → next_field (is_last n f) f < n
fewer n f h = either (is_last n f) (λ e. rw e (omega arith)) (λ e. rw e (let g = eqb-false (f + 1) n e in omega arith))

-- from within a text by its closing
complete_text : (n f k at a : ℕ) (m : Mode) → TextMode m [] → f < n → Completed n (state m f k at a)
complete_text n f k at a m t h =
    let last = is_last n f in
    let r = complete_fields n (next_field last f) (next_record last k) (at + length (closing last)) 0 (fewer n f h) in
    (closing last ++ r.0, subst (λ (st : State). IsWhole (outcome st)) (sym (closed_run n f k at a last refl m r.0 t).runs) r.1)

pub complete : (n : ℕ) (m : Mode) (f k at a : ℕ) → Room n m f → Going m → Completed n (state m f k at a)
unfolding run step_in outcome_in ends
complete n opening f k at a r g = complete_fields n f k at a r
complete n within f k at a r g = complete_text n f k at a within tt r
complete n quoted f k at a r g = complete_text n f k at a quoted refl r
complete n returning f k at a r g = (CR ∷ LF ∷ [], tt)
complete n feeding f k at a r g = (LF ∷ [], tt)
complete n stopped f k at a r g = absurd g

-- one byte: the reading stops at it, or goes on past it
pub record On (n : ℕ) (st : State) : Type 0 where
  pub going : Going st.mode
  pub room : Room n st.mode st.field

abbrev Next : ℕ → State → State → Type 0
Next n st to = (to ≡ state stopped st.field st.records st.at st.start) ⊎ (On n to × (to.at ≡ st.at + 1))

in_text_lem : (n f k at a b : ℕ) (m : Mode) → f < n → Next n (state m f k at a) (in_text f k at a b)
unfolding in_text
in_text_lem n f k at a b m r =
    either (permitted_byte b)
    (λ p. either (eqb b quote) (λ q. rw (p, q) (inr (record { going = tt; room = r }, refl))) (λ q. rw (p, q) (inr (record { going = tt; room = r }, refl))))
    (λ p. rw p (inl refl))

after_text_lem : (n f k at a b : ℕ) (m : Mode) → f < n → Next n (state m f k at a) (after_text (is_last n f) f k at a b)
unfolding after_text
after_text_lem n f k at a b m r =
    either (is_last n f)
    (λ l.
    either (eqb b semicolon)
    (λ q. rw (l, q) (inr (record { going = tt; room = eqb-true (f + 1) n l }, refl)))
    (λ q. rw (l, q) (inl refl)))
    (λ l.
    either (eqb b comma)
    (λ q. let g = eqb-false (f + 1) n l in rw (l, q) (inr (record { going = tt; room = omega arith }, refl)))
    (λ q. rw (l, q) (inl refl)))

pub next : (n : ℕ) → 1 ≤ n → (m : Mode) (f k at a b : ℕ) → On n (state m f k at a) → Next n (state m f k at a) (step n (state m f k at a) b)
unfolding step_in
next n h opening f k at a b o = either (eqb b quote) (λ q. rw q (inr (record { going = tt; room = o.room }, refl))) (λ q. rw q (inl refl))
next n h within f k at a b o = in_text_lem n f k at a b within o.room
next n h quoted f k at a b o =
    either (ends (quote ∷ b ∷ [])) (λ e. rw e (after_text_lem n f k at a b quoted o.room)) (λ e. rw e (in_text_lem n f k at a b quoted o.room))
next n h returning f k at a b o = either (eqb b CR) (λ q. rw q (inr (record { going = tt; room = o.room }, refl))) (λ q. rw q (inl refl))
next n h feeding f k at a b o = either (eqb b LF) (λ q. rw q (inr (record { going = tt; room = h }, refl))) (λ q. rw q (inl refl))
next n h stopped f k at a b o = absurd o.going

-- a whole reading either goes on to the end, or stops at a byte, and goes on to there
pub record Stopped (n : ℕ) (st : State) (s : List ℕ) : Type 0 where
  pub j : ℕ
  pub short : j < length s
  pub goes : On n (run n st (take j s))
  pub stops : (more : List ℕ) → outcome (run n st (take (suc j) s ++ more)) ≡ Unfit (st.at + j)
  pub comes : outcome (run n st s) ≡ Unfit (st.at + j)

pub record Ended (n : ℕ) (st : State) (s : List ℕ) : Type 0 where
  pub goes : On n (run n st s)
  pub place : (run n st s).at ≡ st.at + length s

stopped_at : (n b f k at a : ℕ) (st : State) (s : List ℕ) → step n st b ≡ state stopped f k at a → outcome (run n st (b ∷ s)) ≡ Unfit at
unfolding outcome_in
stopped_at n b f k at a st s e = rw (run_cons n st b s, e, stays n f k at a s)

pub to_the_end : (n : ℕ) → 1 ≤ n → (s : List ℕ) (st : State) → On n st → Stopped n st s ⊎ Ended n st s
unfolding run
to_the_end n h [] st o = inr (record { goes = o; place = rw add-zero })
to_the_end n h (b ∷ s) st o = go (next n h st.mode st.field st.records st.at st.start b o) (to_the_end n h s (step n st b))
  where
    go : Next n st (step n st b) → (On n (step n st b) → Stopped n (step n st b) s ⊎ Ended n (step n st b) s) → Stopped n st (b ∷ s) ⊎ Ended n st (b ∷ s)
    go (inl e) ih = inl (record { j = 0; short = omega arith; goes = o; stops = λ more. stopped_at n b _ _ _ _ st more e ∙ rw add-zero; comes = stopped_at n b _ _ _ _ st s e ∙ rw add-zero })
    go (inr e) ih = further (ih e.0)
      where
        further : Stopped n (step n st b) s ⊎ Ended n (step n st b) s → Stopped n st (b ∷ s) ⊎ Ended n st (b ∷ s)
        further (inl r) =
            let w : (step n st b).at + r.j ≡ st.at + suc r.j = omega (arith, e.1) in
            inl (record { j = suc r.j; short = omega (arith, r.short); goes = r.goes; stops = λ more. r.stops more ∙ rw w; comes = r.comes ∙ rw w })
        further (inr r) = inr (record { goes = r.goes; place = r.place ∙ omega (arith, e.1) })

-- where the bytes end, a reading that goes on is whole or cut short
pub ended : (n : ℕ) (m : Mode) (f k at a : ℕ) → Going m → IsWhole (outcome (state m f k at a)) ⊎ (outcome (state m f k at a) ≡ CutShort at)
unfolding outcome_in
ended n opening f k at a g = either (eqb f 0) (λ e. rw e (inl tt)) (λ e. rw e (inr refl))
ended n within f k at a g = inr refl
ended n quoted f k at a g = inr refl
ended n returning f k at a g = inr refl
ended n feeding f k at a g = inr refl
ended n stopped f k at a g = absurd g
