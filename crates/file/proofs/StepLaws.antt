-- What the step makes of a text and of what closes it. A text takes the reading to where it stops (`text_run`); there either the whole
-- closing stands, and the field is passed (`field_passed`), or the reading halts where the closing breaks off (`field_halted`).
use mathlib.Core.Path.{◌≡◌, refl, sym, ap, ◌∙◌}
use mathlib.Core.Bool.{Bool, true, false}
use mathlib.Core.List.{List, [], ◌∷◌, ◌++◌}
use Prim.Native.Nat.{ℕ, suc, ◌+◌, ◌-◌, ◌<◌}
use native.Mathlib.Nat.{add-zero}
use native.Mathlib.Omega.{arith}
use lib.Dec.{eqb, ltb}
use lib.ListN.{length, drop}
use borrow.Author.Tests.{eqb-true, eqb-false, lt-ltb, le-ltb}
use Rattle.laws.specs.Tests.{pick, both, either, clash, never, both_left, both_right}
use Rattle.file.specs.Bytes.{quote, comma, semicolon, CR, LF, ends, undefined, permitted_byte, goes_on, goes, matched}
use Rattle.file.specs.Format.{ending}
use Rattle.file.specs.Reading.{Mode, opening, within, quoted, returning, feeding, stopped, State, state, is_last, in_text, after_text, step_in, step, run, finished_in, spans, outcome_in, outcome}
use Rattle.file.specs.Fields.{closing, next_field, next_record, halt}
use Rattle.file.specs.declared.Outcome.TheVariants.{CutShort}
use Rattle.file.proofs.TextLaws.{ends_two, ends_other, goes_quote}

-- the reading is in a text, and these bytes are next: after a quote they don't end the field
abbrev pub TextMode : Mode → List ℕ → Type 0
TextMode opening l = ⊥
TextMode within l = Unit
TextMode quoted l = ends (quote ∷ l) ≡ false
TextMode returning l = ⊥
TextMode feeding l = ⊥
TextMode stopped l = ⊥

-- the mode after one more byte of a text
abbrev pub after : ℕ → Mode
after b = pick (eqb b quote) quoted within

pub goes_on_lem : (b : ℕ) (l : List ℕ) → goes_on (b ∷ l) ≡ true → (permitted_byte b ≡ true) × (ends (b ∷ l) ≡ false)
unfolding goes_on
goes_on_lem b l h = (both_left (permitted_byte b) _ h, flip (ends (b ∷ l)) (both_right (permitted_byte b) _ h))
  where
    flip : (t : Bool) → mathlib.Core.Bool.not t ≡ true → t ≡ false
    flip true e = sym e
    flip false e = refl

-- one byte with which a text goes on
step_on : (n f k i a : ℕ) (m : Mode) (b : ℕ) (l : List ℕ) → TextMode m (b ∷ l) → goes_on (b ∷ l) ≡ true
    → (step n (state m f k i a) b ≡ state (after b) f k (i + 1) a) × (finished_in n m f i a b ≡ []) × TextMode (after b) l
unfolding step_in in_text finished_in
step_on n f k i a opening b l t h = absurd t
step_on n f k i a within b l t h = let p = goes_on_lem b l h in (rw p.0, refl, mode (eqb b quote) refl p.1)
  where
    mode : (q : Bool) → eqb b quote ≡ q → ends (b ∷ l) ≡ false → TextMode (pick q quoted within) l
    mode true e h = rw (eqb-true b quote e) at h
    mode false e h = tt
step_on n f k i a quoted b l t h =
    let p = goes_on_lem b l h in
    let e : ends (quote ∷ b ∷ []) ≡ false = ends_two quote b [] l ∙ t in
    (rw (e, p.0), rw e, mode (eqb b quote) refl p.1)
  where
    mode : (q : Bool) → eqb b quote ≡ q → ends (b ∷ l) ≡ false → TextMode (pick q quoted within) l
    mode true e h = rw (eqb-true b quote e) at h
    mode false e h = tt
step_on n f k i a returning b l t h = absurd t
step_on n f k i a feeding b l t h = absurd t
step_on n f k i a stopped b l t h = absurd t

-- a text takes the reading to where it stops
pub record TextRun (n f k a i : ℕ) (m : Mode) (l : List ℕ) : Type 0 where
  pub to : Mode
  pub still : TextMode to (drop (goes l) l)
  pub stops : goes (drop (goes l) l) ≡ 0
  pub runs : run n (state m f k i a) l ≡ run n (state to f k (i + goes l) a) (drop (goes l) l)
  pub none : spans n (state m f k i a) l ≡ spans n (state to f k (i + goes l) a) (drop (goes l) l)

pub text_run : (n f k a : ℕ) (l : List ℕ) (i : ℕ) (m : Mode) → TextMode m l → TextRun n f k a i m l
unfolding goes run spans
text_run n f k a [] i m t = record { to = m; still = t; stops = refl; runs = rw add-zero; none = refl }
text_run n f k a (b ∷ l) i m t =
    either (goes_on (b ∷ l))
    (λ h.
    let p = step_on n f k i a m b l t h in
    let q = text_run n f k a l (i + 1) (after b) p.2 in
    let e : i + suc (goes l) ≡ i + 1 + goes l = omega arith in
    record { to = q.to; still = rw h q.still; stops = rw h q.stops; runs = rw (h, e, p.0) q.runs; none = rw (h, e, p.0, p.1) q.none })
    (λ h. record { to = m; still = rw h t; stops = rw h (rw h); runs = rw (h, add-zero); none = rw (h, add-zero) })

-- one byte of a reading
pub run_cons : (n : ℕ) (st : State) (b : ℕ) (l : List ℕ) → run n st (b ∷ l) ≡ run n (step n st b) l
unfolding run
run_cons n st b l = refl

-- a reading that stopped stays where it is
pub stays : (n f k i a : ℕ) (l : List ℕ) → run n (state stopped f k i a) l ≡ state stopped f k i a
unfolding run step_in
stays n f k i a [] = refl
stays n f k i a (b ∷ l) = stays n f k i a l

-- the reading gets j of these bytes further, and halts there
abbrev pub Halts : ℕ → State → List ℕ → ℕ → Type 0
Halts n st l j = outcome (run n st l) ≡ halt (st.at + j) (ltb j (length l))

halts_unfit : (n f k i a b : ℕ) (st : State) (l : List ℕ) → st.at ≡ i → step n st b ≡ state stopped f k i a → Halts n st (b ∷ l) 0
unfolding outcome_in
halts_unfit n f k i a b st l e h = rw (run_cons n st b l, h, stays n f k i a l, e, add-zero, lt-ltb 0 (suc (length l)) (omega arith))

halts_on : (n b : ℕ) (st to : State) (l : List ℕ) (j : ℕ) → step n st b ≡ to → to.at ≡ st.at + 1 → Halts n to l j → Halts n st (b ∷ l) (suc j)
halts_on n b st to l j h e p =
    let g : st.at + suc j ≡ to.at + j = omega arith in
    rw (run_cons n st b l, h, g) (p ∙ rw (both_sides j (length l)))
  where
    both_sides : (x y : ℕ) → ltb (suc x) (suc y) ≡ ltb x y
    both_sides x y =
        either (ltb x y)
        (λ h. lt-ltb (suc x) (suc y) (omega (arith, borrow.Author.Tests.ltb-true x y h)) ∙ sym h)
        (λ h. le-ltb (suc x) (suc y) (omega (arith, borrow.Author.Tests.ltb-false x y h)) ∙ sym h)

-- where the whole closing stands, the field is passed, and its text is finished
pub record Passed (n f k i a : ℕ) (last : Bool) (st : State) (l rest : List ℕ) : Type 0 where
  pub runs : run n st l ≡ run n (state opening (next_field last f) (next_record last k) (i + length (closing last)) 0) rest
  pub one :
      spans n st l
      ≡ record { start = a; size = i - a } ∷ spans n (state opening (next_field last f) (next_record last k) (i + length (closing last)) 0) rest

module _ (n f k i a : ℕ) where
  two : i + 1 + 1 ≡ i + 2
  two = omega arith

  four : i + 2 + 1 + 1 ≡ i + 4
  four = omega arith

  back : i + 1 - 1 ≡ i
  back = omega arith

  pub closed_run : (last : Bool) → is_last n f ≡ last → (m : Mode) (rest : List ℕ) → TextMode m [] → Passed n f k i a last (state m f k i a) (closing last ++ rest) rest
  unfolding run spans step_in in_text after_text finished_in ends permitted_byte undefined
  closed_run last h opening rest t = absurd t
  closed_run true h within rest t = record { runs = rw (h, two, four); one = rw (h, back, two, four) }
  closed_run false h within rest t = record { runs = rw (h, two); one = rw (h, back, two) }
  closed_run true h quoted rest t = record { runs = rw (h, two, four); one = rw (h, back, two, four) }
  closed_run false h quoted rest t = record { runs = rw (h, two); one = rw (h, back, two) }
  closed_run last h returning rest t = absurd t
  closed_run last h feeding rest t = absurd t
  closed_run last h stopped rest t = absurd t

pub matched_all : (due l : List ℕ) → matched due l ≡ length due → l ≡ due ++ drop (length due) l
unfolding matched
matched_all [] l h = refl
matched_all (d ∷ due) [] h = absurd (omega arith)
matched_all (d ∷ due) (b ∷ l) h =
    either (eqb b d)
    (λ e.
    let r = matched_all due l (let z = rw e at h in omega arith) in
    ap (λ (x : ℕ). x ∷ l) (eqb-true b d e) ∙ ap (λ (x : List ℕ). d ∷ x) r)
    (λ e. absurd (let z = rw e at h in omega arith))

text_mode_nil : (m : Mode) (l : List ℕ) → TextMode m l → TextMode m []
unfolding ends
text_mode_nil opening l t = absurd t
text_mode_nil within l t = tt
text_mode_nil quoted l t = refl
text_mode_nil returning l t = absurd t
text_mode_nil feeding l t = absurd t
text_mode_nil stopped l t = absurd t

pub field_passed : (n f k i a : ℕ) (last : Bool) → is_last n f ≡ last → (m : Mode) (l : List ℕ) → TextMode m l → matched (closing last) l ≡ length (closing last)
    → Passed n f k i a last (state m f k i a) l (drop (length (closing last)) l)
field_passed n f k i a last h m l t e =
    let w = matched_all (closing last) l e in
    mathlib.Core.Path.subst (λ (x : List ℕ). Passed n f k i a last (state m f k i a) x (drop (length (closing last)) l)) (sym w)
    (closed_run n f k i a last h m (drop (length (closing last)) l) (text_mode_nil m l t))

-- after the semicolon: CR and LF are due
feed_halts : (n f k i a : ℕ) (l : List ℕ) → matched (LF ∷ []) l < 1 → Halts n (state feeding f k i a) l (matched (LF ∷ []) l)
unfolding matched step_in run outcome_in
feed_halts n f k i a [] h = rw add-zero
feed_halts n f k i a (b ∷ l) h =
    either (eqb b LF)
    (λ e. absurd (let z = rw e at h in omega arith))
    (λ e. rw e (halts_unfit n f k i a b (state feeding f k i a) l refl (rw e)))

return_halts : (n f k i a : ℕ) (l : List ℕ) → matched (CR ∷ LF ∷ []) l < 2 → Halts n (state returning f k i a) l (matched (CR ∷ LF ∷ []) l)
unfolding matched step_in run outcome_in
return_halts n f k i a [] h = rw add-zero
return_halts n f k i a (b ∷ l) h =
    either (eqb b CR)
    (λ e. rw e (halts_on n b (state returning f k i a) (state feeding f k (i + 1) a) l _ (rw e) refl (feed_halts n f k (i + 1) a l (let z = rw e at h in omega arith))))
    (λ e. rw e (halts_unfit n f k i a b (state returning f k i a) l refl (rw e)))

-- after the closing quote: a comma or semicolon stands there, and it may be the wrong one
after_halts : (n f k i a : ℕ) (last : Bool) → is_last n f ≡ last → (c : ℕ) (l : List ℕ) → ends (quote ∷ c ∷ []) ≡ true → matched (ending last) (c ∷ l) < length (ending last)
    → Halts n (state quoted f k i a) (c ∷ l) (matched (ending last) (c ∷ l))
unfolding matched step_in after_text
after_halts n f k i a true h c l e m =
    either (eqb c semicolon)
    (λ q. rw q (halts_on n c (state quoted f k i a) (state returning f k (i + 1) 0) l _ (rw (e, h, q)) refl (return_halts n f k (i + 1) 0 l (let z = rw q at m in omega arith))))
    (λ q. rw q (halts_unfit n f k i a c (state quoted f k i a) l refl (rw (e, h, q))))
after_halts n f k i a false h c l e m =
    either (eqb c comma)
    (λ q. absurd (let z = rw q at m in omega arith))
    (λ q. rw q (halts_unfit n f k i a c (state quoted f k i a) l refl (rw (e, h, q))))

-- a quote in a text
step_quote : (n f k i a : ℕ) (m : Mode) → TextMode m [] → step n (state m f k i a) quote ≡ state quoted f k (i + 1) a
unfolding step_in in_text ends permitted_byte undefined
step_quote n f k i a opening t = absurd t
step_quote n f k i a within t = refl
step_quote n f k i a quoted t = refl
step_quote n f k i a returning t = absurd t
step_quote n f k i a feeding t = absurd t
step_quote n f k i a stopped t = absurd t

-- comma and semicolon are bytes that a text may hold, so no other byte ends a field
unended : (b : ℕ) → permitted_byte b ≡ false → ends (quote ∷ b ∷ []) ≡ false
unfolding ends permitted_byte undefined
unended b h =
    either (eqb b comma)
    (λ e. clash (ap (λ (x : ℕ). permitted_byte x) (eqb-true b comma e)) h)
    (λ e. either (eqb b semicolon) (λ d. clash (ap (λ (x : ℕ). permitted_byte x) (eqb-true b semicolon d)) h) (λ d. rw (e, d)))

-- a byte that no text holds
step_unfit : (n f k i a : ℕ) (m : Mode) (b : ℕ) → TextMode m [] → permitted_byte b ≡ false → (b ≡ quote → ⊥) → step n (state m f k i a) b ≡ state stopped f k i a
unfolding step_in in_text
step_unfit n f k i a opening b t h q = absurd t
step_unfit n f k i a within b t h q = rw h
step_unfit n f k i a quoted b t h q = rw (unended b h, h)
step_unfit n f k i a returning b t h q = absurd t
step_unfit n f k i a feeding b t h q = absurd t
step_unfit n f k i a stopped b t h q = absurd t

ends_cons : (l : List ℕ) → ends (quote ∷ l) ≡ true → (c : ℕ) × (l' : List ℕ) × (l ≡ c ∷ l') × (ends (quote ∷ c ∷ []) ≡ true)
unfolding ends
ends_cons [] h = never h
ends_cons (c ∷ l) h = (c, l, refl, h)

text_cut : (n f k i a : ℕ) (m : Mode) → TextMode m [] → outcome (state m f k i a) ≡ CutShort i
unfolding outcome_in
text_cut n f k i a opening t = absurd t
text_cut n f k i a within t = refl
text_cut n f k i a quoted t = refl
text_cut n f k i a returning t = absurd t
text_cut n f k i a feeding t = absurd t
text_cut n f k i a stopped t = absurd t

-- a text stops at a byte other than the quote because no text holds it, and at a quote because a field ends
stop_unfit : (b : ℕ) (l : List ℕ) → goes (b ∷ l) ≡ 0 → (b ≡ quote → ⊥) → permitted_byte b ≡ false
unfolding goes goes_on
stop_unfit b l g q = go (permitted_byte b) (rw (ends_other b l q) at g)
  where
    go : (t : Bool) → pick (both t true) (suc (goes l)) 0 ≡ 0 → t ≡ false
    go true e = absurd (omega arith)
    go false e = refl

stop_ends : (l : List ℕ) → goes (quote ∷ l) ≡ 0 → ends (quote ∷ l) ≡ true
stop_ends l g = either (ends (quote ∷ l)) (λ e. e) (λ e. absurd (omega (arith, goes_quote l e)))

-- a text that stopped where the closing is not whole: the reading halts where the closing breaks off
pub field_halted : (n f k i a : ℕ) (last : Bool) → is_last n f ≡ last → (m : Mode) (l : List ℕ) → TextMode m l → goes l ≡ 0
    → matched (closing last) l < length (closing last) → Halts n (state m f k i a) l (matched (closing last) l)
unfolding matched run
field_halted n f k i a last h m [] t g e = rw add-zero (text_cut n f k i a m t)
field_halted n f k i a last h m (b ∷ l) t g e =
    let s = text_mode_nil m (b ∷ l) t in
    either (eqb b quote)
    (λ q.
    let d = eqb-true b quote q in
    let c = ends_cons l (stop_ends l (rw d at g)) in
    let e' = rw (q, c.2) at e in
    rw (q, c.2)
    (halts_on n b (state m f k i a) (state quoted f k (i + 1) a) (c.0 ∷ c.1) _ (rw d (step_quote n f k i a m s)) refl
    (after_halts n f k (i + 1) a last h c.0 c.1 c.3 (omega arith))))
    (λ q. rw q (halts_unfit n f k i a b (state m f k i a) l refl (step_unfit n f k i a m b s (stop_unfit b l g (eqb-false b quote q)) (eqb-false b quote q))))
