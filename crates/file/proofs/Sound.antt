-- What is read was written: a reading that comes to a whole number of records has read the writing of a list of permitted records.
-- By what is left: in each mode the bytes left are the rest of some writing, so a byte put before them makes a longer rest.
use mathlib.Core.Path.{◌≡◌, refl, ap, ◌∙◌, subst}
use mathlib.Core.Bool.{true, false}
use mathlib.Core.List.{List, [], ◌∷◌, ◌++◌, append_assoc}
use Prim.Native.Nat.{ℕ, zero, suc, ◌+◌, ◌≤◌, ◌<◌}
use native.Mathlib.Numerals.{add-one}
use native.Mathlib.Omega.{arith}
use lib.Dec.{eqb}
use lib.ListN.{length}
use borrow.Author.Tests.{eqb-true, eqb-false}
use Rattle.laws.specs.Tests.{either}
use Rattle.file.specs.Bytes.{quote, comma, semicolon, CR, LF, ends, undefined, permitted_byte, goes_on, permitted_text}
use Rattle.file.specs.Format.{Text, Fields, ending, written_field, written_record, written, PermittedTexts, Permitted, Legal}
use Rattle.file.specs.Reading.{Mode, opening, within, quoted, returning, feeding, stopped, State, state, is_last, in_text, after_text, step_in, step, run, outcome_in, outcome}
use Rattle.file.specs.declared.Outcome.{Outcome}
use Rattle.file.specs.declared.Outcome.TheVariants.{Whole, Unfit, CutShort}
use Rattle.file.proofs.TextLaws.{ends_other}
use Rattle.file.proofs.StepLaws.{run_cons, stays}

-- a whole number of records
abbrev pub IsWhole : Outcome → Type 0
IsWhole (Whole k) = Unit
IsWhole (Unfit at) = ⊥
IsWhole (CutShort at) = ⊥

-- s is the rest of a record of which f fields have ended, and then records
pub record Rest (n f : ℕ) (s : List ℕ) : Type 0 where
  pub ts : Fields
  pub rs : List Fields
  pub due : length ts + f ≡ n
  pub some : 1 ≤ length ts
  pub texts : PermittedTexts ts
  pub legal : Permitted n rs
  pub bytes : written_record ts ++ written rs ≡ s

-- what the bytes left are, in each mode
abbrev pub Left : ℕ → Mode → ℕ → List ℕ → Type 0
Left n opening zero s = Legal n s
Left n opening (suc f) s = Rest n (suc f) s
Left n within f s = Rest n f (quote ∷ s)
Left n quoted f s = Rest n f (quote ∷ quote ∷ s)
Left n returning f s = (l : List ℕ) × (s ≡ CR ∷ LF ∷ l) × Legal n l
Left n feeding f s = (l : List ℕ) × (s ≡ LF ∷ l) × Legal n l
Left n stopped f s = ⊥

-- what follows a field's closing quote, by the fields after it
abbrev tail_of : Fields → List ℕ
tail_of [] = ending true
tail_of (u ∷ us) = comma ∷ written_record (u ∷ us)

record_tail : (t : Text) (us : Fields) → written_record (t ∷ us) ≡ quote ∷ (t ++ quote ∷ tail_of us)
unfolding written_record written_field
record_tail t [] = refl
record_tail t (u ∷ us) = ap (λ (l : List ℕ). quote ∷ l) (append_assoc t (quote ∷ ending false) (written_record (u ∷ us)))

-- one more field before others, or before none
rest_cons : (n f : ℕ) (t : Text) (us : Fields) (rs : List Fields) (s : List ℕ) → length us + 1 + f ≡ n → permitted_text t ≡ true → PermittedTexts us → Permitted n rs
    → quote ∷ (t ++ quote ∷ (tail_of us ++ written rs)) ≡ s → Rest n f s
unfolding PermittedTexts
rest_cons n f t us rs s d p ps q e =
    record {
      ts = t ∷ us;
      rs = rs;
      due = omega arith;
      some = omega arith;
      texts = (p, ps);
      legal = q;
      bytes = rw (record_tail t us, append_assoc) e;
    }

permitted_cons : (b : ℕ) (t : Text) → permitted_byte b ≡ true → ends (b ∷ t) ≡ false → permitted_text t ≡ true → permitted_text (b ∷ t) ≡ true
unfolding permitted_text goes_on
permitted_cons b t p e q = rw (p, e, q)

first_text : (t : Text) (us : Fields) → PermittedTexts (t ∷ us) → (permitted_text t ≡ true) × PermittedTexts us
unfolding PermittedTexts
first_text t us p = p

-- the text of the first field may begin with b, where b and the byte behind it end no field
text_cons : (n f b : ℕ) (s : List ℕ) → permitted_byte b ≡ true → ((t x : List ℕ) → t ++ quote ∷ x ≡ s → ends (b ∷ t) ≡ false) → Rest n f (quote ∷ s) → Rest n f (quote ∷ b ∷ s)
text_cons n f b s p ok r = go r.ts r.due r.some r.texts r.bytes
  where
    go : (ts : Fields) → length ts + f ≡ n → 1 ≤ length ts → PermittedTexts ts → written_record ts ++ written r.rs ≡ quote ∷ s → Rest n f (quote ∷ b ∷ s)
    go [] d h ps e = absurd (omega arith)
    go (t ∷ us) d h ps e =
        let w : quote ∷ ((t ++ quote ∷ tail_of us) ++ written r.rs) ≡ quote ∷ s = rw (record_tail t us) at e in
        let x : (t ++ quote ∷ tail_of us) ++ written r.rs ≡ s = cc in
        let y : t ++ quote ∷ (tail_of us ++ written r.rs) ≡ s = rw append_assoc at x in
        let q = first_text t us ps in
        rest_cons n f (b ∷ t) us r.rs (quote ∷ b ∷ s) (omega arith) (permitted_cons b t p (ok t _ y) q.0) q.1 r.legal (ap (λ (l : List ℕ). quote ∷ b ∷ l) y)

-- a text that begins where c stands begins with c, or is empty
head_of : (b c : ℕ) (s : List ℕ) → ends (b ∷ c ∷ []) ≡ false → (t x : List ℕ) → t ++ quote ∷ x ≡ c ∷ s → ends (b ∷ t) ≡ false
unfolding ends
head_of b c s h [] x e = refl
head_of b c s h (y ∷ t) x e = let d : y ≡ c = cc in rw d h

-- a reading that goes on whole after this byte; and one that never does
on : (n b : ℕ) (st to : State) (s : List ℕ) → step n st b ≡ to → IsWhole (outcome (run n st (b ∷ s))) → IsWhole (outcome (run n to s))
on n b st to s e w = subst (λ (x : State). IsWhole (outcome (run n x s))) e (rw (run_cons n st b s) at w)

dead : {P : Type 0} (n b f k at a : ℕ) (st : State) (s : List ℕ) → step n st b ≡ state stopped f k at a → IsWhole (outcome (run n st (b ∷ s))) → P
unfolding outcome_in
dead n b f k at a st s e w = absurd (rw (stays n f k at a s) at (on n b st (state stopped f k at a) s e w))

-- an empty text closes its field: the record ends, or goes on
close_last : (n f : ℕ) (s : List ℕ) → f + 1 ≡ n → Left n returning f s → Rest n f (quote ∷ quote ∷ semicolon ∷ s)
unfolding permitted_text PermittedTexts
close_last n f s h l =
    rest_cons n f [] [] l.2.0 _ (omega arith) refl tt l.2.1 (rw (l.1, l.2.2))

close_more : (n f : ℕ) (s : List ℕ) → Rest n (f + 1) s → Rest n f (quote ∷ quote ∷ comma ∷ s)
unfolding permitted_text
close_more n f s r = go r.ts r.due r.some r.texts r.bytes
  where
    go : (ts : Fields) → length ts + (f + 1) ≡ n → 1 ≤ length ts → PermittedTexts ts → written_record ts ++ written r.rs ≡ s → Rest n f (quote ∷ quote ∷ comma ∷ s)
    go [] d h ps e = absurd (omega arith)
    go (u ∷ us) d h ps e = rest_cons n f [] (u ∷ us) r.rs _ (omega arith) refl ps r.legal (ap (λ (l : List ℕ). quote ∷ quote ∷ comma ∷ l) e)

-- a record that is whole begins a legal file
begin : (n f : ℕ) (s : List ℕ) → Rest n f s → Left n opening f s
unfolding Permitted written
begin n zero s r = (r.ts ∷ r.rs, ((omega (arith, r.due), r.texts), r.legal), r.bytes)
begin n (suc f) s r = r

quote_permitted : permitted_byte quote ≡ true
unfolding permitted_byte undefined
quote_permitted = refl

-- the fields that have ended leave room for this one
abbrev pub Room : ℕ → Mode → ℕ → Type 0
Room n opening f = f < n
Room n within f = f < n
Room n quoted f = f < n
Room n returning f = f + 1 ≡ n
Room n feeding f = f + 1 ≡ n
Room n stopped f = Unit

nothing_left : (n : ℕ) (m : Mode) (f k at a : ℕ) → IsWhole (outcome (state m f k at a)) → Left n m f []
unfolding outcome_in Permitted written
nothing_left n opening zero k at a w = ([], tt, refl)
nothing_left n opening (suc f) k at a w = absurd (rw (lib.Dec.eqb-suc-zero f) at w)
nothing_left n within f k at a w = absurd w
nothing_left n quoted f k at a w = absurd w
nothing_left n returning f k at a w = absurd w
nothing_left n feeding f k at a w = absurd w
nothing_left n stopped f k at a w = absurd w

-- the claim for the bytes s, in every mode
abbrev Claim : ℕ → List ℕ → Type 0
Claim n s = (m : Mode) (f k at a : ℕ) → Room n m f → IsWhole (outcome (run n (state m f k at a) s)) → Left n m f s

-- one byte more, in each mode
module _ (n : ℕ) (h : 1 ≤ n) (b : ℕ) (s : List ℕ) (ih : Claim n s) where
  one_opening : (f k at a : ℕ) → Room n opening f → IsWhole (outcome (run n (state opening f k at a) (b ∷ s))) → Left n opening f (b ∷ s)
  unfolding step_in
  one_opening f k at a r w =
      either (eqb b quote)
      (λ q.
      let l = ih within f k (at + 1) (at + 1) r (on n b (state opening f k at a) _ s (rw q) w) in
      begin n f (b ∷ s) (rw (eqb-true b quote q) l))
      (λ q. dead n b f k at a (state opening f k at a) s (rw q) w)

  one_within : (f k at a : ℕ) → Room n within f → IsWhole (outcome (run n (state within f k at a) (b ∷ s))) → Left n within f (b ∷ s)
  unfolding step_in in_text
  one_within f k at a r w =
      either (permitted_byte b)
      (λ p.
      either (eqb b quote)
      (λ q.
      let l = ih quoted f k (at + 1) a r (on n b (state within f k at a) _ s (rw (p, q)) w) in
      rw (eqb-true b quote q) l)
      (λ q.
      let l = ih within f k (at + 1) a r (on n b (state within f k at a) _ s (rw (p, q)) w) in
      text_cons n f b s p (λ t x e. ends_other b t (eqb-false b quote q)) l))
      (λ p. dead n b f k at a (state within f k at a) s (rw p) w)

  one_quoted : (f k at a : ℕ) → Room n quoted f → IsWhole (outcome (run n (state quoted f k at a) (b ∷ s))) → Left n quoted f (b ∷ s)
  unfolding step_in in_text after_text
  one_quoted f k at a r w =
      either (ends (quote ∷ b ∷ []))
      (λ e.
      either (is_last n f)
      (λ l.
      either (eqb b semicolon)
      (λ q.
      let g = eqb-true (f + 1) n l in
      let i = ih returning f k (at + 1) 0 g (on n b (state quoted f k at a) _ s (rw (e, l, q)) w) in
      rw (eqb-true b semicolon q) (close_last n f s g i))
      (λ q. dead n b f k at a (state quoted f k at a) s (rw (e, l, q)) w))
      (λ l.
      either (eqb b comma)
      (λ q.
      let g = eqb-false (f + 1) n l in
      let i = ih opening (f + 1) k (at + 1) 0 (omega arith) (on n b (state quoted f k at a) _ s (rw (e, l, q)) w) in
      let j : Rest n (f + 1) s = rw (add-one f) (rw (add-one f) at i) in
      rw (eqb-true b comma q) (close_more n f s j))
      (λ q. dead n b f k at a (state quoted f k at a) s (rw (e, l, q)) w)))
      (λ e.
      either (permitted_byte b)
      (λ p.
      either (eqb b quote)
      (λ q.
      let l = ih quoted f k (at + 1) a r (on n b (state quoted f k at a) _ s (rw (e, p, q)) w) in
      let d = eqb-true b quote q in
      rw d (text_cons n f quote (quote ∷ s) (rw d at p) (head_of quote quote s (rw d at e)) l))
      (λ q.
      let l = ih within f k (at + 1) a r (on n b (state quoted f k at a) _ s (rw (e, p, q)) w) in
      let i = text_cons n f b s p (λ t x g. ends_other b t (eqb-false b quote q)) l in
      text_cons n f quote (b ∷ s) quote_permitted (head_of quote b s e) i))
      (λ p. dead n b f k at a (state quoted f k at a) s (rw (e, p)) w))

  one_returning : (f k at a : ℕ) → Room n returning f → IsWhole (outcome (run n (state returning f k at a) (b ∷ s))) → Left n returning f (b ∷ s)
  unfolding step_in
  one_returning f k at a r w =
      either (eqb b CR)
      (λ q.
      let l = ih feeding f k (at + 1) a r (on n b (state returning f k at a) _ s (rw q) w) in
      (l.0, ap (λ (x : ℕ). x ∷ s) (eqb-true b CR q) ∙ ap (λ (x : List ℕ). CR ∷ x) l.1, l.2))
      (λ q. dead n b f k at a (state returning f k at a) s (rw q) w)

  one_feeding : (f k at a : ℕ) → Room n feeding f → IsWhole (outcome (run n (state feeding f k at a) (b ∷ s))) → Left n feeding f (b ∷ s)
  unfolding step_in
  one_feeding f k at a r w =
      either (eqb b LF)
      (λ q.
      let l = ih opening 0 (k + 1) (at + 1) a h (on n b (state feeding f k at a) _ s (rw q) w) in
      (s, ap (λ (x : ℕ). x ∷ s) (eqb-true b LF q), l))
      (λ q. dead n b f k at a (state feeding f k at a) s (rw q) w)

  one_stopped : (f k at a : ℕ) → Room n stopped f → IsWhole (outcome (run n (state stopped f k at a) (b ∷ s))) → Left n stopped f (b ∷ s)
  unfolding step_in
  one_stopped f k at a r w = dead n b f k at a (state stopped f k at a) s refl w

  one_more : Claim n (b ∷ s)
  one_more opening = one_opening
  one_more within = one_within
  one_more quoted = one_quoted
  one_more returning = one_returning
  one_more feeding = one_feeding
  one_more stopped = one_stopped

none_left : (n : ℕ) → Claim n []
unfolding run
none_left n m f k at a r w = nothing_left n m f k at a w

pub sound : (n : ℕ) → 1 ≤ n → (s : List ℕ) → Claim n s
sound n h [] = none_left n
sound n h (b ∷ s) = one_more n h b s (sound n h s)
