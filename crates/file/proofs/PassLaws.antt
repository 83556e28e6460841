-- A record at a place of a file, field by field: how far it has come, and where it ends or breaks off.
use Rattle.std.specs.Prelude.{Result, Ok, Err}
use mathlib.Core.Path.{◌≡◌, refl, sym, ap, ◌∙◌}
use mathlib.Core.Bool.{Bool, true, false}
use mathlib.Core.List.{List}
use Prim.Native.Nat.{ℕ, ◌+◌, ◌≤◌, ◌<◌}
use native.Mathlib.Omega.{arith}
use lib.Dec.{eqb, ltb}
use lib.ListN.{length, get_or, drop, drop_of_length-le}
use borrow.Author.Tests.{eqb-true, le-ltb, ltb-true, ltb-false, ne_eqb}
use Rattle.laws.specs.Tests.{either}
use Rattle.file.specs.Bytes.{quote, starts, closes}
use Rattle.file.specs.Reading.{opening, State, state, is_last, run, outcome_in, outcome}
use Rattle.file.specs.Fields.{halt, ahead_of, ahead_from, ahead_at}
use Rattle.file.specs.Reader.{RecordAhead, AheadNear, EndsNear}
use Rattle.file.proofs.FieldLaws.{starts_at, starts_past, ahead_closed, field_on, field_near, field_run, field_off, no_quote_ahead}

-- the two ways to say what lies ahead of a place within the file are one; past its end nothing does
pub ahead_at_lem : (s : List ℕ) (at : ℕ) (last : Bool) → at < length s → ahead_at s at last ≡ ahead_of s at last
unfolding ahead_at
ahead_at_lem s at last h =
    either (eqb (get_or s at 0) quote)
    (λ q. rw (starts_at quote s at h, q) (sym (ahead_closed s at last (at + 1 + closes (drop (at + 1) s)) (eqb-true (get_or s at 0) quote q) refl)))
    (λ q. rw (starts_at quote s at h, q) (unopened_ahead q))
  where
    unopened_ahead : eqb (get_or s at 0) quote ≡ false → Err at ≡ ahead_of s at last
    unopened_ahead q = sym (no_quote_ahead s at last q)

pub at_closed : (s : List ℕ) (at : ℕ) (last : Bool) (close : ℕ) → starts quote (drop at s) ≡ true → close ≡ at + 1 + closes (drop (at + 1) s) → ahead_at s at last ≡ ahead_from s last close
unfolding ahead_at
at_closed s at last close h e = rw (h, e)

pub at_unopened : (s : List ℕ) (at : ℕ) (last : Bool) → starts quote (drop at s) ≡ false → ahead_at s at last ≡ Err at
unfolding ahead_at
at_unopened s at last h = rw h

pub near_as : (s : List ℕ) (at close : ℕ) (r : Result ℕ ℕ) → at < close → close ≤ length s → EndsNear s close r → AheadNear s at r
unfolding EndsNear AheadNear
near_as s at close (Ok next) h n e = (omega arith, e.1)
near_as s at close (Err place) h n e = e n

pub ahead_past : (s : List ℕ) (at : ℕ) (last : Bool) → length s ≤ at → ahead_at s at last ≡ Err at
unfolding ahead_at
ahead_past s at last h = rw (starts_past quote s at h)

-- a record of which f fields have ended comes to `at`, whatever records stand before it
pub record SoFar (n : ℕ) (s : List ℕ) (start at f : ℕ) : Type 0 where
  pub from : start ≤ at
  pub near : at ≤ length s
  pub some : f ≡ 0 → at < length s
  pub runs : (k : ℕ) → run n (state opening 0 k start 0) (drop start s) ≡ run n (state opening f k at 0) (drop at s)

pub so_far_first : (n : ℕ) (s : List ℕ) (start : ℕ) → start < length s → SoFar n s start start 0
so_far_first n s start h = record { from = omega arith; near = omega arith; some = λ e. h; runs = λ k. refl }

ends_here : (n f k at : ℕ) (s : List ℕ) → at ≡ length s → (f ≡ 0 → ⊥) → outcome (run n (state opening f k at 0) (drop at s)) ≡ halt at (ltb at (length s))
unfolding run outcome_in
ends_here n f k at s e h =
    let g : length s ≤ at = omega arith in
    rw (drop_of_length-le s g, ne_eqb f 0 h, le-ltb at (length s) g)

module _ (n : ℕ) (s : List ℕ) (start at f : ℕ) (r : SoFar n s start at f) where
  -- a field lies ahead only of a place within the file
  within_file : (last : Bool) (next : ℕ) → ahead_at s at last ≡ Ok next → at < length s
  within_file last next e =
      either (ltb at (length s))
      (λ t. ltb-true at (length s) t)
      (λ t. let g = sym (ahead_past s at last (ltb-false at (length s) t)) ∙ e in let z : ◌≡◌ {A = ℕ} 0 1 = cc in absurd (omega arith))

  pub so_far_next : (next : ℕ) → is_last n f ≡ false → ahead_at s at false ≡ Ok next → SoFar n s start next (f + 1)
  so_far_next next l e =
      let i = within_file false next e in
      let a = sym (ahead_at_lem s at false i) ∙ e in
      let o = field_on n f 0 at 0 false l s i next a in
      record {
        from = omega (arith, r.from, o.1);
        near = field_near n f 0 at 0 false l s i next a;
        some = λ z. absurd (omega arith);
        runs = λ k. r.runs k ∙ field_run n f k at 0 false l s i next a;
      }

  pub so_far_last : (next : ℕ) → is_last n f ≡ true → ahead_at s at true ≡ Ok next → RecordAhead n s start (Ok next)
  unfolding RecordAhead
  so_far_last next l e =
      let i = within_file true next e in
      let a = sym (ahead_at_lem s at true i) ∙ e in
      let o = field_on n f 0 at 0 true l s i next a in
      (omega (arith, r.from, o.1), field_near n f 0 at 0 true l s i next a, λ k. r.runs k ∙ field_run n f k at 0 true l s i next a)

  pub so_far_stop : (last : Bool) (place : ℕ) → is_last n f ≡ last → ahead_at s at last ≡ Err place → place ≤ length s → RecordAhead n s start (Err place)
  unfolding RecordAhead
  so_far_stop last place l e near = (near, λ k. ap (λ (st : State). outcome st) (r.runs k) ∙ off k)
    where
      off : (k : ℕ) → outcome (run n (state opening f k at 0) (drop at s)) ≡ halt place (ltb place (length s))
      off k =
          either (ltb at (length s))
          (λ t. let i = ltb-true at (length s) t in field_off n f k at 0 last l s i place (sym (ahead_at_lem s at last i) ∙ e))
          (λ t.
          let g = ltb-false at (length s) t in
          let x : Err at ≡ Err place = sym (ahead_past s at last g) ∙ e in
          let y : at ≡ place = cc in
          let near_at = r.near in
          ends_here n f k at s (omega arith) (λ z. let u = r.some z in omega arith) ∙ rw y)
