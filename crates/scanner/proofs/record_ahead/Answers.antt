-- `scanner::record_ahead` meets its contract. The loop's invariant: the record comes to `at`, where its next field is due.
use Rattle.std.specs.Prelude.{Result, Ok, Err}
use mathlib.Core.Path.{◌≡◌, refl, sym, ap, ◌∙◌}
use mathlib.Core.Bool.{true, false}
use mathlib.Core.List.{List, []}
use Prim.Native.Nat.{ℕ, suc, ◌+◌, ◌-◌, ◌≤◌, ◌<◌}
use native.Mathlib.Nat.{add-zero}
use native.Mathlib.Omega.{arith}
use borrow.Author.Tests.{eq-eqb, ne_eqb}
use Rattle.file.specs.Bytes.{comma}
use Rattle.file.specs.Fields.{ahead_at, ahead_from}
use Rattle.file.specs.Reader.{AheadNear, RecordAhead}
use Rattle.file.specs.Reading.{is_last}
use Rattle.file.proofs.FieldLaws.{matched_more, matched_none, matched_done, from_stop, from_field}
use Rattle.file.proofs.PassLaws.{at_closed, at_unopened, SoFar, so_far_first, so_far_next, so_far_last, so_far_stop}
use Rattle.scanner.proofs.record_ahead.Goals as goal

-- with fewer than n fields at hand the one before is not the last; with n it is
not_last : (n field : ℕ) → 1 ≤ field → field < n → is_last n (field - 1) ≡ false
not_last n field h l = ne_eqb (field - 1 + 1) n (λ e. omega arith)

last_one : (n field : ℕ) → 1 ≤ field → field ≡ n → is_last n (field - 1) ≡ true
last_one n field h e = eq-eqb (field - 1 + 1) n (omega arith)

-- the last field: the record is whole, or breaks off
ended : (n : ℕ) (s : List ℕ) (start at f : ℕ) → SoFar n s start at f → is_last n f ≡ true → (r : Result ℕ ℕ) → r ≡ ahead_at s at true → AheadNear s at r → RecordAhead n s start r
unfolding AheadNear
ended n s start at f h l (Ok next) e near = so_far_last n s start at f h next l (sym e)
ended n s start at f h l (Err place) e near = so_far_stop n s start at f h true place l (sym e) near

pub loop-field-init : goal.loop-field-init
loop-field-init c = so_far_first c.args.n c.args.s.now c.args.start c.requires.0

pub returns-then-not-stands : goal.returns-then-not-stands
returns-then-not-stands c =
    let a = c.args in
    let l = c.loop-field in
    let h = sym c.stands.ensures.0 ∙ c.if-not-stands.true in
    so_far_stop a.n a.s.now a.start l.at (l.field - 1) l.invariant false l.at (not_last a.n l.field (omega arith) (omega arith)) (at_unopened a.s.now l.at false h) l.invariant.near

pub returns-then-not-stands-2 : goal.returns-then-not-stands-2
returns-then-not-stands-2 c =
    let a = c.args in
    let l = c.loop-field in
    let k = c.text_close-close in
    let q = sym c.stands.ensures.0 ∙ c.if-not-stands.false in
    let closed : ahead_at a.s.now l.at false ≡ ahead_from a.s.now false k.result = at_closed a.s.now l.at false k.result q k.ensures.place in
    let h = sym c.stands-in-loop-field.ensures.0 ∙ c.if-not-stands-2.true in
    let f = from_stop a.s.now false k.result 0 (matched_none comma [] _ h) (omega arith) in
    let e = closed ∙ f ∙ ap Err (add-zero k.result) in
    so_far_stop a.n a.s.now a.start l.at (l.field - 1) l.invariant false k.result (not_last a.n l.field (omega arith) (omega arith)) e k.ensures.near

pub loop-field-preserved : goal.loop-field-preserved
loop-field-preserved c =
    let a = c.args in
    let l = c.loop-field in
    let k = c.text_close-close in
    let q = sym c.stands.ensures.0 ∙ c.if-not-stands.false in
    let closed : ahead_at a.s.now l.at false ≡ ahead_from a.s.now false k.result = at_closed a.s.now l.at false k.result q k.ensures.place in
    let h = sym c.stands-in-loop-field.ensures.0 ∙ c.if-not-stands-2.false in
    let m = matched_more comma [] a.s.now k.result (k.result + 1) refl h ∙ ap suc (matched_done _) in
    let w : l.field - 1 + 1 ≡ l.field + 1 - 1 = omega arith in
    rw w at (so_far_next a.n a.s.now a.start l.at (l.field - 1) l.invariant (k.result + 1) (not_last a.n l.field (omega arith) (omega arith)) (closed ∙ from_field a.s.now false k.result m))

pub returns : goal.returns
returns c =
    let a = c.args in
    let l = c.loop-field in
    ended a.n a.s.now a.start l.at (l.field - 1) l.invariant (last_one a.n l.field (omega arith) (omega arith)) c.last_field.result c.last_field.ensures.0 c.last_field.ensures.1

pub overflow_add-at : goal.overflow_add-at
overflow_add-at c = omega (arith, c.stands.ensures.1 (c.if-not-stands.false))

pub text_close-close-requires : goal.text_close-close-requires
text_close-close-requires c = omega (arith, c.stands.ensures.1 (c.if-not-stands.false))

pub overflow_add-at-in-loop-field : goal.overflow_add-at-in-loop-field
overflow_add-at-in-loop-field c = omega (arith, c.stands-in-loop-field.ensures.1 (c.if-not-stands-2.false))

pub last_field-requires : goal.last_field-requires
last_field-requires c = c.loop-field.invariant.near
