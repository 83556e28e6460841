-- `scanner::record_end` meets its contract: byte by byte, each stands where it is due, or the record breaks off there.
use mathlib.Core.Path.{refl, sym, ap, ◌∙◌}
use mathlib.Core.Bool.{true}
use mathlib.Core.List.{[], ◌∷◌}
use Rattle.std.specs.Prelude.{Err}
use Prim.Native.Nat.{suc, ◌+◌}
use native.Mathlib.Nat.{add-zero}
use native.Mathlib.Omega.{arith}
use Rattle.file.specs.Bytes.{semicolon, CR, LF}
use Rattle.file.specs.Reader.{EndsNear}
use Rattle.file.proofs.FieldLaws.{matched_more, matched_none, matched_done, from_stop, from_field}
use Rattle.scanner.proofs.record_end.Goals as goal

pub returns-then-not-stands : goal.returns-then-not-stands
unfolding EndsNear
returns-then-not-stands c =
    let a = c.args in
    let h = sym c.stands.ensures.0 ∙ c.if-not-stands.true in
    (ap Err (sym (add-zero a.at)) ∙ sym (from_stop a.s.now true a.at 0 (matched_none semicolon (CR ∷ LF ∷ []) _ h) (omega arith)), λ n. n)

pub returns-then-not-stands-2 : goal.returns-then-not-stands-2
unfolding EndsNear
returns-then-not-stands-2 c =
    let a = c.args in
    let x = sym c.stands.ensures.0 ∙ c.if-not-stands.false in
    let w = c.stands.ensures.1 (c.if-not-stands.false) in
    let h = sym c.stands-2.ensures.0 ∙ c.if-not-stands-2.true in
    let m = matched_more semicolon (CR ∷ LF ∷ []) a.s.now a.at (a.at + 1) refl x ∙ ap suc (matched_none CR (LF ∷ []) _ h) in
    (sym (from_stop a.s.now true a.at 1 m (omega arith)), λ n. omega arith)

pub returns-then-not-stands-3 : goal.returns-then-not-stands-3
unfolding EndsNear
returns-then-not-stands-3 c =
    let a = c.args in
    let x = sym c.stands.ensures.0 ∙ c.if-not-stands.false in
    let y = sym c.stands-2.ensures.0 ∙ c.if-not-stands-2.false in
    let w = c.stands-2.ensures.1 (c.if-not-stands-2.false) in
    let h = sym c.stands-3.ensures.0 ∙ c.if-not-stands-3.true in
    let m =
    matched_more semicolon (CR ∷ LF ∷ []) a.s.now a.at (a.at + 1) refl x
    ∙ ap suc (matched_more CR (LF ∷ []) a.s.now (a.at + 1) (a.at + 2) (omega arith) y ∙ ap suc (matched_none LF [] _ h)) in
    (sym (from_stop a.s.now true a.at 2 m (omega arith)), λ n. omega arith)

pub returns : goal.returns
unfolding EndsNear
returns c =
    let a = c.args in
    let x = sym c.stands.ensures.0 ∙ c.if-not-stands.false in
    let y = sym c.stands-2.ensures.0 ∙ c.if-not-stands-2.false in
    let z = sym c.stands-3.ensures.0 ∙ c.if-not-stands-3.false in
    let w = c.stands-3.ensures.1 (c.if-not-stands-3.false) in
    let m =
    matched_more semicolon (CR ∷ LF ∷ []) a.s.now a.at (a.at + 1) refl x
    ∙ ap suc
    (matched_more CR (LF ∷ []) a.s.now (a.at + 1) (a.at + 2) (omega arith) y
    ∙ ap suc (matched_more LF [] a.s.now (a.at + 2) (a.at + 3) (omega arith) z ∙ ap suc (matched_done _))) in
    (sym (from_field a.s.now true a.at m), (omega arith, omega arith))

pub overflow_add-at : goal.overflow_add-at
overflow_add-at c = omega (arith, c.stands.ensures.1 (c.if-not-stands.false))

pub overflow_add-result : goal.overflow_add-result
overflow_add-result c = omega (arith, c.stands.ensures.1 (c.if-not-stands.false))

pub overflow_add-at-2 : goal.overflow_add-at-2
overflow_add-at-2 c = omega (arith, c.stands-2.ensures.1 (c.if-not-stands-2.false))

pub overflow_add-result-then-not-stands-3 : goal.overflow_add-result-then-not-stands-3
overflow_add-result-then-not-stands-3 c = omega (arith, c.stands-2.ensures.1 (c.if-not-stands-2.false))

pub overflow_add-result-2 : goal.overflow_add-result-2
overflow_add-result-2 c = omega (arith, c.stands-3.ensures.1 (c.if-not-stands-3.false))
