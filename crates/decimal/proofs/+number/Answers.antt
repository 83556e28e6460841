-- `decimal::number` meets its contract, by recursion on the number divided by ten. A byte stored is a byte laid, and the digits of the tenth
-- and the last digit stand side by side, so they are one lay.
use Prim.Native.Nat.{◌+◌, ◌/◌, ◌%◌, ◌≤◌}
use mathlib.Core.List.{[], ◌∷◌}
use mathlib.Core.Path.{◌∙◌}
use native.Mathlib.Omega.{arith}
use Rattle.laws.specs.Splice.{store, splice_then}
use Rattle.decimal.specs.Digits.{digits_of}
use Rattle.decimal.proofs.DigitLaws.{length_small, length_big, digits_small, digits_big}
use Rattle.decimal.proofs.+number.Goals as goal

pub bounds-d-at : goal.bounds-d-at
bounds-d-at t c = omega (arith, length_small c.args.n c.if-n-lt10.true)

pub number-p-requires : goal.number-p-requires
number-p-requires t c = omega (arith, length_big c.args.n c.if-n-lt10.false)

pub bounds-d-p : goal.bounds-d-p
bounds-d-p t c = omega (arith, length_big c.args.n c.if-n-lt10.false)

pub overflow_add-result-else-n-lt10 : goal.overflow_add-result-else-n-lt10
overflow_add-result-else-n-lt10 t c = omega (arith, length_big c.args.n c.if-n-lt10.false)

pub returns-then-n-lt10 : goal.returns-then-n-lt10
returns-then-n-lt10 t c =
    let a = c.args in
    let l = length_small a.n c.if-n-lt10.true in
    (rw (digits_small a.n c.if-n-lt10.true) (store _ _ _ (omega arith)), omega arith)

pub returns-else-n-lt10 : goal.returns-else-n-lt10
returns-else-n-lt10 t c =
    let a = c.args in
    let h : 10 ≤ a.n = c.if-n-lt10.false in
    let tenth = c.number-p in
    let l = length_big a.n h in (
      rw (digits_big a.n h)
          (store _ _ _ (omega arith)
          ∙ rw tenth.ensures.0 (splice_then a.d.now a.at (digits_of (a.n / 10)) ((48 + a.n % 10) ∷ []) tenth.result tenth.ensures.1 (omega arith))),
      omega arith,
    )
