-- `reader::opening_of` meets its contract. The loop's invariant: from `at` on, all texts but those passed stand before the one that is
-- sought. In a legal file a text's whole closing stands where it ends, so the next field starts past it.
use mathlib.Core.Path.{◌≡◌}
use Prim.Native.Nat.{◌+◌, ◌-◌}
use native.Mathlib.Omega.{arith}
use lib.ListN.{length}
use Rattle.file.specs.Fields.{closing, end_of}
use Rattle.file.specs.Reading.{is_last}
use Rattle.file.proofs.Beginnings.{fewer}
use Rattle.file.proofs.SeekLaws.{left_first, left_ahead, past_near, left_past, left_none}
use Rattle.reader.proofs.opening_of.Goals as goal

pub loop-passed-init : goal.loop-passed-init
loop-passed-init c = let e : c.args.others ≡ c.args.others - 0 = omega arith in (c.requires.some, rw (← e) (left_first c.args.n c.args.s.now c.args.others c.requires))

pub overflow_add-at-in-loop-passed : goal.overflow_add-at-in-loop-passed
overflow_add-at-in-loop-passed c =
    let a = c.args in
    let sum : c.text_end.result + c.closing_size.result
    ≡ end_of c.args.s.now (c.loop-passed.at + 1) + length (closing (is_last c.args.n c.loop-passed.field)) =
    omega (arith, c.text_end.ensures.place, c.closing_size.ensures) in
    omega (arith, sum, past_near a.n a.s.now a.others c.loop-passed.at c.loop-passed.field _ c.loop-passed.invariant.1)

pub loop-passed-preserved : goal.loop-passed-preserved
loop-passed-preserved c =
    let a = c.args in
    let l = c.loop-passed in
    let sum : c.text_end.result + c.closing_size.result
    ≡ end_of c.args.s.now (c.loop-passed.at + 1) + length (closing (is_last c.args.n c.loop-passed.field)) =
    omega (arith, c.text_end.ensures.place, c.closing_size.ensures) in
    let e : a.others - l.passed - 1 ≡ a.others - (l.passed + 1) = omega arith in
    rw (c.next_field-field.ensures, sum, ← e)
    (fewer a.n l.field l.invariant.0, left_past a.n a.s.now a.others l.at l.field (a.others - l.passed) l.invariant.1 (omega arith))

pub returns : goal.returns
returns c =
    let a = c.args in
    left_none a.n a.s.now a.others c.loop-passed.at c.loop-passed.field _ c.loop-passed.invariant.1 (omega arith)

pub text_end-requires : goal.text_end-requires
text_end-requires c =
    let a = c.args in
    let inside = (left_ahead a.n a.s.now a.others c.loop-passed.at c.loop-passed.field _ c.loop-passed.invariant.1).within in
    omega (arith, inside)

pub overflow_add-at : goal.overflow_add-at
overflow_add-at c =
    let a = c.args in
    let inside = (left_ahead a.n a.s.now a.others c.loop-passed.at c.loop-passed.field _ c.loop-passed.invariant.1).within in
    omega (arith, inside)
