-- `parts::put_starts` meets its contract. The loop's invariant speaks of what is left: the places of the records that are left, laid over the list as it
-- is, give the list that is wanted.
use mathlib.Core.Path.{refl, sym, ap, ◌∙◌}
use Prim.Native.Nat.{◌<◌}
use native.Mathlib.Omega.{arith}
use lib.ListN.{length, length-set}
use Rattle.file.specs.Files.{fields_of}
use Rattle.file.specs.Records.{records_in}
use Rattle.lines.specs.Index.{starts_from}
use Rattle.lines.proofs.LineLaws.{place_start, next_line, next_at}
use Rattle.parts.proofs.PartLaws.{starts_size, splice_whole, starts_turn, starts_done}
use Rattle.parts.proofs.put_starts.Goals as goal

pub loop-at-init : goal.loop-at-init
loop-at-init c =
    let n = fields_of c.args.file in
    let s = c.args.s.now in (
      omega arith,
      place_start n s c.requires.0.legal,
      omega (arith, c.requires.2),
      refl,
      splice_whole c.args.list.now (starts_from 0 (records_in n s)) (starts_size 0 (records_in n s) ∙ sym c.requires.2),
    )

pub overflow_cast-list : goal.overflow_cast-list
overflow_cast-list c = omega (arith, c.loop-at-test, c.requires.1)

pub offset_bounds-list-n : goal.offset_bounds-list-n
offset_bounds-list-n c = omega (arith, c.loop-at-test, c.loop-at.invariant.0, c.requires.1)

pub bounds-list-n : goal.bounds-list-n
bounds-list-n c =
    let l = c.loop-at in
    let a = c.args in
    omega (arith, l.invariant.2, ap length (next_at (fields_of a.file) a.s.now l.at l.invariant.1 (omega (arith, c.loop-at-test))).rest)

pub loop-at-preserved : goal.loop-at-preserved
loop-at-preserved c =
    let l = c.loop-at in
    let a = c.args in
    let n = fields_of a.file in
    let s = a.s.now in
    let w = next_line n s l.at l.invariant.1 (omega (arith, c.loop-at-test)) c.line_after-at.result c.line_after-at.ensures in
    let room : l.n < length l.list = omega (arith, ap length w.rest, l.invariant.2) in
    let size = length-set l.list l.n l.at in (
      omega (arith, l.invariant.0, c.line_after-at.ensures),
      w.place,
      omega (arith, ap length w.rest, l.invariant.2, size),
      size ∙ l.invariant.3,
      starts_turn n s l.list l.n l.at _ c.line_after-at.result w room ∙ l.invariant.4,
    )

pub returns : goal.returns
returns c =
    let l = c.loop-at in
    let a = c.args in
    starts_done (fields_of a.file) a.s.now l.list l.n l.at c.loop-at-test.false l.invariant.4

pub line_after-at-requires : goal.line_after-at-requires
line_after-at-requires c = omega (arith, c.loop-at-test)

pub shape_of-list : goal.shape_of-list
shape_of-list c = c.loop-at.invariant.3
