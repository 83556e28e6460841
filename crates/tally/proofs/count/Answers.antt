-- `tally::count` meets its contract: a legal file has as many LFs as records. The loop's invariant: `n` and the LFs from `at` on are all.
use Prim.Native.Nat.{◌+◌, ◌-◌}
use native.Mathlib.Omega.{arith}
use lib.ListN.{length, drop, length-drop}
use lib.Seq.{length-take-le}
use Rattle.file.specs.Files.{fields_of}
use Rattle.tally.proofs.FeedLaws.{feeds_end, feeds_most, feeds_part, feeds_records}
use Rattle.tally.proofs.count.Goals as goal

pub line_feeds-requires : goal.line_feeds-requires
line_feeds-requires c =
    let at = c.loop-at.at in
    let s = c.args.s.now in
    omega (arith, length-take-le (at + 240 - at) (drop at s) (simp length-drop (omega arith)))

pub loop-at-preserved : goal.loop-at-preserved
loop-at-preserved c =
    let l = c.loop-at in
    let s = c.args.s.now in
    omega (arith, c.line_feeds.ensures, feeds_part s l.at (l.at + 240) (omega arith))

-- what was counted is no more than the bytes, so it fits
pub overflow_add-n : goal.overflow_add-n
overflow_add-n c = let b = loop-at-preserved c in omega (arith, b.1, feeds_most c.args.s.now)

pub line_feeds-requires-2 : goal.line_feeds-requires-2
line_feeds-requires-2 c =
    let at = c.loop-at.at in
    let s = c.args.s.now in
    omega (arith, length-take-le (length s - at) (drop at s) (simp length-drop (omega arith)))

pub overflow_add-result : goal.overflow_add-result
overflow_add-result c =
    let l = c.loop-at in
    let s = c.args.s.now in
    omega (arith, c.line_feeds-2.ensures, feeds_part s l.at (length s) (omega arith), feeds_most s)

pub returns : goal.returns
returns c =
    let l = c.loop-at in
    let s = c.args.s.now in
    omega (
      arith,
      c.line_feeds-2.ensures,
      feeds_part s l.at (length s) (omega arith),
      feeds_end s (length s) (omega arith),
      feeds_records (fields_of c.args.file) s c.requires.legal,
    )
