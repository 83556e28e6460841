-- `entries::next_entry` meets its contract: behind the entry of a record stands the next, before it the previous one.
use mathlib.Core.Path.{◌∙◌}
use native.Mathlib.Omega.{arith}
use lib.ListN.{get_or}
use Rattle.keys.specs.Keys.{third}
use Rattle.keys.specs.Ranks.{record_at}
use Rattle.keys.proofs.KeyLaws.{third_small}
use Rattle.keys.proofs.KeyFileLaws.{key_here}
use Rattle.seek.proofs.SeekLaws.{entry_place}
use Rattle.trail.specs.Trail.{step_of}
use Rattle.entries.proofs.StepLaws.{lower_up, lower_down}
use Rattle.entries.proofs.next_entry.Goals as goal

pub returns-then-up : goal.returns-then-up
unfolding step_of
returns-then-up c =
    let a = c.args in
    let p = c.requires in
    let s = a.s.now in
    let l = lower_up a.file a.line a.trip s p.0 p.1 p.6 p.7 a.part.now p.2 p.3 a.entry p.4 p.5 in
    c.entry_from.ensures _ l ∙ rw c.if-up.true

pub returns-else-up : goal.returns-else-up
unfolding step_of
returns-else-up c =
    let a = c.args in
    let p = c.requires in
    let s = a.s.now in
    let at = get_or a.part.now a.entry 0 in
    let w = entry_place a.file s a.part.now p.2 a.entry p.4 in
    let u = third_small a.file (record_at a.file s at) (key_here a.file s at p.0 w.0 w.1).numbers in
    let l = lower_down a.file a.line a.trip s p.0 p.1 p.6 p.7 a.part.now p.2 p.3 a.entry p.4 p.5 in
    c.entry_below.ensures (third a.file (record_at a.file s at)) (omega (arith, u)) l ∙ rw c.if-up.false
