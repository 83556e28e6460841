-- `links::files_fault` meets its contract. The loop's invariant: the first fault of the files from `file` on is the first of all.
use native.Mathlib.Omega.{arith}
use Rattle.link.specs.Stage.{numbered_linked}
use Rattle.faulty.proofs.StageLaws.{onward_start, onward_end, onward_stop, onward_next, onward_known}
use Rattle.links.proofs.files_fault.Goals as goal

pub loop-file-init : goal.loop-file-init
loop-file-init c = let p = c.requires in (onward_start _, p.1.lasts, p.2)

pub file_fault-found-requires : goal.file_fault-found-requires
file_fault-found-requires c =
    let i = c.loop-file.invariant in
    let p = c.requires in
    (i.0.low, omega arith, onward_known _ _ _ _ _ _ i.0 p.0 p.1 i.1, i.2)

pub returns-then-not-is_sound : goal.returns-then-not-is_sound
returns-then-not-is_sound c =
    onward_stop _ _ c.loop-file.invariant.0 (omega arith) _ c.file_fault-found.ensures.0 _ c.is_sound.ensures (c.if-not-is_sound.true)

pub loop-file-preserved : goal.loop-file-preserved
loop-file-preserved c =
    let x = c.file_fault-found.ensures in
    (onward_next _ _ c.loop-file.invariant.0 (omega arith) _ x.0 _ c.is_sound.ensures (c.if-not-is_sound.false), x.1, x.2)

pub returns : goal.returns
unfolding numbered_linked
returns c = onward_end _ _ c.loop-file.invariant.0 (omega arith)
