-- `smooth::all_pass` meets its contract, whatever the glance at keys says: the version is right, no file is too long, the ways are by keys, and all files pass.
use mathlib.Core.Bool.{not}
use mathlib.Core.Path.{ap, sym, ◌∙◌}
use native.Mathlib.Omega.{arith}
use Rattle.laws.specs.Numbered.{Numbered}
use Rattle.thirteen.specs.Batch.{Batch, file_in}
use Rattle.thirteen.specs.Lent.{batch_of}
use Rattle.fault.proofs.FaultLaws.{is_zero}
use Rattle.smooth.proofs.SmoothLaws.{smooth}
use Rattle.smooth.proofs.all_pass.Goals as goal

pub others_pass-requires : goal.others_pass-requires
others_pass-requires c =
    let p = c.requires in
    (c.targets_pass.ensures c.if-targets_pass.true, omega (arith, p, c.set_rising.auto.ways), c.set_rising.ensures)

pub returns-then-targets_pass : goal.returns-then-targets_pass
unfolding file_in
returns-then-targets_pass c t =
    let files : Batch = batch_of c.args.files.now in
    let right = c.is_right_version.ensures (c.if-not-is_right_version.false) in
    let short = sym (ap (λ (a : Numbered). a.number) c.first_long.ensures) ∙ is_zero _ _ c.is_none.ensures (ap not c.if-not-is_none.false) in
    smooth files c.args.order.now _ right short c.set_rising.ensures (c.others_pass.ensures t)
