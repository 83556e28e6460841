-- `smooth::both_pass` meets its contract: files that are orderly are sound, and the ways lead to their records. Neither file is Zasspoje.
use native.Mathlib.Omega.{arith}
use Rattle.thirteen.specs.Batch.{Batch}
use Rattle.thirteen.specs.Lent.{batch_of}
use Rattle.smooth.proofs.OrderlyLaws.{orderly_sound}
use Rattle.smooth.proofs.both_pass.Goals as goal

pub passes-requires : goal.passes-requires
passes-requires c =
    let files : Batch = batch_of c.args.files.now in
    let p = c.requires in
    let o = p.4 in
    (p.0, omega (arith, p.1), orderly_sound files o, p.5, p.6 files c.args.paths.order.now o, λ e. absurd (omega (arith, e, p.1)))

pub passes-requires-then-passes : goal.passes-requires-then-passes
passes-requires-then-passes c =
    let files : Batch = batch_of c.args.files.now in
    let p = c.requires in
    let o = p.4 in
    (p.2, omega (arith, p.3), orderly_sound files o, p.5, p.6 files c.args.paths.order.now o, λ e. absurd (omega (arith, e, p.3)))

pub returns-then-passes : goal.returns-then-passes
returns-then-passes c t = (c.passes.ensures c.if-passes.true, c.passes-then-passes.ensures t)
