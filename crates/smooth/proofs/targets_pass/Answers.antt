-- `smooth::targets_pass` meets its contract: each pair of files is gone through beside those that it links to, and passes beside all of them.
use mathlib.Core.Path.{sym, ◌∙◌}
use native.Mathlib.Omega.{arith}
use Rattle.laws.specs.Tests.{never}
use Rattle.smooth.proofs.TargetLaws.{no_orderly, base_orderly, line_orderly, targets_passed}
use Rattle.smooth.proofs.targets_pass.Goals as goal
use Rattle.smooth.proofs.targets_pass.Goals.{then-both_pass, else-both_pass}

pub both_pass-requires : goal.both_pass-requires
both_pass-requires c =
    let p = c.requires in
    (omega arith, omega arith, omega arith, omega arith, no_orderly c.args.files.now, p.0, p.1)

pub both_pass-requires-then-both_pass : goal.both_pass-requires-then-both_pass
both_pass-requires-then-both_pass c =
    let p = c.requires in
    let x = c.both_pass.ensures c.if-both_pass.true in
    (omega arith, omega arith, omega arith, omega arith, base_orderly c.args.files.now x.0 x.1, p.0, p.1)

pub both_pass-requires-then-both_pass-2 : goal.both_pass-requires-then-both_pass-2
both_pass-requires-then-both_pass-2 c =
    let p = c.requires in
    elim c.if-both_pass.branch [
      | then-both_pass w ↦
          let x = c.both_pass.ensures w.if-both_pass.true in
          let y = w.both_pass-then-both_pass.ensures (sym w.value-is ∙ c.if-both_pass-2.true) in
          (omega arith, omega arith, omega arith, omega arith, line_orderly c.args.files.now x.0 x.1 y.0 y.1, p.0, p.1)
      | else-both_pass w ↦ never (sym w.if-both_pass.false ∙ sym w.value-is ∙ c.if-both_pass-2.true)
    ]

pub returns-then-both_pass-2 : goal.returns-then-both_pass-2
returns-then-both_pass-2 c t =
    elim c.if-both_pass.branch [
      | then-both_pass w ↦
          let x = c.both_pass.ensures w.if-both_pass.true in
          let y = w.both_pass-then-both_pass.ensures (sym w.value-is ∙ c.if-both_pass-2.true) in
          let z = c.both_pass-then-both_pass-2.ensures t in
          targets_passed c.args.files.now x.0 x.1 y.0 y.1 z.0 z.1
      | else-both_pass w ↦ never (sym w.if-both_pass.false ∙ sym w.value-is ∙ c.if-both_pass-2.true)
    ]
