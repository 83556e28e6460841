-- `lines::record_after` meets its contract: the LF behind the record is the next one from within it, too.
use mathlib.Core.Path.{◌∙◌}
use Rattle.lines.proofs.LineLaws.{Skips, skips}
use Rattle.lines.proofs.record_after.Goals as goal

pub line_after-requires : goal.line_after-requires
line_after-requires c =
    let skipped : Skips c.args.n c.args.s.now c.args.at =
    skips c.args.n c.args.s.now c.args.at c.requires.0 c.requires.1 in
    skipped.within

pub returns : goal.returns
returns c =
    let skipped : Skips c.args.n c.args.s.now c.args.at =
    skips c.args.n c.args.s.now c.args.at c.requires.0 c.requires.1 in
    c.line_after.ensures ∙ skipped.same
