-- `alone::check_files` meets its contract: where no file has a fault, none is named; else the stages name the first.
use mathlib.Core.Path.{sym}
use Rattle.thirteen.specs.Batch.{file_in}
use Rattle.thirteen.specs.Lent.{batch_of}
use Rattle.fault.specs.Answers.{numbered_fault}
use Rattle.alone.proofs.SoundLaws.{stages_none}
use Rattle.alone.proofs.check_files.Goals as goal

pub returns-then-are_sound : goal.returns-then-are_sound
unfolding numbered_fault file_in
returns-then-are_sound c =
    sym (stages_none (batch_of c.args.files.now) (c.is_right_version.ensures c.if-is_right_version.true) (c.are_sound.ensures c.if-are_sound.true))
