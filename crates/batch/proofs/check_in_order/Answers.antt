-- `batch::check_in_order` meets its contract: 1 to 6 come first, and where they find nothing the files are sound, so that the ways can be made out and
-- the records asked.
use mathlib.Core.Bool.{not}
use mathlib.Core.Path.{sym, ap, ◌∙◌}
use native.Mathlib.Omega.{arith}
use Rattle.laws.specs.Numbered.{Numbered}
use Rattle.links.proofs.KeyedLaws.{sound_keys}
use Rattle.amiss.specs.Sound.{SoundFiles}
use Rattle.thirteen.specs.Batch.{Batch}
use Rattle.thirteen.specs.Lent.{batch_of}
use Rattle.overfiles.proofs.FileLaws.{legal_files}
use Rattle.filestages.specs.Order.{file_stages}
use Rattle.batch.specs.Order.{stages, fault_of}
use Rattle.batch.proofs.SoundLaws.{sound_files}
use Rattle.fault.proofs.FaultLaws.{is_some}
use Rattle.filestages.proofs.OrderLaws.{stages_stop, stages_past, stages_zero}
use Rattle.batch.proofs.check_in_order.Goals as goal

pub returns-then-not-is_none : goal.returns-then-not-is_none
unfolding fault_of stages file_stages
returns-then-not-is_none c =
    let files : Batch = batch_of c.args.files.now in
    let e = stages_stop _ _ c.is_none.ensures 4 (stages files) c.check_files-fault.ensures (ap not c.if-not-is_none.true) in
    (e, λ z. absurd (is_some _ _ c.is_none.ensures (ap not c.if-not-is_none.true) (ap (λ (a : Numbered). a.number) (e ∙ z))))

pub survey-requires : goal.survey-requires
unfolding stages file_stages
survey-requires c =
    let files : Batch = batch_of c.args.files.now in
    let z = stages_zero _ _ c.is_none.ensures 4 (stages files) c.check_files-fault.ensures (ap not c.if-not-is_none.false) in
    let sound : SoundFiles files = sound_files files (legal_files files (z 1 (omega arith))) (z 3 (omega arith)) in
    (c.requires, sound_keys _ sound)

pub check_records-requires : goal.check_records-requires
unfolding stages file_stages
check_records-requires c =
    let files : Batch = batch_of c.args.files.now in
    let z = stages_zero _ _ c.is_none.ensures 4 (stages files) c.check_files-fault.ensures (ap not c.if-not-is_none.false) in
    let sound : SoundFiles files = sound_files files (legal_files files (z 1 (omega arith))) (z 3 (omega arith)) in
    let p = c.requires in
    (sound, omega (arith, c.survey.auto.ways, p), c.survey.ensures)

pub returns : goal.returns
unfolding fault_of stages file_stages
returns c =
    let files : Batch = batch_of c.args.files.now in
    (c.check_records.ensures ∙ sym (stages_past _ _ c.is_none.ensures 4 (stages files) c.check_files-fault.ensures (ap not c.if-not-is_none.false)), λ z. c.survey.ensures)
