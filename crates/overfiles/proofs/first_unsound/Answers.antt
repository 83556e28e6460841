-- `overfiles::first_unsound` meets its contract. The loop's invariant: the first fault from `file` on is the first of all.
use mathlib.Core.Bool.{not}
use mathlib.Core.Path.{ap}
use mathlib.Core.Path.{◌≡◌, sym, ◌∙◌}
use native.Mathlib.Omega.{arith}
use Rattle.overfiles.proofs.FileLaws.{fault_in, sound_fault, ready_file, files_stop, files_next}
use Rattle.thirteen.specs.Batch.{Batch}
use Rattle.thirteen.specs.Lent.{batch_of}
use Rattle.thirteen.proofs.OverLaws.{over_done}
use Rattle.fault.specs.Answers.{numbered_fault}
use Rattle.overfiles.proofs.first_unsound.Goals as goal

pub first_fault-requires : goal.first_fault-requires
first_fault-requires c =
    let files : Batch = batch_of c.args.files.now in
    ready_file files c.loop-file.file _ c.file_of-s.ensures _ c.fields_of.ensures c.requires (omega arith) (omega arith)

pub returns-then-not-is_none : goal.returns-then-not-is_none
returns-then-not-is_none c =
    let files : Batch = batch_of c.args.files.now in
    let fault_here : numbered_fault c.checked_fault-fault.result ≡ (fault_in files) c.loop-file.file =
    sound_fault files c.loop-file.file _ c.file_of-s.ensures _ c.fields_of.ensures _ _ c.checked_fault-fault.ensures c.first_fault.ensures in
    files_stop _ _ c.is_none.ensures (fault_in files) c.loop-file.file c.loop-file-test.true fault_here (ap not c.if-not-is_none.true) ∙ c.loop-file.invariant

pub loop-file-preserved : goal.loop-file-preserved
loop-file-preserved c =
    let files : Batch = batch_of c.args.files.now in
    let fault_here : numbered_fault c.checked_fault-fault.result ≡ (fault_in files) c.loop-file.file =
    sound_fault files c.loop-file.file _ c.file_of-s.ensures _ c.fields_of.ensures _ _ c.checked_fault-fault.ensures c.first_fault.ensures in
    let n = files_next _ _ c.is_none.ensures (fault_in files) c.loop-file.file c.loop-file-test.true fault_here (ap not c.if-not-is_none.false) in
    sym n ∙ c.loop-file.invariant

pub returns : goal.returns
unfolding numbered_fault
returns c =
    let files : Batch = batch_of c.args.files.now in
    sym (over_done (fault_in files) c.loop-file.file (omega arith)) ∙ c.loop-file.invariant
