-- `filestages::check_stages` meets its contract: the bytes of all files come first, then the version, then the fields.
use mathlib.Core.Bool.{not}
use mathlib.Core.Path.{ap}
use mathlib.Core.Path.{◌≡◌, sym, ◌∙◌}
use native.Mathlib.Omega.{arith}
use lib.ListN.{drop}
use Rattle.file.specs.Files.{field_counts, fields_of}
use Rattle.field.specs.Stage.{field_fault}
use Rattle.thirteen.specs.Batch.{Batch, file_in, records_of, over_files}
use Rattle.thirteen.specs.Lent.{batch_of}
use Rattle.overfiles.specs.Legal.{LegalFiles}
use Rattle.overfiles.proofs.FileLaws.{legal_files}
use Rattle.filestages.specs.Order.{first_fault, file_stages}
use Rattle.filestages.proofs.OrderLaws.{first_one, stages_stop, stages_past, stages_zero}
use Rattle.filestages.proofs.check_stages.Goals as goal

pub returns-then-not-is_none : goal.returns-then-not-is_none
unfolding file_stages
returns-then-not-is_none c =
    let files : Batch = batch_of c.args.files.now in
    stages_stop _ _ c.is_none.ensures 2 (file_stages files) c.check_bytes-first.ensures (ap not c.if-not-is_none.true)

pub version_fault-second-requires : goal.version_fault-second-requires
unfolding fields_of field_counts file_in file_stages
version_fault-second-requires c =
    let files : Batch = batch_of c.args.files.now in
    let legal : LegalFiles files =
    legal_files files (stages_zero _ _ c.is_none.ensures 2 (file_stages files) c.check_bytes-first.ensures (ap not c.if-not-is_none.false) 1 (omega arith)) in
    legal 1 (omega arith) (omega arith)

pub returns-else-is_none : goal.returns-else-is_none
unfolding file_stages fields_of field_counts file_in
returns-else-is_none c =
    let files : Batch = batch_of c.args.files.now in
    let past : first_fault (file_stages files) ≡ first_fault (drop 2 (file_stages files)) =
    stages_past _ _ c.is_none.ensures 2 (file_stages files) c.check_bytes-first.ensures (ap not c.if-not-is_none.false) in
    let xs = drop 2 (file_stages files) in
    stages_stop _ _ c.is_none-2.ensures 1 xs (first_one _ _ c.version_fault-second.ensures) (ap not c.if-is_none.false) ∙ sym past

pub returns-then-is_none : goal.returns-then-is_none
unfolding file_stages fields_of field_counts file_in
returns-then-is_none c =
    let files : Batch = batch_of c.args.files.now in
    let past : first_fault (file_stages files) ≡ first_fault (drop 2 (file_stages files)) =
    stages_past _ _ c.is_none.ensures 2 (file_stages files) c.check_bytes-first.ensures (ap not c.if-not-is_none.false) in
    let xs = drop 2 (file_stages files) in
    first_one _ (over_files (λ file. field_fault file (records_of files file)) 2 12) c.first_unsound.ensures ∙ sym (stages_past _ _ c.is_none-2.ensures 1 xs (first_one _ _ c.version_fault-second.ensures) (ap not c.if-is_none.true)) ∙ sym past

pub first_unsound-requires : goal.first_unsound-requires
unfolding file_stages
first_unsound-requires c =
    let files : Batch = batch_of c.args.files.now in
    let legal : LegalFiles files =
    legal_files files (stages_zero _ _ c.is_none.ensures 2 (file_stages files) c.check_bytes-first.ensures (ap not c.if-not-is_none.false) 1 (omega arith)) in
    legal
