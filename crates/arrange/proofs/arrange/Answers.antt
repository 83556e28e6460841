-- `arrange::arrange` meets its contract: what is wrong with a file by itself comes first, then that of a list with no room; else the hint is laid.
use mathlib.Core.Bool.{not}
use mathlib.Core.Path.{ap}
use mathlib.Core.Path.{◌≡◌}
use Prim.Native.Nat.{◌≤◌}
use native.Mathlib.Omega.{arith}
use lib.ListN.{length}
use Rattle.thirteen.specs.Batch.{Batch}
use Rattle.thirteen.specs.Lent.{batch_of}
use Rattle.filestages.specs.Order.{first_fault, file_stages}
use Rattle.parts.specs.Parts.{hint_of}
use Rattle.arrange.proofs.KeyedLaws.{keyed_files}
use Rattle.arrange.proofs.HintLaws.{hint_refused, nothing_wrong, hint_no_room, hint_made}
use Rattle.arrange.proofs.arrange.Goals as goal

pub returns-then-not-is_none : goal.returns-then-not-is_none
returns-then-not-is_none c =
    let files : Batch = batch_of c.args.files.now in
    hint_refused files c.args.list.now _ c.check_files-fault.ensures _ c.is_none.ensures (ap not c.if-not-is_none.true)

pub returns-then-size-list : goal.returns-then-size-list
returns-then-size-list c =
    let files : Batch = batch_of c.args.files.now in
    let nothing : (first_fault (file_stages files)).number ≡ 0 =
    nothing_wrong files c.args.list.now _ c.check_files-fault.ensures _ c.is_none.ensures (ap not c.if-not-is_none.false) in
    hint_no_room files c.args.list.now nothing (omega (arith, c.if-size-list, c.whole_size-size.ensures))

pub put_all-requires : goal.put_all-requires
put_all-requires c =
    let files : Batch = batch_of c.args.files.now in
    let nothing : (first_fault (file_stages files)).number ≡ 0 =
    nothing_wrong files c.args.list.now _ c.check_files-fault.ensures _ c.is_none.ensures (ap not c.if-not-is_none.false) in
    let room : length (hint_of files) ≤ length c.args.list.now =
    omega (arith, c.if-size-list, c.whole_size-size.ensures) in
    (keyed_files files nothing, room)

pub returns : goal.returns
returns c =
    let files : Batch = batch_of c.args.files.now in
    let nothing : (first_fault (file_stages files)).number ≡ 0 =
    nothing_wrong files c.args.list.now _ c.check_files-fault.ensures _ c.is_none.ensures (ap not c.if-not-is_none.false) in
    let room : length (hint_of files) ≤ length c.args.list.now =
    omega (arith, c.if-size-list, c.whole_size-size.ensures) in
    hint_made files c.args.list.now nothing room c.put_all.ensures c.whole_size-size.ensures

pub whole_size-size-requires : goal.whole_size-size-requires
whole_size-size-requires c =
    let files : Batch = batch_of c.args.files.now in
    let nothing : (first_fault (file_stages files)).number ≡ 0 =
    nothing_wrong files c.args.list.now _ c.check_files-fault.ensures _ c.is_none.ensures (ap not c.if-not-is_none.false) in
    keyed_files files nothing
