-- `recall::field_met` meets its contract: what stands in the table is so, and what is put there was looked for.
use mathlib.Core.Path.{◌≡◌, sym, ◌∙◌}
use Prim.Native.Nat.{◌%◌, ◌<◌}
use native.Mathlib.Omega.{arith}
use lib.ListN.{length}
use Rattle.file.specs.Format.{Fields}
use Rattle.laws.specs.Tests.{never}
use Rattle.thirteen.specs.Batch.{Batch}
use Rattle.thirteen.specs.Lent.{batch_of}
use Rattle.rules.specs.Texts.{texts}
use Rattle.link.specs.Stage.{amiss}
use Rattle.recall.proofs.RecallLaws.{none_asked, recalled, remembered}
use Rattle.recall.proofs.field_met.Goals as goal

pub returns-then-t-eq0 : goal.returns-then-t-eq0
returns-then-t-eq0 c =
    let files : Batch = batch_of c.args.files.now in
    let cutTexts : Fields =
    let a = c.args in texts a.file a.row.bytes.now a.row.places.now in
    let a = c.args in
    ((λ e. none_asked files a.file a.f cutTexts _ c.tag_at-t.ensures c.if-t-eq0.true), c.requires.0.known.looks.lasts, c.requires.1)

pub returns-then-table-slot : goal.returns-then-table-slot
returns-then-table-slot c =
    let files : Batch = batch_of c.args.files.now in
    let cutTexts : Fields =
    let a = c.args in texts a.file a.row.bytes.now a.row.places.now in
    let a = c.args in
    ((λ e. recalled files a.file a.f cutTexts _ c.tag_at-t.ensures _ c.requires.1 _ c.if-table-slot.true), c.requires.0.known.looks.lasts, c.requires.1)

pub returns-then-amiss_at-ne0 : goal.returns-then-amiss_at-ne0
returns-then-amiss_at-ne0 c =
    ((λ e. never e), c.amiss_at.ensures.1, c.requires.1)

pub bounds-table-slot-2 : goal.bounds-table-slot-2
bounds-table-slot-2 c =
    omega (arith, c.requires.1.size)

pub returns : goal.returns
returns c =
    let files : Batch = batch_of c.args.files.now in
    let cutTexts : Fields =
    let a = c.args in texts a.file a.row.bytes.now a.row.places.now in
    let a = c.args in
    let e : amiss files a.file cutTexts a.f ≡ 0 = sym c.amiss_at.ensures.0 ∙ c.if-amiss_at-ne0.false in
    let l : c.tag_at-t.result % 4093 < length a.table.now = omega (arith, c.requires.1.size) in
    ((λ z. e), c.amiss_at.ensures.1, remembered files a.file a.f cutTexts _ c.tag_at-t.ensures _ c.requires.1 _ l e)
