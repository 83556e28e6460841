-- `reader::locate` meets its contract: the file's own refusal comes first, and a count tells that the file is legal.
use Rattle.std.proofs.lemmas.Result.{err_from_is_err_and}
use mathlib.Core.Path.{sym, ◌∙◌}
use Rattle.file.specs.Answers.{numbered_counted, numbered_stretch, located}
use Rattle.file.specs.Reader.{text_in}
use Rattle.file.proofs.AnswerLaws.{asked_whole, asked_refused, asked_read, file_fields}
use Rattle.reader.proofs.locate.Goals as goal

pub returns-in_err-k : goal.returns-in_err-k
unfolding numbered_counted numbered_stretch
returns-in_err-k c =
    let a = c.args in
    let p = err_from_is_err_and c.from_residual.result c.from_residual.ensures.1 in
    rw (p.1, p.2) (asked_refused a.file a.s.now a.r a.f _ c.in_err-k.ensures, tt)

pub text_of-requires : goal.text_of-requires
unfolding numbered_counted
text_of-requires c =
    let a = c.args in
    let l = asked_whole a.file a.s.now c.in_ok-k.k c.in_ok-k.ensures in
    rw c.fields_of.ensures (record { some = file_fields a.file l.file_is; whole = l.whole })

pub returns : goal.returns
unfolding located text_in numbered_counted
returns c =
    let a = c.args in
    let l = asked_whole a.file a.s.now c.in_ok-k.k c.in_ok-k.ensures in
    let e = rw c.fields_of.ensures at c.text_of.ensures.0 in
    (e ∙ asked_read (located a.file a.s.now a.r a.f) a.file a.s.now l.file_is l.short _ (sym l.whole), c.text_of.ensures.1)
