-- `flaw::sign_of` meets its contract: the first record of Pevnykod that has the code number has its sign.
use mathlib.Core.Path.{refl, sym, ◌∙◌}
use native.Mathlib.Omega.{arith}
use Rattle.thirteen.specs.Batch.{Batch, file_in, records_of}
use Rattle.thirteen.specs.Lent.{batch_of}
use Rattle.keys.specs.Keys.{key_fields, key_table}
use Rattle.link.specs.Signs.{sign_of}
use Rattle.amiss.proofs.RecordLaws.{key_file, kind_file, code_there, sign_none}
use Rattle.flaw.proofs.sign_of.Goals as goal

pub look_one-requires : goal.look_one-requires
unfolding key_fields key_table
look_one-requires c =
    (c.requires.0.looks, (omega arith, omega arith), refl, c.requires.1)

pub sign_at-requires : goal.sign_at-requires
unfolding file_in
sign_at-requires c =
    let k = c.requires.0 in
    let h = code_there k c.args.c _ (sym c.look_one.ensures.0 ∙ c.in-Some.is) in
    (key_file k 3 (omega arith, omega arith), kind_file k 3 (omega arith, omega arith), h.place, h.within)

pub returns-in-Some : goal.returns-in-Some
unfolding file_in sign_of
returns-in-Some c =
    let h = code_there c.requires.0 c.args.c _ (sym c.look_one.ensures.0 ∙ c.in-Some.is) in
    (c.sign_at.ensures ∙ sym h.sign, c.look_one.ensures.1)

pub returns-in-None : goal.returns-in-None
unfolding sign_of
returns-in-None c =
    let files : Batch = batch_of c.args.files.now in
    (sym (sign_none c.args.c 0 (records_of files 3) (sym c.look_one.ensures.0 ∙ c.in-None.is)), c.look_one.ensures.1)
