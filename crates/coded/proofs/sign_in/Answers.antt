-- `coded::sign_in` meets its contract: the first record of Pevnykod that has the code number has its sign.
use mathlib.Core.Path.{refl, sym, ◌∙◌}
use Rattle.file.specs.Files.{fields_of}
use Rattle.file.specs.Records.{records_in}
use Rattle.keys.specs.Keys.{key_fields, key_table}
use Rattle.amiss.proofs.RecordLaws.{sign_found, sign_none}
use Rattle.coded.proofs.sign_in.Goals as goal

pub by_one-requires : goal.by_one-requires
unfolding key_fields key_table
by_one-requires c =
    let k = c.requires.1 in
    (k.size, k.way, refl, c.requires.0)

pub sign_at-requires : goal.sign_at-requires
sign_at-requires c =
    let k = c.requires.1 in
    let h = sign_found c.args.f3.now c.args.c _ k.key.legal (sym c.by_one.ensures ∙ c.in-Some.is) in
    (k.key, k.kinds, h.place, h.within)

pub returns-in-Some : goal.returns-in-Some
returns-in-Some c =
    let h = sign_found c.args.f3.now c.args.c _ c.requires.1.key.legal (sym c.by_one.ensures ∙ c.in-Some.is) in
    c.sign_at.ensures ∙ sym h.sign

pub returns-in-None : goal.returns-in-None
returns-in-None c =
    sym (sign_none c.args.c 0 (records_in (fields_of 3) c.args.f3.now) (sym c.by_one.ensures ∙ c.in-None.is))
