-- `amiss::one_amiss` meets its contract: the record that the link asks for is looked for by the number in its field.
use Rattle.thirteen.specs.Batch.{Batch, records_of}
use Rattle.thirteen.specs.Lent.{batch_of}
use Rattle.rules.specs.Texts.{texts}
use Rattle.amiss.proofs.AmissLaws.{one_key, found_met, nothing_met}
use Rattle.amiss.proofs.one_amiss.Goals as goal

pub look_one-requires : goal.look_one-requires
look_one-requires c =
    (c.requires.0.known.looks, c.requires.2, c.requires.3, c.number_of-a.ensures.1)

pub returns-in-Some : goal.returns-in-Some
returns-in-Some c =
    let files : Batch = batch_of c.args.files.now in
    let a = c.args in
    let k = one_key a.f c.number_of-a.result (texts a.file a.row.bytes.now a.row.places.now) c.number_of-a.ensures.0 in
    (found_met a.target (records_of files a.target) k c.look_one.ensures.0 _ c.in-Some.is, c.look_one.ensures.1)

pub returns-in-None : goal.returns-in-None
returns-in-None c =
    let files : Batch = batch_of c.args.files.now in
    let a = c.args in
    let k = one_key a.f c.number_of-a.result (texts a.file a.row.bytes.now a.row.places.now) c.number_of-a.ensures.0 in
    (nothing_met a.target (records_of files a.target) k c.look_one.ensures.0 c.in-None.is, c.look_one.ensures.1)

pub number_of-a-requires : goal.number_of-a-requires
number_of-a-requires c = (c.requires.0.kinded, c.requires.1)
