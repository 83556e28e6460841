-- `amiss::two_amiss` meets its contract: the record that the link asks for is looked for by the numbers in its two fields.
use Rattle.thirteen.specs.Batch.{Batch, records_of}
use Rattle.thirteen.specs.Lent.{batch_of}
use Rattle.rules.specs.Texts.{texts}
use Rattle.amiss.proofs.AmissLaws.{two_key, found_met, nothing_met}
use Rattle.amiss.proofs.two_amiss.Goals as goal

pub look_two-requires : goal.look_two-requires
look_two-requires c =
    (c.requires.0.known.looks, c.requires.3, c.requires.4, c.number_of-a.ensures.1, c.number_of-b.ensures.1)

pub returns-in-Some : goal.returns-in-Some
returns-in-Some c =
    let files : Batch = batch_of c.args.files.now in
    let a = c.args in
    let r = texts a.file a.row.bytes.now a.row.places.now in
    let k = two_key 1 a.f c.number_of-a.result c.number_of-b.result r c.number_of-a.ensures.0 c.number_of-b.ensures.0 in
    (found_met a.target (records_of files a.target) k c.look_two.ensures.0 _ c.in-Some.is, c.look_two.ensures.1)

pub returns-in-None : goal.returns-in-None
returns-in-None c =
    let files : Batch = batch_of c.args.files.now in
    let a = c.args in
    let r = texts a.file a.row.bytes.now a.row.places.now in
    let k = two_key 1 a.f c.number_of-a.result c.number_of-b.result r c.number_of-a.ensures.0 c.number_of-b.ensures.0 in
    (nothing_met a.target (records_of files a.target) k c.look_two.ensures.0 c.in-None.is, c.look_two.ensures.1)

pub number_of-a-requires : goal.number_of-a-requires
number_of-a-requires c = (c.requires.0.kinded, c.requires.1)

pub number_of-b-requires : goal.number_of-b-requires
number_of-b-requires c = (c.requires.0.kinded, c.requires.2)
