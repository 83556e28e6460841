-- `amiss::seat_amiss` meets its contract: trip 0 links to nothing, and any other is looked for.
use mathlib.Core.Path.{refl, sym, ◌∙◌}
use native.Mathlib.Omega.{arith}
use Rattle.thirteen.specs.Batch.{Batch}
use Rattle.thirteen.specs.Lent.{batch_of}
use Rattle.keys.specs.Keys.{key_fields, key_table}
use Rattle.rules.specs.Texts.{texts}
use Rattle.amiss.proofs.AmissLaws.{seat_zero, seat_trip}
use Rattle.amiss.proofs.seat_amiss.Goals as goal

pub number_of-requires : goal.number_of-requires
number_of-requires c =
    (c.requires.0.kinded, rw c.requires.3 c.requires.2)

pub returns-then-number_of-eq0 : goal.returns-then-number_of-eq0
returns-then-number_of-eq0 c =
    let files : Batch = batch_of c.args.files.now in
    let a = c.args in
    let z = sym c.number_of.ensures.0 ∙ c.if-number_of-eq0.true in
    (seat_zero files a.file a.f (texts a.file a.row.bytes.now a.row.places.now) z, c.requires.0.known.looks.lasts)

pub two_amiss-requires : goal.two_amiss-requires
unfolding key_fields key_table
two_amiss-requires c =
    (c.requires.0, c.requires.1, rw c.requires.3 c.requires.2, (omega arith, omega arith), refl)

pub returns : goal.returns
returns c =
    let files : Batch = batch_of c.args.files.now in
    let a = c.args in
    let r = texts a.file a.row.bytes.now a.row.places.now in
    let e =
    seat_trip files a.file a.f r (λ z. c.if-number_of-eq0.false (c.number_of.ensures.0 ∙ z)) c.requires.3 in
    (c.two_amiss.ensures.0 ∙ e, c.two_amiss.ensures.1)
