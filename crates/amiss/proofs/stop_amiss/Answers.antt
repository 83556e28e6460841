-- `amiss::stop_amiss` meets its contract: a stop that the line's stop found last has is met already; any other is looked for.
use mathlib.Core.Path.{◌≡◌, refl, ◌∙◌}
use mathlib.Core.Bool.{true}
use mathlib.Core.List.{[], ◌∷◌}
use native.Mathlib.Omega.{arith}
use Rattle.thirteen.specs.Batch.{Batch, file_in, records_of}
use Rattle.thirteen.specs.Lent.{batch_of}
use Rattle.keys.specs.Keys.{key_fields, key_table, numbers, has}
use Rattle.rules.specs.Texts.{texts}
use Rattle.amiss.proofs.RecordLaws.{key_file, kind_file, stop_met}
use Rattle.amiss.proofs.AmissLaws.{one_key}
use Rattle.amiss.proofs.stop_amiss.Goals as goal

pub stands_there-requires : goal.stands_there-requires
unfolding file_in
stands_there-requires c =
    let k = c.requires.0.known in
    (key_file k 7 (omega arith, omega arith), kind_file k 7 (omega arith, omega arith), k.looks.lasts.place 7 (omega arith, omega arith))

pub returns-then-stands_there : goal.returns-then-stands_there
unfolding file_in
returns-then-stands_there c =
    let files : Batch = batch_of c.args.files.now in
    let a = c.args in
    let k = c.requires.0.known in
    let b = files in
    let t = c.stands_there.ensures c.if-stands_there.true in
    let m = stop_met b _ (k.stops c.if-file-eq8.true) (k.looks.lasts.place 7 (omega arith, omega arith)) t.0 in
    let e = one_key a.f _ (texts a.file a.row.bytes.now a.row.places.now) (t.1 ∙ c.number_of.ensures.0) in
    let z : has 2 (numbers (a.f ∷ []) (texts a.file a.row.bytes.now a.row.places.now)) (records_of b 2) ≡ true = rw e at m in
    (rw z, k.looks.lasts)

pub one_amiss-requires : goal.one_amiss-requires
unfolding key_fields key_table
one_amiss-requires c =
    (c.requires.0, c.requires.1, (omega arith, omega arith), refl)

pub bounds-last-7 : goal.bounds-last-7
bounds-last-7 c = omega (arith, c.requires.0.known.looks.lasts.size)

pub number_of-requires : goal.number_of-requires
number_of-requires c = (c.requires.0.kinded, c.requires.1)

pub returns : goal.returns
returns c = c.one_amiss.ensures
