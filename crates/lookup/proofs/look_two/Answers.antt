-- `lookup::look_two` meets its contract: the file is chosen by its number, and the search goes the way that is kept for it. What was found is
-- remembered, and so is the entry that led to it, which stands behind the places that anything is asked of.
use mathlib.Core.Path.{◌≡◌, refl, sym, ap, ◌∙◌}
use mathlib.Core.List.{List, [], ◌∷◌}
use Prim.Native.Nat.{ℕ}
use lib.ListN.{length}
use Rattle.file.specs.Files.{fields_of}
use Rattle.file.specs.Records.{records_in}
use Rattle.keys.specs.Keys.{first_with}
use Rattle.thirteen.specs.Batch.{Batch, records_of}
use Rattle.thirteen.specs.Lent.{batch_of}
use Rattle.find.proofs.FindLaws.{small_two}
use Rattle.lookup.proofs.WayLaws.{lasts_found, lasts_entry}
use Rattle.lookup.proofs.look_two.Goals as goal

pub returns : goal.returns
returns c =
    let files : Batch = batch_of c.args.files.now in
    let a = c.args in
    let hit = c.with_two-hit in
    let e : hit.result.found ≡ first_with a.file (a.a ∷ a.b ∷ []) 0 (records_of files a.file) =
    hit.ensures ∙ ap (λ (s : List ℕ). first_with a.file (a.a ∷ a.b ∷ []) 0 (records_in (fields_of a.file) s)) c.file_of-s.ensures in
    let z : length (a.a ∷ a.b ∷ []) ≡ 2 = refl in
    let l = lasts_found files a.paths.order.now a.paths.ways.now a.last.now a.file (a.a ∷ a.b ∷ []) c.requires.0 c.requires.1 (small_two a.a a.b c.requires.3 c.requires.4) (z ∙ sym c.requires.2) _ e in
    (c.remember.ensures.0 ∙ e, rw c.remember.ensures.1 (lasts_entry files _ a.file hit.result.entry l))
