-- `tripruns::valid_on` meets its contract: the record that is found by the line is the line's, and there is one.
use mathlib.Core.Path.{refl, sym, ap, ◌∙◌}
use mathlib.Core.List.{[], ◌∷◌}
use Rattle.file.specs.Files.{fields_of}
use Rattle.file.specs.Format.{Fields}
use Rattle.file.specs.Records.{records_in}
use Rattle.keys.specs.Keys.{key_fields, key_table}
use Rattle.trip.specs.Days.{is_valid}
use Rattle.tripruns.proofs.RunsLaws.{found_line, found_some, line_found}
use Rattle.tripruns.proofs.valid_on.Goals as goal

pub by_one-requires : goal.by_one-requires
unfolding key_fields key_table
by_one-requires c =
    let k = c.requires.1 in
    (k.size, k.way, refl, c.requires.0)

pub valid_at-requires : goal.valid_at-requires
valid_at-requires c =
    let k = c.requires.1 in
    let h = found_line c.args.f5.now c.args.line _ k.key c.requires.0 (sym c.by_one.ensures ∙ c.in-Some.is) in
    (k, h.0, h.1)

pub returns-in-Some : goal.returns-in-Some
returns-in-Some c =
    let a = c.args in
    let e = line_found a.f5.now a.line _ c.requires.1.key.legal (sym c.by_one.ensures ∙ c.in-Some.is) in
    c.valid_at.ensures ∙ ap (λ (r : Fields). is_valid r a.d) (sym e)

pub returns-in-None : goal.returns-in-None
returns-in-None c =
    let a = c.args in
    found_some 5 (a.line ∷ []) 0 (records_in (fields_of 5) a.f5.now) c.requires.2 (sym c.by_one.ensures ∙ c.in-None.is)
