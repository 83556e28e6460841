-- A fault's number and place, taken apart, and what a verdict says.
use Rattle.std.specs.Prelude.{◌≡◌, []}
use Rattle.laws.specs.Numbered.{Numbered}
use Rattle.phrase.specs.declared.Place.{Place}

-- the numbers of a fault as document 01 has them: no values
abbrev pub numbered_place : Place → Numbered
numbered_place p = record { number = p.number; in_file = p.file; in_record = p.row; in_field = p.column; at_offset = p.offset; values = [] }

-- it accepts with counts, or refuses: a number of 0 has values
abbrev pub Judged : Numbered → Type 0
Judged a = a.number ≡ 0 → a.values ≡ [] → ⊥
