-- Document 01's batch order, "then 5 and 6": record by record, fields before 6. The first fault of one of the files 2-13; file 1 has
-- no kinds, and is not asked.
use Rattle.std.specs.Prelude.{ℕ, ◌+◌, List, [], ◌∷◌, eqb}
use Rattle.laws.specs.Tests.{pick}
use Rattle.laws.specs.Numbered.{Numbered, answered, refused_in}
use Rattle.file.specs.Format.{Fields}
use Rattle.field.specs.Kinds.{kind_of, admits}
use Rattle.field.specs.Rules.{meets}

-- the number of the first field that isn't of its kind, where the first of these has the number f; 0 if none is
unfoldable pub first_unkind : ℕ → ℕ → Fields → ℕ
first_unkind file f [] = 0
first_unkind file f (t ∷ ts) = pick (admits (kind_of file f) t) (first_unkind file (f + 1) ts) f

-- what is wrong with record k of a file: 5 at its first field that isn't of its kind, else 6, else what `next` says
unfoldable pub record_fault : ℕ → ℕ → Fields → Numbered → Numbered
record_fault file k r next =
    pick (eqb (first_unkind file 1 r) 0) (pick (meets file r) next (refused_in 6 file k 0)) (refused_in 5 file k (first_unkind file 1 r))

-- the first fault of these records, where the first of them is record k; answered with nothing if there is none
unfoldable pub faults_from : ℕ → ℕ → List Fields → Numbered
faults_from file k [] = answered []
faults_from file k (r ∷ rs) = record_fault file k r (faults_from file (k + 1) rs)

-- of a file's records
abbrev pub field_fault : ℕ → List Fields → Numbered
field_fault file rs = faults_from file 1 rs
