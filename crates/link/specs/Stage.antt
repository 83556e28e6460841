-- Document 01's batch order, "then 7, 8, 9": files 2-13, record by record: the key, then fields rising, at one field 8 before 9.
use Rattle.std.specs.Prelude.{ℕ, zero, suc, ◌+◌, List, [], ◌∷◌, ◌++◌, Bool, not, eqb, length}
use Rattle.laws.specs.Tests.{pick, both}
use Rattle.laws.specs.Numbered.{Numbered, answered, refused_in}
use Rattle.file.specs.Format.{Fields}
use Rattle.keys.specs.Keys.{key_fields, key_of, has}
use Rattle.thirteen.specs.Batch.{Batch, records_of, over_files}
use Rattle.link.specs.Links.{link_of, met}
use Rattle.link.specs.Signs.{sign_stands}
use Rattle.link.specs.declared.Linked.{Linked}

-- the key of this record, if its file has one, is used by an earlier record
unfoldable pub is_used : ℕ → List Fields → Fields → Bool
is_used file past r = both (not (eqb (length (key_fields file)) 0)) (has file (key_of file r) past)

-- what is wrong with field f of a record: 8 before 9; 0 if nothing is
unfoldable pub amiss : Batch → ℕ → Fields → ℕ → ℕ
amiss b file r f = pick (met b (link_of file f) f r) (pick (sign_stands b file (link_of file f) f r) 0 9) 8

-- the first of the fields from f on, so many, with which something is wrong; 0 if there is none
unfoldable pub first_amiss : Batch → ℕ → Fields → ℕ → ℕ → ℕ
first_amiss b file r f zero = 0
first_amiss b file r f (suc count) = pick (eqb (amiss b file r f) 0) (first_amiss b file r (f + 1) count) f

-- of all its fields
abbrev pub field_amiss : Batch → ℕ → Fields → ℕ
field_amiss b file r = first_amiss b file r 1 (length r)

-- what is wrong with record k of a file: its key, then its fields, else what `next` says; `past` are the records before it
unfoldable pub record_fault : Batch → ℕ → ℕ → List Fields → Fields → Numbered → Numbered
record_fault b file k past r next =
    pick (is_used file past r)
    (refused_in 7 file k 0)
    (pick (eqb (field_amiss b file r) 0) next (refused_in (amiss b file r (field_amiss b file r)) file k (field_amiss b file r)))

-- the first fault of these records, where the first of them is record k
unfoldable pub faults_from : Batch → ℕ → ℕ → List Fields → List Fields → Numbered
faults_from b file k past [] = answered []
faults_from b file k past (r ∷ rs) = record_fault b file k past r (faults_from b file (k + 1) (past ++ (r ∷ [])) rs)

-- of a file
unfoldable pub link_fault : Batch → ℕ → Numbered
link_fault b file = faults_from b file 1 [] (records_of b file)

-- of the batch: files 2-13
unfoldable pub links_fault : Batch → Numbered
links_fault b = over_files (link_fault b) 2 12

-- document 01's number and place for each case
unfoldable pub numbered_linked : Linked → Numbered
numbered_linked Linked.Sound = answered []
numbered_linked (Linked.Used file k) = refused_in 7 file k 0
numbered_linked (Linked.Dangling file k f) = refused_in 8 file k f
numbered_linked (Linked.Misplaced file k f) = refused_in 9 file k f
