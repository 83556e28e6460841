-- `bisection::next_of` meets its contract.
use mathlib.Core.Path.{◌≡◌}
use mathlib.Core.List.{List}
use Prim.Native.Nat.{ℕ, ◌≤◌, ◌<◌}
use lib.ListN.{length}
use Rattle.lines.specs.Lines.{Place}
use Rattle.file.specs.Files.{fields_of}
use Rattle.keys.specs.KeyFiles.{PlaceIn}
use Rattle.keys.proofs.TableLaws.{keyed_fields}
use Rattle.bisection.proofs.next_of.Goals as goal

-- the number of fields is the file's
asked : (file n : ℕ) (s : List ℕ) (at : ℕ) → n ≡ fields_of file → PlaceIn file s at → at < length s → fields_of file ≤ 13 → Place n s at × (at < length s) × (n ≤ 13)
asked file n s at e p h l = rw e (p, h, l)

pub record_after-requires : goal.record_after-requires
record_after-requires c = let a = c.args in
    asked a.file c.fields_of.result a.s.now a.at c.fields_of.ensures c.requires.1 c.requires.2 (keyed_fields a.file c.requires.0.keyed).1
