-- The parts of the hint of a batch: for each keyed file whose keys don't rise by themselves, where its records start, in order of key and place, one
-- file behind the other.
use Rattle.std.specs.Prelude.{ℕ, zero, suc, ◌+◌, List, [], ◌++◌}
use Rattle.laws.specs.Tests.{pick}
use Rattle.file.specs.Files.{fields_of}
use Rattle.file.specs.Records.{records_in}
use Rattle.lines.specs.Index.{starts}
use Rattle.lines.specs.Order.{is_rising}
use Rattle.keys.specs.Ranks.{rank_of}
use Rattle.thirteen.specs.Batch.{Batch, file_in}
use Rattle.ranked.specs.Ranked.{in_order}
use Rattle.placed.specs.Places.{key_rank}

-- where the records of a file start, in order of key and place
unfoldable pub starts_in_order : ℕ → List ℕ → List ℕ
starts_in_order file s = in_order (key_rank file s) (starts (fields_of file) (rank_of file) s)

-- a file's part of the hint: none if its keys rise
unfoldable pub part_of : ℕ → List ℕ → List ℕ
part_of file s = pick (is_rising (rank_of file) (records_in (fields_of file) s)) [] (starts_in_order file s)

-- those of `count` files, from this one on
unfoldable pub parts_from : Batch → ℕ → ℕ → List ℕ
parts_from b file zero = []
parts_from b file (suc count) = part_of file (file_in b file) ++ parts_from b (file + 1) count

-- files 2-10 have keys
abbrev pub hint_of : Batch → List ℕ
hint_of b = parts_from b 2 9
