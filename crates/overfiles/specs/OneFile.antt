-- Document 01's refusals 1, 2 and 3 of one of a batch's files.
use Rattle.std.specs.Prelude.{ℕ, [], leb, length}
use Rattle.laws.specs.Tests.{pick}
use Rattle.laws.specs.Numbered.{Numbered, answered, refused_at}
use Rattle.file.specs.Files.{fields_of, longest}
use Rattle.file.specs.Reading.{reading}
use Rattle.thirteen.specs.Batch.{Batch, file_in}
use Rattle.filefaults.specs.Faults.{outcome_fault}

-- 1: a file over 16,777,215 bytes
unfoldable pub length_fault : Batch → ℕ → Numbered
length_fault b file = pick (leb (length (file_in b file)) longest) (answered []) (refused_at 1 file 0)

-- 2 and 3: the bytes of a file
unfoldable pub bytes_fault : Batch → ℕ → Numbered
bytes_fault b file = outcome_fault file (reading (fields_of file) (file_in b file))
