-- What is known of a batch once nothing is wrong with a file by itself: its keyed files are legal, have numbers in their keys, and are no longer than a
-- file may be.
use Rattle.std.specs.Prelude.{ℕ, ◌≤◌, length}
use Rattle.file.specs.Files.{longest}
use Rattle.keys.specs.Ranks.{IsKeyed}
use Rattle.keys.specs.KeyFiles.{KeyFile}
use Rattle.thirteen.specs.Batch.{Batch, file_in}

abbrev pub KeyedFiles : Batch → Type 0
KeyedFiles b = (file : ℕ) → IsKeyed file → KeyFile file (file_in b file) × (length (file_in b file) ≤ longest)
