-- What is asked of one file of a batch that stands, where its records are read or looked for: it is legal, its records are of their kinds and meet
-- their rules, no two have one key, and the way to them was made out.
use Rattle.std.specs.Prelude.{ℕ, ◌≤◌, List, length}
use Rattle.file.specs.Files.{fields_of}
use Rattle.file.specs.Records.{records_in}
use Rattle.keys.specs.KeyFiles.{KeyFile}
use Rattle.lookup.specs.Ways.{Way, how_of, from_of, to_of}
use Rattle.amiss.specs.Sound.{OfKind}
use Rattle.trail.specs.Trail.{Once}
use Rattle.codes.specs.Seen.{AllMeet}

pub record Ready (file : ℕ) (s order ways : List ℕ) : Type 0 where
  pub key : KeyFile file s
  pub kinds : OfKind file s
  pub rules : AllMeet file (records_in (fields_of file) s)
  pub once : Once file (records_in (fields_of file) s)
  pub size : 33 ≤ length ways
  pub way : Way file s order (how_of ways file) (from_of ways file) (to_of ways file)
