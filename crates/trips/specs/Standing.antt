-- What an accepted batch keeps, as far as questions about its trips need it; the whole check gives it (`standing` in crates/batch/proofs/).
use Rattle.std.specs.Prelude.{◌≡◌, []}
use Rattle.laws.specs.Numbered.{answered}
use Rattle.amiss.specs.Sound.{SoundFiles}
use Rattle.link.specs.Met.{Linking, Signed}
use Rattle.thirteen.specs.Batch.{Batch}
use Rattle.trip.specs.Stage.{trips_fault}

pub record Standing (b : Batch) : Type 0 where
  pub sound : SoundFiles b
  pub linking : Linking b
  pub signed : Signed b
  pub trips : trips_fault b ≡ answered []
