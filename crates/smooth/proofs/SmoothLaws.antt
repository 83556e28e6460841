-- Where VerzeJDF is right, and all other files pass and none is too long, 1 to 9 find nothing.
use mathlib.Core.Path.{◌≡◌}
use mathlib.Core.List.{List, []}
use Prim.Native.Nat.{ℕ, ◌+◌, ◌-◌}
use native.Mathlib.Omega.{arith}
use Rattle.laws.specs.Numbered.{answered}
use Rattle.link.specs.Stage.{links_fault}
use Rattle.amiss.specs.Sound.{SoundFiles}
use Rattle.thirteen.specs.Batch.{Batch, file_in, over_files}
use Rattle.thirteen.proofs.OverLaws.{over_each}
use Rattle.overfiles.specs.OneFile.{length_fault}
use Rattle.overfiles.proofs.FileLaws.{not_long}
use Rattle.filestages.specs.Order.{first_fault, file_stages}
use Rattle.filefaults.specs.Version.{RightVersion}
use Rattle.alone.proofs.SoundLaws.{stages_none}
use Rattle.smooth.specs.Smooth.{RisingWays, AllPassed, ShortFiles, Smooth}
use Rattle.smooth.proofs.OrderlyLaws.{orderly_sound}
use Rattle.smooth.proofs.PassedLaws.{passed_orderly, passed_links}

-- no file is too long where 1 finds nothing
short_files : (b : Batch) → (over_files (length_fault b) 1 13).number ≡ 0 → ShortFiles b
short_files b e file h l =
    let z : 1 + (file - 1) ≡ file = omega arith in
    not_long b file (rw z at (over_each (length_fault b) 1 13 e (file - 1) (omega arith)))

-- what was shown of the files, put together
pub smooth : (b : Batch) (order ways : List ℕ) → RightVersion (file_in b 1) → (over_files (length_fault b) 1 13).number ≡ 0 → RisingWays ways → AllPassed b → Smooth b order ways
smooth b order ways v e w p = record { version = v; short = short_files b e; passed = p; routes = w b order (passed_orderly b p) }

module _ (b : Batch) (order ways : List ℕ) (s : Smooth b order ways) where
  -- 1 to 6
  pub smooth_stages : first_fault (file_stages b) ≡ answered []
  smooth_stages = stages_none b s.version (λ file h l. record { short = s.short file h l; sound = (s.passed file h l).sound })

  pub smooth_sound : SoundFiles b
  smooth_sound = orderly_sound b (passed_orderly b s.passed)

  -- 7 to 9
  pub smooth_links : links_fault b ≡ answered []
  smooth_links = passed_links b s.passed
