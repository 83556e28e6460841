-- Where none of the files has a fault, no stage names one.
use mathlib.Core.Path.{◌≡◌, refl}
use mathlib.Core.List.{List, []}
use Prim.Native.Nat.{ℕ, zero, suc, ◌+◌, ◌≤◌, ◌<◌}
use native.Mathlib.Omega.{arith}
use native.Mathlib.Decide.{ℕ_discrete}
use lib.ListN.{length}
use Rattle.laws.specs.Numbered.{Numbered, answered}
use Rattle.file.specs.Files.{field_counts, fields_of, longest}
use Rattle.field.specs.Stage.{field_fault}
use Rattle.thirteen.specs.Batch.{Batch, file_in, records_of, over_files}
use Rattle.walk.specs.Walk.{LegalFrom}
use Rattle.sweep.specs.Sweep.{SoundFrom}
use Rattle.filefaults.specs.Faults.{outcome_fault, version_fault}
use Rattle.filefaults.specs.Version.{RightVersion}
use Rattle.overfiles.specs.OneFile.{length_fault, bytes_fault}
use Rattle.overfiles.proofs.FileLaws.{short_enough}
use Rattle.filestages.specs.Order.{first_fault, file_stages}
use Rattle.alone.specs.Sound.{SweptFile, SweptFiles}

-- the file that was chosen by its number is sound
pub sound_file : (b : Batch) (file n : ℕ) (s : List ℕ) → s ≡ file_in b file → n ≡ fields_of file → length s ≤ longest → SoundFrom file n s 0 → SweptFile file (file_in b file)
sound_file b file n s e z h w = rw (← e) (record { short = h; sound = rw z at w })

-- each file behind this one is sound; and so is each behind the one before it, if it is too
abbrev pub SoundBehind : Batch → ℕ → Type 0
SoundBehind b file = (k : ℕ) → file < k → k ≤ 13 → SweptFile k (file_in b k)

pub sound_more : (b : Batch) (file before : ℕ) → file ≡ before + 1 → SoundBehind b file → SweptFile file (file_in b file) → SoundBehind b before
sound_more b file before e w f k h l = go (ℕ_discrete k file)
  where
    go : Dec (k ≡ file) → SweptFile k (file_in b k)
    go (yes z) = rw z f
    go (no z) = w k (omega arith) l

-- files that have no fault one by one have none
over_none : (fault : ℕ → Numbered) (file count : ℕ) → ((i : ℕ) → file ≤ i → i < file + count → fault i ≡ answered []) → over_files fault file count ≡ answered []
unfolding over_files
over_none fault file zero h = refl
over_none fault file (suc count) h =
    rw (h file (omega arith) (omega arith)) (over_none fault (file + 1) count (λ i l m. h i (omega arith) (omega arith)))

module _ (b : Batch) (v : RightVersion (file_in b 1)) (w : SweptFiles b) where
  -- none is too long
  short : (file : ℕ) → 1 ≤ file → file < 1 + 13 → length_fault b file ≡ answered []
  short file h l = go (ℕ_discrete file 1)
    where
      go : Dec (file ≡ 1) → length_fault b file ≡ answered []
      go (yes e) = rw e (short_enough b 1 (file_in b 1) refl v.short)
      go (no e) = short_enough b file (file_in b file) refl (w file (omega arith) (omega arith)).short

  -- each is legal
  read_whole : (file : ℕ) → LegalFrom (fields_of file) (file_in b file) 0 → bytes_fault b file ≡ answered []
  unfolding bytes_fault outcome_fault
  read_whole file h = rw h.reads.whole

  legal : (file : ℕ) → 1 ≤ file → file < 1 + 13 → bytes_fault b file ≡ answered []
  unfolding fields_of field_counts
  legal file h l = go (ℕ_discrete file 1)
    where
      go : Dec (file ≡ 1) → bytes_fault b file ≡ answered []
      go (yes e) = rw e (read_whole 1 v.legal)
      go (no e) = read_whole file (w file (omega arith) (omega arith)).sound.legal

  right : version_fault (records_of b 1) ≡ answered []
  unfolding fields_of field_counts
  right = v.right

  pub stages_none : first_fault (file_stages b) ≡ answered []
  unfolding file_stages first_fault
  stages_none =
      rw
      (over_none (length_fault b) 1 13 short, over_none (bytes_fault b) 1 13 legal, right, over_none (λ file. field_fault file (records_of b file)) 2 12 (λ file h l. (w file h (omega arith)).sound.fits 1))
