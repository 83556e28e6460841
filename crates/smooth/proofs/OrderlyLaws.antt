-- Files that are sound and whose keys rise, and empty ones among them: a batch of such files is sound, and its records are found by their keys.
use mathlib.Core.Path.{◌≡◌, refl}
use mathlib.Core.List.{List, []}
use Prim.Native.Nat.{ℕ, ◌+◌, ◌*◌, ◌≤◌, ◌<◌}
use native.Mathlib.Omega.{arith}
use lib.Dec.{ltb}
use lib.ListN.{length}
use borrow.Author.Tests.{ltb-true, ltb-false}
use Rattle.laws.specs.Tests.{either}
use Rattle.file.specs.Files.{fields_of}
use Rattle.walk.proofs.WalkLaws.{none_left}
use Rattle.lines.specs.Order.{Rising}
use Rattle.keys.specs.KeyFiles.{KeyFile, KeysRise}
use Rattle.keys.specs.Ranks.{IsKeyed}
use Rattle.keys.proofs.TableLaws.{one_of_lem}
use Rattle.routes.proofs.RouteLaws.{WaysBelow, set_way, way_rising, ways_more, ways_all}
use Rattle.links.proofs.KeyedLaws.{sound_key}
use Rattle.sweep.proofs.SoundLaws.{fielded, sound_end}
use Rattle.amiss.specs.Sound.{SoundFiles}
use Rattle.thirteen.specs.Batch.{Batch, file_in}
use Rattle.smooth.specs.Smooth.{Orderly, OrderlyFiles, RisingWays, targets_of}

-- an empty file is so
pub empty : (file : ℕ) → 2 ≤ file → file ≤ 13 → Orderly file []
unfolding Rising
empty file h l = record {
  sound = sound_end file (fields_of file) [] 0 (fielded file (fields_of file) refl (omega arith) l) (omega arith);
  rise = λ k. rw (none_left (fields_of file) [] 0 (omega arith)) tt;
}

-- the files that are linked to, one by one, and empty ones
pub orderly_targets : (f1 f2 f3 f4 f5 f6 f7 : List ℕ) → Orderly 2 f2 → Orderly 3 f3 → Orderly 4 f4 → Orderly 5 f5 → Orderly 6 f6 → Orderly 7 f7
    → OrderlyFiles (targets_of f1 f2 f3 f4 f5 f6 f7)
unfolding file_in
orderly_targets f1 f2 f3 f4 f5 f6 f7 o2 o3 o4 o5 o6 o7 file h l =
    let g = targets_of f1 f2 f3 f4 f5 f6 f7 in
    let linked = one_of_lem (λ (k : ℕ). Orderly k (file_in g k)) 2 6 (o2, (o3, (o4, (o5, (o6, (o7, tt)))))) in
    let others = one_of_lem (λ (k : ℕ). file_in g k ≡ []) 8 6 (refl, (refl, (refl, (refl, (refl, (refl, tt)))))) in
    either (ltb file 8)
    (λ t. linked file h (ltb-true file 8 t))
    (λ t. rw (others file (ltb-false file 8 t) (omega arith)) (empty file h l))

module _ (b : Batch) (o : OrderlyFiles b) where
  -- what the stage of links asks of them
  pub orderly_sound : SoundFiles b
  orderly_sound file h l = let s = (o file h l).sound in record { legal = s.legal; fields = s.fits 1 }

  -- what a search by key asks
  pub orderly_key : (file : ℕ) → IsKeyed file → KeyFile file (file_in b file)
  orderly_key file k = sound_key b file k (orderly_sound file k.0 (omega (arith, k.1)))

  orderly_rise : (file : ℕ) → IsKeyed file → KeysRise file (file_in b file)
  orderly_rise file k = (o file k.0 (omega (arith, k.1))).rise k

-- the ways to the files below `file` are by their keys
abbrev pub RisingBelow : List ℕ → ℕ → Type 0
RisingBelow ways file = (b : Batch) (order : List ℕ) → OrderlyFiles b → WaysBelow b order ways file

-- one file more
pub rising_more : (ways : List ℕ) (file : ℕ) → IsKeyed file → file * 3 + 2 < length ways → RisingBelow ways file → RisingBelow (set_way ways file 1 0 0) (file + 1)
rising_more ways file k h w b order o =
    ways_more b order ways file 1 0 0 (w b order o) h (way_rising file (file_in b file) order (orderly_key b o file k) (orderly_rise b o file k))

pub rising_all : (ways : List ℕ) (file : ℕ) → RisingBelow ways file → 11 ≤ file → RisingWays ways
rising_all ways file w h b order o = ways_all b order ways file (w b order o) h
