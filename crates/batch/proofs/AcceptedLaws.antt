-- A batch in which none of the refusals 1 to 11 is found stands: its files are sound, keys are distinct, links are met and signs are permitted, and
-- nothing is wrong with any trip. So its trips may be asked for. That it keeps every rule, and only then, is said in crates/accepted.
use mathlib.Core.Path.{◌≡◌, refl, ap}
use mathlib.Core.List.{List, [], ◌∷◌}
use Prim.Native.Nat.{ℕ, zero, suc, ◌+◌, ◌<◌}
use native.Mathlib.Omega.{arith}
use lib.Dec.{eqb}
use lib.ListN.{length, get_or}
use borrow.Author.Tests.{eqb-false}
use Rattle.laws.specs.Tests.{either}
use Rattle.laws.specs.Numbered.{Numbered, answered}
use Rattle.file.specs.Format.{Fields}
use Rattle.thirteen.specs.Batch.{Batch, records_of, over_files}
use Rattle.link.specs.Stage.{link_fault, links_fault}
use Rattle.trip.specs.Stage.{fault_of_trip, trips_from, trips_fault}
use Rattle.trips.specs.Standing.{Standing}
use Rattle.link.proofs.LinkingLaws.{linked}
use Rattle.link.proofs.SignedLaws.{signed}
use Rattle.batch.specs.Order.{stages, fault_of}
use Rattle.overfiles.proofs.FileLaws.{legal_files}
use Rattle.batch.proofs.SoundLaws.{sound_files}
use Rattle.filestages.specs.Order.{file_stages}
use Rattle.filestages.proofs.OrderLaws.{first_each}

-- no fault of several files is an answer with no values
over_zero : (fault : ℕ → Numbered) (file count : ℕ) → (over_files fault file count).number ≡ 0 → over_files fault file count ≡ answered []
unfolding over_files
over_zero fault file zero e = refl
over_zero fault file (suc count) e =
    either (eqb (fault file).number 0)
    (λ t. rw t (over_zero fault (file + 1) count (rw t at e)))
    (λ t. absurd (eqb-false (fault file).number 0 t (rw t at e)))

pub no_links : (b : Batch) → (links_fault b).number ≡ 0 → links_fault b ≡ answered []
unfolding links_fault
no_links b e = over_zero (link_fault b) 2 12 e

-- the same of trips
trips_zero : (b : Batch) (k : ℕ) (rs : List Fields) → (trips_from b k rs).number ≡ 0 → trips_from b k rs ≡ answered []
unfolding trips_from
trips_zero b k [] e = refl
trips_zero b k (r ∷ rs) e =
    either (eqb (fault_of_trip b r) 0)
    (λ t. rw t (trips_zero b (k + 1) rs (rw t at e)))
    (λ t. absurd (eqb-false (fault_of_trip b r) 0 t (rw t at e)))

no_trips : (b : Batch) → (trips_fault b).number ≡ 0 → trips_fault b ≡ answered []
unfolding trips_fault
no_trips b e = trips_zero b 1 (records_of b 6) e

-- where no stage finds anything the batch stands
pub stands : (b : Batch) → (fault_of b).number ≡ 0 → Standing b
unfolding fault_of stages file_stages
stands b e =
    let zero-at : (i : ℕ) → i < length (stages b) → (get_or (stages b) i (answered [])).number ≡ 0 = first_each (stages b) e in
    let nothing : links_fault b ≡ answered [] = no_links b (zero-at 4 (omega arith)) in
    record {
      sound = sound_files b (legal_files b (zero-at 1 (omega arith))) (zero-at 3 (omega arith));
      linking = linked b nothing;
      signed = signed b nothing;
      trips = no_trips b (zero-at 5 (omega arith));
    }

pub standing : (b : Batch) → fault_of b ≡ answered [] → Standing b
standing b e = stands b (ap (λ (a : Numbered). a.number) e)
