-- A file that passes beside its batch has no fault of links: its keys rise, so that no two are the same, or it has none; and nothing is wrong with
-- any record. So a batch whose files all pass has none.
use mathlib.Core.Path.{◌≡◌}
use mathlib.Core.List.{List, []}
use Prim.Native.Nat.{ℕ, ◌+◌, ◌≤◌, ◌<◌}
use native.Mathlib.Omega.{arith}
use lib.Dec.{ltb}
use lib.ListN.{get_or, take}
use borrow.Author.Tests.{ltb-true, ltb-false}
use Rattle.laws.specs.Tests.{either}
use Rattle.laws.specs.Numbered.{answered}
use Rattle.keys.specs.Ranks.{IsKeyed}
use Rattle.ordered.proofs.OrderedLaws.{rising_once}
use Rattle.link.specs.Stage.{link_fault, links_fault}
use Rattle.link.proofs.FaultLaws.{fields_none, clean_file, none_over}
use Rattle.links.proofs.KeyedLaws.{sound_key}
use Rattle.faulty.proofs.StageLaws.{no_key, stops_met}
use Rattle.fitting.proofs.HintLaws.{fit_records}
use Rattle.amiss.specs.Sound.{StopsMet}
use Rattle.thirteen.specs.Batch.{Batch, file_in, records_of}
use Rattle.passage.specs.Passage.{Passes}
use Rattle.smooth.specs.Smooth.{Orderly, OrderlyFiles, Passed, AllPassed}

-- a file that passes beside any files
pub orderly : (g : Batch) (file : ℕ) (s : List ℕ) → Passes g file s → Orderly file s
orderly g file s p = record { sound = p.sound; rise = p.rise }

module _ (b : Batch) (file : ℕ) (p : Passed b file) where
  -- without keys
  keyless : 10 < file → link_fault b file ≡ answered []
  keyless h =
      clean_file b file
      (λ i l.
      let r = get_or (records_of b file) i [] in
      (no_key file (take i (records_of b file)) r h, fields_none b file r (p.fits i l)))

  -- with keys that rise
  keyed : IsKeyed file → link_fault b file ≡ answered []
  keyed k =
      let f = sound_key b file k (record { legal = p.sound.legal; fields = p.sound.fits 1 }) in
      fit_records b file k p.sound.legal (rising_once file (file_in b file) f (p.rise k)) p.fits

  pub passed_file : 2 ≤ file → link_fault b file ≡ answered []
  passed_file h = either (ltb 10 file) (λ t. keyless (ltb-true 10 file t)) (λ t. keyed (h, ltb-false 10 file t))

-- where Zaslinky passes, the stop of each of its records is met
pub passed_stops : (b : Batch) → Passed b 7 → StopsMet b
passed_stops b p = stops_met b (passed_file b 7 p (omega arith))

module _ (b : Batch) (p : AllPassed b) where
  pub passed_orderly : OrderlyFiles b
  passed_orderly file h l = orderly b file (file_in b file) (p file h l)

  pub passed_links : links_fault b ≡ answered []
  unfolding links_fault
  passed_links =
      none_over (link_fault b) 2 12 (λ i l. passed_file b (2 + i) (p (2 + i) (omega arith) (omega arith)) (omega arith))
