-- Behind 6 the records are asked: 7, 8 and 9 come first, and where they find nothing no two records have one key, so that trips count.
use mathlib.Core.Path.{◌≡◌, sym, ap, ◌∙◌}
use mathlib.Core.Bool.{Bool, true, false, not}
use mathlib.Core.List.{List, []}
use Prim.Native.Nat.{ℕ, ◌≤◌}
use native.Mathlib.Omega.{arith}
use borrow.Author.Tests.{eq-eqb, ne_eqb}
use lib.Dec.{eqb}
use lib.ListN.{length, drop}
use Rattle.laws.specs.Numbered.{Numbered, answered}
use Rattle.lookup.specs.Ways.{Ways}
use Rattle.link.specs.Stage.{links_fault}
use Rattle.link.proofs.LinkingLaws.{linked}
use Rattle.thirteen.specs.Batch.{Batch, file_in, records_of}
use Rattle.amiss.specs.Sound.{SoundFiles}
use Rattle.coded.specs.Ready.{Ready}
use Rattle.trail.proofs.TrailLaws.{once_distinct}
use Rattle.trip.specs.Stage.{trips_fault}
use Rattle.trips.specs.Plain.{plain_from}
use Rattle.trips.proofs.PlainLaws.{plain_trips}
use Rattle.trips.proofs.ReadyLaws.{ready_file}
use Rattle.fault.specs.Answers.{numbered_fault}
use Rattle.filestages.specs.Order.{first_fault, file_stages}
use Rattle.batch.specs.Order.{stages, fault_of}
use Rattle.fault.specs.declared.Fault.{Fault}
use Rattle.batch.proofs.AcceptedLaws.{no_links}
use Rattle.smooth.specs.Smooth.{Smooth}
use Rattle.smooth.proofs.SmoothLaws.{smooth_stages, smooth_sound, smooth_links}
use Rattle.fault.proofs.FaultLaws.{is_some, is_zero}
use Rattle.filestages.proofs.OrderLaws.{first_one, first_past}

-- where links are met, the trips' fault is that of the stages behind 6
trips_left : (b : Batch) → links_fault b ≡ answered [] → (g : Fault) → numbered_fault g ≡ trips_fault b → numbered_fault g ≡ first_fault (drop 4 (stages b))
unfolding stages file_stages first_fault
trips_left b e g i =
    let z : (links_fault b).number ≡ 0 = ap (λ (a : Numbered). a.number) e in
    first_one g (trips_fault b) i ∙ rw (eq-eqb (links_fault b).number 0 z)

module _ (b : Batch) (f : Fault) (e : numbered_fault f ≡ links_fault b) (t : Bool) (d : t ≡ eqb (numbered_fault f).number 0) where
  -- 7, 8 or 9 is found
  pub links_stop : not t ≡ true → numbered_fault f ≡ first_fault (drop 4 (stages b))
  unfolding stages file_stages first_fault
  links_stop h =
      let z : (links_fault b).number ≡ 0 → ⊥ = λ x. is_some f t d h (ap (λ (a : Numbered). a.number) e ∙ x) in
      e ∙ rw (ne_eqb (links_fault b).number 0 z)

  -- none is: links are met
  pub links_none : not t ≡ false → links_fault b ≡ answered []
  links_none h = no_links b (ap (λ (a : Numbered). a.number) (sym e) ∙ is_zero f t d h)

  -- and the trips' fault is that of the rest
  pub links_past : not t ≡ false → (g : Fault) → numbered_fault g ≡ trips_fault b → numbered_fault g ≡ first_fault (drop 4 (stages b))
  links_past h g i = trips_left b (links_none h) g i

-- nor does any stage before the trips find anything in a batch that is gone through once
pub smooth_past : (b : Batch) (order ways : List ℕ) → Smooth b order ways → (g : Fault) → numbered_fault g ≡ trips_fault b → numbered_fault g ≡ fault_of b
unfolding fault_of stages file_stages
smooth_past b order ways s g i =
    trips_left b (smooth_links b order ways s) g i ∙ sym (first_past 4 (stages b) (ap (λ (a : Numbered). a.number) (smooth_stages b order ways s)))

-- what the stage of trips asks of its files
pub record FilesReady (b : Batch) (order ways : List ℕ) : Type 0 where
  pub codes : Ready 3 (file_in b 3) order ways
  pub trips : Ready 6 (file_in b 6) order ways
  pub stops : Ready 8 (file_in b 8) order ways
  pub times : Ready 10 (file_in b 10) order ways

pub files_ready : (b : Batch) (order ways : List ℕ) → SoundFiles b → links_fault b ≡ answered [] → Ways b order ways → 33 ≤ length ways → FilesReady b order ways
files_ready b order ways s e w h =
    let l = linked b e in
    record {
      codes = ready_file b 3 order ways (omega arith, omega arith) s l.codes_key w h;
      trips = ready_file b 6 order ways (omega arith, omega arith) s l.trips_key w h;
      stops = ready_file b 8 order ways (omega arith, omega arith) s l.trip_stops_key w h;
      times = ready_file b 10 order ways (omega arith, omega arith) s l.time_codes_key w h;
    }

-- in a batch that is gone through once they are ready, by ways that keep the length that was lent
pub smooth_ready : (b : Batch) (order old ways : List ℕ) → Smooth b order ways → length ways ≡ length old → 33 ≤ length old → FilesReady b order ways
smooth_ready b order old ways s e h =
    files_ready b order ways (smooth_sound b order ways s) (smooth_links b order ways s) s.routes (omega arith)

-- what the code finds is document 01's
pub trips_are : (b : Batch) → links_fault b ≡ answered [] → plain_from (records_of b 3) (records_of b 8) (records_of b 10) 1 (records_of b 6) ≡ trips_fault b
trips_are b e = plain_trips b (once_distinct b 6 (linked b e).trips_key)
