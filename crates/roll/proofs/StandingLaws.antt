-- An accepted batch's files can be asked for its trips, once the ways to their records were made out: a caller checks once, and then asks as often
-- as it likes.
use mathlib.Core.Path.{◌≡◌, refl, ap, ◌∙◌}
use mathlib.Core.Bool.{true}
use mathlib.Core.List.{List, [], ◌∷◌}
use Prim.Native.Nat.{ℕ, ◌≤◌}
use native.Mathlib.Omega.{arith}
use lib.ListN.{length, get_or}
use Rattle.file.specs.Format.{Fields}
use Rattle.field.specs.Names.{lines_file}
use Rattle.keys.specs.Keys.{key_fields, key_table, key_of, numbers, has}
use Rattle.lookup.specs.Ways.{Ways}
use Rattle.link.specs.Met.{Linking, number}
use Rattle.link.proofs.HasLaws.{has_holds, holds_has}
use Rattle.thirteen.specs.Batch.{Batch, file_in, records_of}
use Rattle.trip.specs.Stage.{trips_file}
use Rattle.coded.specs.Ready.{Ready}
use Rattle.trips.specs.Standing.{Standing}
use Rattle.trips.proofs.ReadyLaws.{ready_file}

-- Pevnykod, Linky, Spoje, Zaslinky, Zasspoje and Caskody
pub record TripsReady (b : Batch) (order ways : List ℕ) : Type 0 where
  pub codes : Ready 3 (file_in b 3) order ways
  pub lines : Ready 5 (file_in b 5) order ways
  pub trips : Ready 6 (file_in b 6) order ways
  pub line_stops : Ready 7 (file_in b 7) order ways
  pub trip_stops : Ready 8 (file_in b 8) order ways
  pub time_codes : Ready 10 (file_in b 10) order ways

pub standing_ready : (b : Batch) (order ways : List ℕ) → Standing b → Ways b order ways → 33 ≤ length ways → TripsReady b order ways
standing_ready b order ways s w h =
    let l = s.linking in
    record {
      codes = ready_file b 3 order ways (omega arith, omega arith) s.sound l.codes_key w h;
      lines = ready_file b 5 order ways (omega arith, omega arith) s.sound l.lines_key w h;
      trips = ready_file b 6 order ways (omega arith, omega arith) s.sound l.trips_key w h;
      line_stops = ready_file b 7 order ways (omega arith, omega arith) s.sound l.line_stops_key w h;
      trip_stops = ready_file b 8 order ways (omega arith, omega arith) s.sound l.trip_stops_key w h;
      time_codes = ready_file b 10 order ways (omega arith, omega arith) s.sound l.time_codes_key w h;
    }

-- each trip's line is there
pub line_met : (b : Batch) (line trip : ℕ) → Linking b → has trips_file (line ∷ trip ∷ []) (records_of b trips_file) ≡ true
    → has lines_file (line ∷ []) (records_of b lines_file) ≡ true
unfolding key_fields key_table numbers
line_met b line trip k e =
    let h = has_holds trips_file (line ∷ trip ∷ []) (records_of b trips_file) e in
    let r = get_or (records_of b trips_file) h.0 [] in
    let one : number 1 r ≡ line = ap (λ (l : List ℕ). get_or l 0 0) h.2 in
    let q = (k.trips r (h.0, h.1, refl)).0 in
    let at = q.1 in
    holds_has lines_file (line ∷ []) (records_of b lines_file) at.0 at.1 (ap (λ (x : Fields). key_of lines_file x) at.2 ∙ q.2 ∙ ap (λ (n : ℕ). n ∷ []) one)
