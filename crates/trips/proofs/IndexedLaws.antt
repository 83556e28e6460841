-- The trips gone through in the order of the index of Spoje: each record is named by an entry, so where nothing is wrong with what the entries name
-- there is no first fault.
use mathlib.Core.Path.{◌≡◌, refl, sym, ap, ◌∙◌}
use mathlib.Core.List.{List, [], ◌∷◌}
use Prim.Native.Nat.{ℕ, ◌+◌, ◌≤◌, ◌<◌}
use native.Mathlib.Omega.{arith}
use borrow.Author.Count.{below_more}
use borrow.Author.Tests.{eq-eqb, ltb-true, ltb-false}
use lib.Dec.{ltb}
use lib.ListN.{length, get_or}
use Rattle.laws.specs.Tests.{either}
use Rattle.laws.specs.Numbered.{answered}
use Rattle.file.specs.Files.{fields_of}
use Rattle.file.specs.Format.{Fields, written_record}
use Rattle.file.specs.Records.{records_in}
use Rattle.keys.specs.KeyFiles.{PlaceIn, IsIndex, records_from}
use Rattle.keys.specs.Ranks.{rank_of, record_at}
use Rattle.rules.specs.Texts.{texts}
use Rattle.walk.specs.Walk.{Cuts, LegalFrom}
use Rattle.walk.proofs.WalkLaws.{cut_first}
use Rattle.lines.proofs.LineLaws.{none_at, size_one, place_on, place_start}
use Rattle.lines.proofs.IndexLaws.{place_known}
use Rattle.lookup.specs.Ways.{from_of, to_of, part_of}
use Rattle.coded.specs.Ready.{Ready}
use Rattle.trip.specs.Stage.{trips_file}
use Rattle.tripfault.specs.Plain.{plain_fault}
use Rattle.trips.specs.Plain.{plain_from}

-- a part of the list that isn't empty is an index of Spoje
pub indexed : (s order ways part : List ℕ) → Ready trips_file s order ways → part ≡ part_of order (from_of ways trips_file) (to_of ways trips_file)
    → (length part ≡ 0 → ⊥) → IsIndex trips_file s part
indexed s order ways part r d some =
    let g : 0 < length part = omega (arith, some) in
    let m : 0 < length (part_of order (from_of ways trips_file) (to_of ways trips_file)) = rw d at g in
    rw d (r.way.serves.index m)

module _ (codes stops times : List Fields) (s : List ℕ) where
  -- nothing is wrong with the trip at any place: there is no first fault
  plain_none : ((x : ℕ) → PlaceIn trips_file s x → x < length s → plain_fault codes stops times (record_at trips_file s x) ≡ 0)
      → (at k : ℕ) (rs : List Fields) → PlaceIn trips_file s at → records_from trips_file s at ≡ rs → plain_from codes stops times k rs ≡ answered []
  unfolding plain_from
  plain_none each at k [] p e = refl
  plain_none each at k (r ∷ rs) p e =
      let n = fields_of trips_file in
      let h : at < length s =
      either (ltb at (length s))
      (λ t. ltb-true at (length s) t)
      (λ t. absurd (omega (arith, ap length (sym (none_at n s at p (ltb-false at (length s) t)) ∙ e)))) in
      let z : plain_fault codes stops times r ≡ 0 = rw e at (each at p h) in
      let w = place_on n s at p (r ∷ []) rs e (at + length (written_record r)) (omega (arith, size_one r)) in
      rw (eq-eqb (plain_fault codes stops times r) 0 z) (plain_none each (at + length (written_record r)) (k + 1) rs w.place w.left)

  -- nothing is wrong with the trips that the entries below i name
  abbrev pub Fit : List ℕ → ℕ → Type 0
  Fit part i = (j : ℕ) → j < i → plain_fault codes stops times (record_at trips_file s (get_or part j 0)) ≡ 0

  -- nor with any, where there are no more entries
  pub fit_all : (part : List ℕ) (i : ℕ) → IsIndex trips_file s part → LegalFrom (fields_of trips_file) s 0 → Fit part i → length part ≤ i
      → plain_from codes stops times 1 (records_in (fields_of trips_file) s) ≡ answered []
  fit_all part i index l fit h =
      plain_none
      (λ x p m.
      let w = index.covers x (place_known (fields_of trips_file) (rank_of trips_file) s x p m) in
      rw w.2 at (fit w.0 (omega (arith, w.1))))
      0 1 (records_in (fields_of trips_file) s) (place_start (fields_of trips_file) s l) refl

  -- nor with that of entry i, which was cut: the next entry comes
  pub fit_more : (part : List ℕ) (i : ℕ) → Fit part i → (old places : List ℕ) (next : ℕ) → Cuts (fields_of trips_file) s (get_or part i 0) old places next
      → (n : ℕ) → n ≡ plain_fault codes stops times (texts trips_file s places) → n ≡ 0 → Fit part (i + 1)
  fit_more part i fit old places next c n e z =
      below_more (λ j. plain_fault codes stops times (record_at trips_file s (get_or part j 0)) ≡ 0) i fit
      (ap (plain_fault codes stops times) (cut_first (fields_of trips_file) s (get_or part i 0) old places next c) ∙ sym e ∙ z)
