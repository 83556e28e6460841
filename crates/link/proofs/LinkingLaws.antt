-- A batch in which the stage finds nothing keeps document 01's table: no two records of a file have one key, for the later is not used, and
-- each link of a row is met, for each field of each record is fine.
use mathlib.Core.Path.{◌≡◌, refl, ap, ◌∙◌}
use mathlib.Core.Bool.{Bool, true, false, not}
use mathlib.Core.List.{[], ◌∷◌}
use Prim.Native.Nat.{ℕ, ◌+◌, ◌-◌, ◌≤◌, ◌<◌}
use native.Mathlib.Omega.{arith}
use lib.Dec.{T, eqb, leb, leb→le}
use lib.ListN.{length, get_or, drop, take, replicate}
use lib.Seq.{get_or-take, length-take-le}
use Rattle.laws.specs.Tests.{both, clash, both_true}
use Rattle.laws.specs.Numbered.{answered}
use Rattle.file.specs.Format.{Fields}
use Rattle.file.specs.Files.{field_counts, fields_of}
use Rattle.keys.specs.Keys.{key_table, key_fields, key_of, has}
use Rattle.thirteen.specs.Batch.{Batch, records_of}
use Rattle.link.specs.Links.{
  zastavky,
  linky,
  spoje,
  zaslinky,
  zasspoje,
  udaje,
  caskody,
  altdop,
  altlinky,
  mistenky,
  links,
  link_of,
}
use Rattle.link.specs.Stage.{is_used, links_fault}
use Rattle.link.specs.Met.{Stands, Distinct, ToCodes, Linking}
use Rattle.link.specs.declared.Link.{Link}
use Rattle.link.proofs.HasLaws.{holds_has}
use Rattle.link.proofs.FaultLaws.{Fits, Fine, CleanFile, links_clean}
use Rattle.link.proofs.TableLaws.{Meets, stands_length, met_meets, code_link}

-- what two tests that hold say of each
left : (p q : Bool) → T (both p q) → T p
left true q t = tt
left false q t = t

right : (p q : Bool) → T (both p q) → T q
right true q t = t
right false q t = absurd t

module _ (b : Batch) (file : ℕ) (clean : CleanFile b file) where
  -- no two records of a clean file that has a key have one key
  pub clean_distinct : not (eqb (length (key_fields file)) 0) ≡ true → Distinct b file
  unfolding is_used
  clean_distinct k i j h l e =
      let rs = records_of b file in
      let key = key_of file (get_or rs j []) in
      let z : i < length (take j rs) = omega (arith, length-take-le j rs (omega arith)) in
      let same : key_of file (get_or (take j rs) i []) ≡ key = ap (λ (r : Fields). key_of file r) (get_or-take j rs i [] h) ∙ e in
      let used = both_true (not (eqb (length (key_fields file)) 0)) (has file key (take j rs)) k (holds_has file key (take j rs) i z same) in
      clash used (clean j l).0

  -- each field of each of its records is fine
  pub clean_fine : (r : Fields) → Stands b file r → (f : ℕ) → 1 ≤ f → f ≤ fields_of file → Fine b file f r
  clean_fine r s f h l =
      rw s.2 at ((clean s.0 s.1).1 f h (rw s.2 (omega (arith, stands_length b file r s))))

  -- and each link is met
  pub clean_meets : (r : Fields) → Stands b file r → (f : ℕ) → 1 ≤ f → f ≤ fields_of file → Meets b (link_of file f) f r
  clean_meets r s f h l = met_meets b (link_of file f) f r (clean_fine r s f h l).0

  -- and its codes are, as codes
  pub clean_codes : (from count : ℕ) → drop from (Link.Free ∷ get_or links file []) ≡ replicate count Link.Code → 1 ≤ from → from + count ≤ fields_of file + 1
      → (r : Fields) → Stands b file r → (f : ℕ) → from ≤ f → f < from + count → Fits b file Link.Code f r
  clean_codes from count e p q r s f h l =
      let c : link_of file f ≡ Link.Code = code_link file from count f e h l in
      rw c at (clean_fine r s f (omega arith) (omega arith))

module _ (b : Batch) (none : links_fault b ≡ answered []) where
  -- each file from 2 to 13 is clean
  pub clean_at : (file : ℕ) → T (both (leb 2 file) (leb file 13)) → CleanFile b file
  clean_at file t = links_clean b none file (leb→le 2 file (left (leb 2 file) (leb file 13) t)) (leb→le file 13 (right (leb 2 file) (leb file 13) t))

  -- so its keys are distinct, if it has one
  pub distinct_at : (file : ℕ) → T (both (leb 2 file) (leb file 13)) → not (eqb (length (key_fields file)) 0) ≡ true → Distinct b file
  distinct_at file t k = clean_distinct b file (clean_at file t) k

  -- and the link of each field is met
  pub link_at : (file f : ℕ) → T (both (leb 2 file) (leb file 13)) → T (both (leb 1 f) (leb f (fields_of file)))
      → (r : Fields) → Stands b file r → Meets b (link_of file f) f r
  link_at file f t u r s =
      clean_meets b file (clean_at file t) r s f
      (leb→le 1 f (left (leb 1 f) (leb f (fields_of file)) u))
      (leb→le f (fields_of file) (right (leb 1 f) (leb f (fields_of file)) u))

  -- codes from one field to another are fine
  pub fine_codes : (file from to : ℕ) → T (both (leb 2 file) (leb file 13)) → T (both (leb 1 from) (leb from to)) → T (leb to (fields_of file))
      → drop from (Link.Free ∷ get_or links file []) ≡ replicate (to + 1 - from) Link.Code
      → (r : Fields) → Stands b file r → (f : ℕ) → from ≤ f → f ≤ to → Fits b file Link.Code f r
  fine_codes file from to t u v e r s f h l =
      let p : 1 ≤ from = leb→le 1 from (left (leb 1 from) (leb from to) u) in
      let m : to ≤ fields_of file = leb→le to (fields_of file) v in
      clean_codes b file (clean_at file t) from (to + 1 - from) e p (omega arith) r s f h (omega arith)

  -- so each is empty, or a record of Pevnykod has its number
  pub codes_at : (file from to : ℕ) → T (both (leb 2 file) (leb file 13)) → T (both (leb 1 from) (leb from to)) → T (leb to (fields_of file))
      → drop from (Link.Free ∷ get_or links file []) ≡ replicate (to + 1 - from) Link.Code
      → (r : Fields) → Stands b file r → ToCodes b from to r
  codes_at file from to t u v e r s f h l = met_meets b Link.Code f r (fine_codes file from to t u v e r s f h l).0

-- document 01's table
pub linked : (b : Batch) → links_fault b ≡ answered [] → Linking b
unfolding key_fields key_table link_of links zastavky linky spoje zaslinky zasspoje udaje caskody altdop altlinky mistenky fields_of field_counts
linked b none =
    record {
      stops_key = distinct_at b none 2 tt refl;
      stops = codes_at b none 2 7 12 tt tt tt refl;
      codes_key = distinct_at b none 3 tt refl;
      carriers_key = distinct_at b none 4 tt refl;
      lines_key = distinct_at b none 5 tt refl;
      lines = link_at b none 5 3 tt tt;
      trips_key = distinct_at b none 6 tt refl;
      trips = λ r s. (link_at b none 6 1 tt tt r s, codes_at b none 6 3 12 tt tt tt refl r s);
      line_stops_key = distinct_at b none 7 tt refl;
      line_stops = λ r s. (link_at b none 7 1 tt tt r s, link_at b none 7 4 tt tt r s, codes_at b none 7 5 7 tt tt tt refl r s);
      trip_stops_key = distinct_at b none 8 tt refl;
      stops_of_trips = λ r s. (link_at b none 8 2 tt tt r s, link_at b none 8 3 tt tt r s, link_at b none 8 4 tt tt r s, codes_at b none 8 6 7 tt tt tt refl r s);
      notes_key = distinct_at b none 9 tt refl;
      notes = link_at b none 9 1 tt tt;
      time_codes_key = distinct_at b none 10 tt refl;
      time_codes = link_at b none 10 2 tt tt;
      alternatives = λ r s. (link_at b none 11 2 tt tt r s, link_at b none 11 3 tt tt r s, codes_at b none 11 4 9 tt tt tt refl r s);
      other_names = link_at b none 12 1 tt tt;
      seats = λ r s. (link_at b none 13 1 tt tt r s, link_at b none 13 2 tt tt r s);
    }
