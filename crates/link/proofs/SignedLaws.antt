-- A batch in which the stage finds nothing keeps document 01's permitted signs: each code of each record is fine.
use mathlib.Core.Path.{◌≡◌, refl}
use mathlib.Core.List.{[], ◌∷◌}
use Prim.Native.Nat.{ℕ, ◌+◌, ◌-◌}
use native.Mathlib.Omega.{arith}
use lib.Dec.{T, leb}
use lib.ListN.{get_or, drop, replicate}
use Rattle.laws.specs.Tests.{both}
use Rattle.laws.specs.Numbered.{answered}
use Rattle.file.specs.Format.{Fields}
use Rattle.file.specs.Files.{field_counts, fields_of}
use Rattle.thirteen.specs.Batch.{Batch}
use Rattle.link.specs.Links.{zastavky, spoje, zaslinky, zasspoje, altdop, links}
use Rattle.link.specs.Stage.{links_fault}
use Rattle.link.specs.Met.{Stands, PermittedCodes, Signed}
use Rattle.link.specs.declared.Link.{Link}
use Rattle.link.proofs.LinkingLaws.{fine_codes}
use Rattle.link.proofs.SignLaws.{fits_signed, fits_one}

-- codes from one field to another
pub signs_at : (b : Batch) → links_fault b ≡ answered []
    → (file from to : ℕ) → T (both (leb 2 file) (leb file 13)) → T (both (leb 1 from) (leb from to)) → T (leb to (fields_of file))
    → drop from (Link.Free ∷ get_or links file []) ≡ replicate (to + 1 - from) Link.Code
    → (r : Fields) → Stands b file r → PermittedCodes b file from to r
signs_at b none file from to t u v e r s f h l = fits_signed b file f r (fine_codes b none file from to t u v e r s f h l)

-- document 01's permitted signs
pub signed : (b : Batch) → links_fault b ≡ answered [] → Signed b
unfolding links zastavky spoje zaslinky zasspoje altdop fields_of field_counts
signed b none =
    record {
      stop_signs = signs_at b none 2 7 12 tt tt tt refl;
      trip_signs = signs_at b none 6 3 12 tt tt tt refl;
      line_stop_signs = signs_at b none 7 5 7 tt tt tt refl;
      trip_stop_signs =
          λ r s. (
            signs_at b none 8 6 7 tt tt tt refl r s,
            fits_one b r
                (fine_codes b none 8 6 7 tt tt tt refl r s 6 (omega arith) (omega arith))
                (fine_codes b none 8 6 7 tt tt tt refl r s 7 (omega arith) (omega arith)),
          );
      carrier_signs = signs_at b none 11 4 9 tt tt tt refl;
    }
