-- What is found by its key is a record that starts there, a record of Linky that is found by a line is that line's, and the two ends of its validity
-- are dates.
use Rattle.std.specs.Prelude.{None, Some}
use mathlib.Core.Path.{◌≡◌, refl, sym, ◌∙◌}
use mathlib.Core.Bool.{Bool, true, false}
use mathlib.Core.List.{List, [], ◌∷◌}
use Prim.Native.Nat.{ℕ, ◌<◌}
use native.Mathlib.Omega.{arith}
use lib.Dec.{eqb}
use lib.ListN.{length}
use Rattle.laws.specs.Tests.{both, clash}
use Rattle.dates.specs.Dates.{within}
use Rattle.file.specs.Files.{fields_of, field_counts}
use Rattle.file.specs.Format.{Text, Fields}
use Rattle.file.specs.Records.{records_in}
use Rattle.field.specs.Kinds.{kind_of, kinds, linky, admits}
use Rattle.field.specs.Names.{lines_file}
use Rattle.field.specs.Values.{is_date_text, day_of_text}
use Rattle.walk.specs.Walk.{LegalFrom, Cuts, part_of}
use Rattle.walk.proofs.WalkLaws.{cut_first}
use Rattle.lines.proofs.OrderLaws.{found_place}
use Rattle.rules.specs.Texts.{Kinded}
use Rattle.rules.proofs.KindLaws.{text_at, text_kind}
use Rattle.keys.specs.Keys.{key_fields, key_table, key_of, numbers, same, has, first_with, none}
use Rattle.keys.specs.KeyFiles.{KeyFile, PlaceIn}
use Rattle.keys.specs.Ranks.{rank, rank_of, record_at, Small}
use Rattle.keys.proofs.KeyLaws.{has_none}
use Rattle.keys.proofs.KeyFileLaws.{first_with_lem}
use Rattle.link.specs.Met.{number}
use Rattle.trail.specs.Lists.{first_or}
use Rattle.trip.specs.Days.{is_valid}
use Rattle.trip.specs.Stage.{trips_file}
use Rattle.trip.specs.View.{of_line}
use Rattle.trip.proofs.ViewLaws.{first_same, first_found}

-- what is found by a key: a record starts there
found_here : (file : ℕ) (s k : List ℕ) (p : ℕ) → KeyFile file s → Small k → length k ≡ length (key_fields file)
    → first_with file k 0 (records_in (fields_of file) s) ≡ Some p → PlaceIn file s p × (p < length s)
found_here file s k p f small size e =
    let rs = records_in (fields_of file) s in
    let h = found_place (fields_of file) (rank_of file) s (rank k) p f.legal (sym (first_with_lem file k f.keyed small size 0 rs f.keys) ∙ e) in
    (h.place, h.within)

-- so by a line in Linky, and by a line and a trip's number in Spoje
pub found_line : (s : List ℕ) (line p : ℕ) → KeyFile lines_file s → line < none
    → first_with lines_file (line ∷ []) 0 (records_in (fields_of lines_file) s) ≡ Some p → PlaceIn lines_file s p × (p < length s)
unfolding Small key_fields key_table
found_line s line p f h e = found_here lines_file s (line ∷ []) p f (h, tt) refl e

pub found_trip : (s : List ℕ) (line trip p : ℕ) → KeyFile trips_file s → line < none → trip < none
    → first_with trips_file (line ∷ trip ∷ []) 0 (records_in (fields_of trips_file) s) ≡ Some p → PlaceIn trips_file s p × (p < length s)
unfolding Small key_fields key_table
found_trip s line trip p f h l e = found_here trips_file s (line ∷ trip ∷ []) p f (h, (l, tt)) refl e

-- a key that a record has isn't missed
pub found_some : {P : Type 0} (file : ℕ) (k : List ℕ) (at : ℕ) (rs : List Fields) → has file k rs ≡ true → first_with file k at rs ≡ None → P
found_some file k at rs t e = clash t (has_none file k at rs e)

-- a test beside one that holds
held : (a : Bool) → a ≡ both a true
held true = refl
held false = refl

-- Linky's key is its field 1
line_field : (line : ℕ) (q : Fields) → of_line line q ≡ same (key_of lines_file q) (line ∷ [])
unfolding key_fields key_table numbers same
line_field line q = held (eqb (number 1 q) line)

-- so the record that is found by a line is the line's first
pub line_found : (s : List ℕ) (line p : ℕ) → LegalFrom (fields_of lines_file) s 0 → first_with lines_file (line ∷ []) 0 (records_in (fields_of lines_file) s) ≡ Some p
    → first_or [] (of_line line) (records_in (fields_of lines_file) s) ≡ record_at lines_file s p
line_found s line p l e =
    first_same [] (of_line line) (λ q. same (key_of lines_file q) (line ∷ [])) (line_field line) (records_in (fields_of lines_file) s)
    ∙ first_found lines_file s (line ∷ []) p l e

-- its fields 9 and 10 are dates
module _ {s places : List ℕ} (k : Kinded lines_file s places) {t : Text} where
  pub from_date : t ≡ part_of s places 8 → is_date_text t ≡ true
  unfolding fields_of field_counts kind_of kinds linky admits
  from_date e = text_kind k 8 (omega arith) e

  pub to_date : t ≡ part_of s places 9 → is_date_text t ≡ true
  unfolding fields_of field_counts kind_of kinds linky admits
  to_date e = text_kind k 9 (omega arith) e

-- and the line is valid from the one to the other
pub valid_within : (s : List ℕ) (at : ℕ) {old places : List ℕ} {next : ℕ} → Cuts (fields_of lines_file) s at old places next → Kinded lines_file s places
    → {t u : Text} → t ≡ part_of s places 8 → u ≡ part_of s places 9 → (d : ℕ)
    → is_valid (record_at lines_file s at) d ≡ within (day_of_text t) d (day_of_text u)
unfolding is_valid fields_of field_counts
valid_within s at c k p q d = rw (cut_first 10 s at _ _ _ c, text_at k 8 (omega arith) p, text_at k 9 (omega arith) q)
