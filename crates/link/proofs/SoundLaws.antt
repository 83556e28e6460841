-- In a batch that keeps the table of keys and links and the permitted signs, the stage finds nothing: each link of a file's row fits, so each
-- field of each of its records is fine, and no earlier record has its key.
use mathlib.Core.Path.{◌≡◌, refl, sym, ap, ◌∙◌}
use mathlib.Core.Bool.{true, false, not}
use mathlib.Core.List.{List, [], ◌∷◌}
use mathlib.Core.Logic.{◌⊎◌, inr}
use Prim.Native.Nat.{ℕ, zero, suc, ◌+◌, ◌-◌, ◌≤◌, ◌<◌}
use native.Mathlib.Omega.{arith}
use native.Mathlib.Decide.{ℕ_discrete}
use borrow.Author.Tests.{ne_eqb}
use lib.Dec.{eqb}
use lib.ListN.{length, get_or, take, replicate}
use lib.Seq.{get_or-take, length-take-le}
use Rattle.laws.specs.Tests.{either, both_right}
use Rattle.laws.specs.Numbered.{answered}
use Rattle.file.specs.Format.{Fields}
use Rattle.field.specs.Names.{field}
use Rattle.keys.specs.Keys.{key_table, key_fields, key_of, has}
use Rattle.thirteen.specs.Batch.{Batch, records_of}
use Rattle.link.specs.Links.{
  zastavky,
  linky,
  spoje,
  zaslinky,
  zasspoje,
  udaje,
  caskody,
  altdop,
  altlinky,
  mistenky,
  links,
  link_of,
  met,
}
use Rattle.link.specs.Signs.{same_sign, sign_stands}
use Rattle.link.specs.Stage.{is_used, links_fault}
use Rattle.link.specs.Met.{Stands, Distinct, Each, ToCodes, PermittedCodes, Linking, Signed}
use Rattle.link.specs.declared.Link.{Link}
use Rattle.link.proofs.HasLaws.{has_holds}
use Rattle.link.proofs.FaultLaws.{Fits, CleanFile, clean_links}
use Rattle.link.proofs.TableLaws.{Meets, meets_met}
use Rattle.link.proofs.SignLaws.{signed_fits, one_same}

infixr 2 ◌then◌
-- one part of a proof, and the others
pub ◌then◌ : {A B : Type 0} → A → B → A × B
a then b = (a, b)

-- something holds of each of `count` numbers from one on
abbrev pub All : (ℕ → Type 0) → ℕ → ℕ → Type 0
All P from zero = Unit
All P from (suc count) = P from × All P (from + 1) count

-- so it holds of each of them
pub all_at : (P : ℕ → Type 0) (from count : ℕ) → All P from count → (i : ℕ) → i < count → P (from + i)
all_at P from zero a i h = absurd (omega arith)
all_at P from (suc count) a zero h = let z : from + 0 ≡ from = omega arith in rw z a.0
all_at P from (suc count) a (suc i) h =
    let z : from + suc i ≡ from + 1 + i = omega arith in
    rw z (all_at P (from + 1) count a.1 i (omega arith))

-- something holds of each link of a row, where the first is that of field f
abbrev pub Row : (Link → ℕ → Type 0) → List Link → ℕ → Type 0
Row P [] f = Unit
Row P (l ∷ ls) f = P l f × Row P ls (f + 1)

module _ (P : Link → ℕ → Type 0) where
  -- a run of codes
  pub code_row : (count f : ℕ) → ((i : ℕ) → f ≤ i → i < f + count → P Link.Code i) → Row P (replicate count Link.Code) f
  code_row zero f h = tt
  code_row (suc count) f h = (h f (omega arith) (omega arith), code_row count (f + 1) (λ i p q. h i (omega arith) (omega arith)))

  -- each field of a row, and each field behind it, which is free
  pub row_at : ((f : ℕ) → P Link.Free f) → (ls : List Link) (f : ℕ) → Row P ls f → (i : ℕ) → P (get_or ls i Link.Free) (f + i)
  row_at free [] f a i = free (f + i)
  row_at free (l ∷ ls) f a zero = let z : f + 0 ≡ f = omega arith in rw z a.0
  row_at free (l ∷ ls) f a (suc i) =
      let z : f + suc i ≡ f + 1 + i = omega arith in
      rw z (row_at free ls (f + 1) a.1 i)

-- no record of a file has an earlier one's key
abbrev pub Unused : Batch → ℕ → Type 0
Unused b file = (i : ℕ) → i < length (records_of b file) → is_used file (take i (records_of b file)) (get_or (records_of b file) i []) ≡ false

module _ (b : Batch) (file : ℕ) where
  -- so it is where no two have one key
  pub distinct_unused : Distinct b file → Unused b file
  unfolding is_used
  distinct_unused d i l =
      let rs = records_of b file in
      let key = key_of file (get_or rs i []) in
      either (is_used file (take i rs) (get_or rs i []))
      (λ u.
      let h = has_holds file key (take i rs) (both_right (not (eqb (length (key_fields file)) 0)) (has file key (take i rs)) u) in
      let j : h.0 < i = omega (arith, h.1, length-take-le i rs (omega arith)) in
      let e : key_of file (get_or rs h.0 []) ≡ key = ap (λ (r : Fields). key_of file r) (sym (get_or-take i rs h.0 [] j)) ∙ h.2 in
      absurd (d h.0 i j l e))
      (λ u. u)

  -- a field that is free fits
  pub free_fits : (r : Fields) (f : ℕ) → Fits b file Link.Free f r
  unfolding met sign_stands
  free_fits r f = (refl, refl)

  -- a file is clean where no key is used and each link of its row fits
  pub row_clean : Unused b file → Each b file (λ r. Row (λ l f. Fits b file l f r) (get_or links file []) 1) → CleanFile b file
  unfolding link_of
  row_clean u rows i l = (u i l, λ f h k. fine f h)
    where
      fine : (f : ℕ) → 1 ≤ f → Fits b file (get_or (Link.Free ∷ get_or links file []) f Link.Free) f (get_or (records_of b file) i [])
      fine zero h = absurd (omega arith)
      fine (suc f) h =
          let z : 1 + f ≡ suc f = omega arith in
          let q = get_or (records_of b file) i [] in
          rw z at (row_at (λ l g. Fits b file l g q) (free_fits q) (get_or links file []) 1 (rows q (i, l, refl)) f)

module _ (b : Batch) (file : ℕ) (r : Fields) where
  -- a link that is met fits, where it is no code
  pub met_fits : (link : Link) (f : ℕ) → sign_stands b file link f r ≡ true → Meets b link f r → Fits b file link f r
  met_fits link f s m = (meets_met b link f r m, s)

  -- the codes from one field to another, which are the last links of a row
  pub codes_fit : Distinct b 3 → (from to count : ℕ) → from + count ≡ to + 1 → ToCodes b from to r → PermittedCodes b file from to r
      → ((f : ℕ) → from ≤ f → f ≤ to → (length (field f r) ≡ 0) ⊎ (same_sign b file f r ≡ true))
      → Row (λ l f. Fits b file l f r) (replicate count Link.Code) from
  codes_fit d from to count e m s t =
      code_row (λ l f. Fits b file l f r) count from
      (λ f p q. let l : f ≤ to = omega arith in signed_fits b file f r d (m f p l) (s f p l) (t f p l))

-- only Zasspoje's second code is to have another's sign
pub first_same : (b : Batch) (f : ℕ) (r : Fields) → (f ≡ 7 → ⊥) → same_sign b 8 f r ≡ true
unfolding same_sign
first_same b f r e = rw (ne_eqb f 7 e)

-- each file is clean, row by row of the table
module _ (b : Batch) (k : Linking b) (s : Signed b) where
  -- Zastavky
  pub stops_clean : CleanFile b 2
  unfolding links zastavky same_sign
  stops_clean =
      row_clean b 2 (distinct_unused b 2 k.stops_key)
      (λ r i.
      let free = free_fits b 2 r in
      free 1
      then free 2
      then free 3
      then free 4
      then free 5
      then free 6
      then codes_fit b 2 r k.codes_key 7 12 6 refl (k.stops r i) (s.stop_signs r i) (λ f p q. inr refl))

  -- Pevnykod
  pub codes_clean : CleanFile b 3
  unfolding links
  codes_clean = row_clean b 3 (distinct_unused b 3 k.codes_key) (λ r i. tt)

  -- Dopravci
  pub carriers_clean : CleanFile b 4
  unfolding links
  carriers_clean = row_clean b 4 (distinct_unused b 4 k.carriers_key) (λ r i. tt)

  -- Linky
  pub lines_clean : CleanFile b 5
  unfolding links linky sign_stands
  lines_clean =
      row_clean b 5 (distinct_unused b 5 k.lines_key)
      (λ r i. let free = free_fits b 5 r in free 1 then free 2 then met_fits b 5 r Link.Carrier 3 refl (k.lines r i) then tt)

  -- Spoje
  pub trips_clean : CleanFile b 6
  unfolding links spoje sign_stands same_sign
  trips_clean =
      row_clean b 6 (distinct_unused b 6 k.trips_key)
      (λ r i.
      let m = k.trips r i in
      met_fits b 6 r Link.Line 1 refl m.0
      then free_fits b 6 r 2
      then codes_fit b 6 r k.codes_key 3 12 10 refl m.1 (s.trip_signs r i) (λ f p q. inr refl))

  -- Zaslinky
  pub line_stops_clean : CleanFile b 7
  unfolding links zaslinky sign_stands same_sign
  line_stops_clean =
      row_clean b 7 (distinct_unused b 7 k.line_stops_key)
      (λ r i.
      let m = k.line_stops r i in
      met_fits b 7 r Link.Line 1 refl m.0
      then free_fits b 7 r 2
      then free_fits b 7 r 3
      then met_fits b 7 r Link.Stop 4 refl m.1
      then codes_fit b 7 r k.codes_key 5 7 3 refl m.2 (s.line_stop_signs r i) (λ f p q. inr refl))

  -- Zasspoje's first code has no sign to be like, its second that of the first
  pub same_at : (r : Fields) → Stands b 8 r → (f : ℕ) → 6 ≤ f → f ≤ 7 → (length (field f r) ≡ 0) ⊎ (same_sign b 8 f r ≡ true)
  same_at r i f p q = go (ℕ_discrete f 7)
    where
      go : Dec (f ≡ 7) → (length (field f r) ≡ 0) ⊎ (same_sign b 8 f r ≡ true)
      go (yes e) = rw e (one_same b r k.codes_key (s.trip_stop_signs r i).1)
      go (no e) = inr (first_same b f r e)

  -- Zasspoje
  pub trip_stops_clean : CleanFile b 8
  unfolding links zasspoje sign_stands
  trip_stops_clean =
      row_clean b 8 (distinct_unused b 8 k.trip_stops_key)
      (λ r i.
      let m = k.stops_of_trips r i in
      free_fits b 8 r 1
      then met_fits b 8 r Link.Trip 2 refl m.0
      then met_fits b 8 r Link.LineStop 3 refl m.1
      then met_fits b 8 r Link.Stop 4 refl m.2
      then free_fits b 8 r 5
      then codes_fit b 8 r k.codes_key 6 7 2 refl m.3 (s.trip_stop_signs r i).0 (same_at r i))

  -- Udaje
  pub notes_clean : CleanFile b 9
  unfolding links udaje sign_stands
  notes_clean = row_clean b 9 (distinct_unused b 9 k.notes_key) (λ r i. met_fits b 9 r Link.Line 1 refl (k.notes r i) then tt)

  -- Caskody
  pub time_codes_clean : CleanFile b 10
  unfolding links caskody sign_stands
  time_codes_clean =
      row_clean b 10 (distinct_unused b 10 k.time_codes_key)
      (λ r i. free_fits b 10 r 1 then met_fits b 10 r Link.Trip 2 refl (k.time_codes r i) then tt)

  -- Altdop, which has no key
  pub alternatives_clean : CleanFile b 11
  unfolding key_fields key_table is_used links altdop sign_stands same_sign
  alternatives_clean =
      row_clean b 11 (λ i l. refl)
      (λ r i.
      let m = k.alternatives r i in
      free_fits b 11 r 1
      then met_fits b 11 r Link.Trip 2 refl m.0
      then met_fits b 11 r Link.Carrier 3 refl m.1
      then codes_fit b 11 r k.codes_key 4 9 6 refl m.2 (s.carrier_signs r i) (λ f p q. inr refl))

  -- Altlinky, which has no key
  pub other_names_clean : CleanFile b 12
  unfolding key_fields key_table is_used links altlinky sign_stands
  other_names_clean = row_clean b 12 (λ i l. refl) (λ r i. met_fits b 12 r Link.Line 1 refl (k.other_names r i) then tt)

  -- Mistenky, which has no key
  pub seats_clean : CleanFile b 13
  unfolding key_fields key_table is_used links mistenky sign_stands
  seats_clean =
      row_clean b 13 (λ i l. refl)
      (λ r i.
      let m = k.seats r i in
      met_fits b 13 r Link.Line 1 refl m.0 then met_fits b 13 r Link.TripOrZero 2 refl m.1 then tt)

  -- all files
  pub files_clean : All (λ file. CleanFile b file) 2 12
  files_clean =
      stops_clean
      then codes_clean
      then carriers_clean
      then lines_clean
      then trips_clean
      then line_stops_clean
      then trip_stops_clean
      then notes_clean
      then time_codes_clean
      then alternatives_clean
      then other_names_clean
      then seats_clean
      then tt

-- the stage finds nothing in a batch that keeps the table and the permitted signs
pub links_sound : (b : Batch) → Linking b → Signed b → links_fault b ≡ answered []
links_sound b k s =
    clean_links b
    (λ file h l.
    let z : 2 + (file - 2) ≡ file = omega arith in
    rw z at (all_at (λ n. CleanFile b n) 2 12 (files_clean b k s) (file - 2) (omega arith)))
