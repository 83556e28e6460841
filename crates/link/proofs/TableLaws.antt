-- What a link says once it is met, as a quantified statement, and which links stand in a file's row of the table. A record has as many
-- fields as its file's records, so each field of the row is looked at.
use mathlib.Core.Path.{◌≡◌, refl, sym, ap, ◌∙◌}
use mathlib.Core.Bool.{true}
use mathlib.Core.List.{List, [], ◌∷◌}
use mathlib.Core.Logic.{◌⊎◌, inl, inr}
use Prim.Native.Nat.{ℕ, ◌+◌, ◌-◌, ◌≤◌, ◌<◌}
use native.Mathlib.Omega.{arith}
use lib.Dec.{eqb}
use lib.ListN.{length, get_or, drop, replicate, get_or-replicate}
use lib.Seq.{get_or-drop}
use borrow.Author.Tests.{eqb-true, eq-eqb}
use Rattle.file.specs.Format.{Fields}
use Rattle.file.specs.Files.{fields_of}
use Rattle.file.specs.Reading.{reading}
use Rattle.file.specs.Records.{up_to, text_at, records_by, records_in}
use Rattle.file.specs.declared.Outcome.{Outcome}
use Rattle.file.specs.declared.Outcome.TheVariants.{Whole, Unfit, CutShort}
use Rattle.file.proofs.RecordLaws.{size_up_to, at_up_to}
use Rattle.field.specs.Values.{is_empty}
use Rattle.field.specs.Names.{field}
use Rattle.keys.specs.Keys.{key_table, key_fields, key_of, numbers, has}
use Rattle.thirteen.specs.Batch.{Batch, records_of}
use Rattle.link.specs.Links.{links, link_of, target, link_fields, reaches, met}
use Rattle.link.specs.Met.{Stands, Reaches, KeyColumn, number, ToLine, ToStop, ToCarrier, ToTrip, ToLineStop}
use Rattle.link.specs.declared.Link.{Link}
use Rattle.link.proofs.HasLaws.{one_left, one_right, one_cases, has_holds, holds_has}

-- the keys of a record are those of the table's column
pub key_column : (r : Fields) → KeyColumn r
unfolding key_fields key_table numbers
key_column r =
    record {
      stop_key = refl;
      code_key = refl;
      carrier_key = refl;
      line_key = refl;
      trip_key = refl;
      line_stop_key = refl;
      trip_stop_key = refl;
      note_key = refl;
      time_code_key = refl;
    }

-- every record of a file has its file's number of fields
pub length_by : (n : ℕ) (s : List ℕ) (o : Outcome) (i : ℕ) → i < length (records_by n s o) → length (get_or (records_by n s o) i []) ≡ n
unfolding records_by
length_by n s (Whole k) i h =
    let row : ℕ → Fields = λ r. up_to n (λ f. text_at n s (r + 1) (f + 1)) in
    let j : i < k = omega (arith, size_up_to k row) in
    ap length (at_up_to k row i [] j) ∙ size_up_to n (λ f. text_at n s (i + 1) (f + 1))
length_by n s (Unfit at) i h = absurd (omega arith)
length_by n s (CutShort at) i h = absurd (omega arith)

-- for any file, as it is read
pub record_length : (n : ℕ) (s : List ℕ) (i : ℕ) → i < length (records_in n s) → length (get_or (records_in n s) i []) ≡ n
record_length n s i h = length_by n s (reading n s) i h

-- for a record that stands in a file of the batch
pub stands_length : (b : Batch) (file : ℕ) (r : Fields) → Stands b file r → length r ≡ fields_of file
stands_length b file r s = ap length (sym s.2) ∙ length_by (fields_of file) _ _ s.0 s.1

-- what a link says of a record where it is met
abbrev pub Meets : Batch → Link → ℕ → Fields → Type 0
Meets b Link.Free f r = Unit
Meets b Link.Line f r = ToLine b f r
Meets b Link.Stop f r = ToStop b f r
Meets b Link.Carrier f r = ToCarrier b f r
Meets b Link.Trip f r = ToTrip b r
Meets b Link.TripOrZero f r = (number f r ≡ 0) ⊎ ToTrip b r
Meets b Link.LineStop f r = ToLineStop b r
Meets b Link.Code f r = (length (field f r) ≡ 0) ⊎ Reaches b 3 (number f r ∷ [])

module _ (b : Batch) where
  -- a record that is reached by test is reached
  pub has_reaches : (file : ℕ) (key : List ℕ) → has file key (records_of b file) ≡ true → Reaches b file key
  has_reaches file key e =
      let h = has_holds file key (records_of b file) e in
      (get_or (records_of b file) h.0 [], (h.0, h.1, refl), h.2)

  -- a record that is reached is reached by test
  pub reaches_has : (file : ℕ) (key : List ℕ) → Reaches b file key → has file key (records_of b file) ≡ true
  reaches_has file key (q, s, e) =
      holds_has file key (records_of b file) s.0 s.1 (ap (λ (r : Fields). key_of file r) s.2 ∙ e)

  -- so a link that is met by test is met
  pub met_meets : (link : Link) (f : ℕ) (r : Fields) → met b link f r ≡ true → Meets b link f r
  unfolding met reaches target link_fields numbers
  met_meets Link.Free f r e = tt
  met_meets Link.Line f r e = has_reaches 5 _ e
  met_meets Link.Stop f r e = has_reaches 2 _ e
  met_meets Link.Carrier f r e = has_reaches 4 _ e
  met_meets Link.Trip f r e = has_reaches 6 _ e
  met_meets Link.TripOrZero f r e = go (one_cases _ _ e)
    where
      go : (eqb (number f r) 0 ≡ true) ⊎ (has 6 (number 1 r ∷ number 2 r ∷ []) (records_of b 6) ≡ true) → (number f r ≡ 0) ⊎ ToTrip b r
      go (inl p) = inl (eqb-true (number f r) 0 p)
      go (inr p) = inr (has_reaches 6 _ p)
  met_meets Link.LineStop f r e = has_reaches 7 _ e
  met_meets Link.Code f r e = go (one_cases _ _ e)
    where
      go : (is_empty (field f r) ≡ true) ⊎ (has 3 (number f r ∷ []) (records_of b 3) ≡ true)
          → (length (field f r) ≡ 0) ⊎ Reaches b 3 (number f r ∷ [])
      go (inl p) = inl (eqb-true (length (field f r)) 0 p)
      go (inr p) = inr (has_reaches 3 _ p)

  -- and the other way
  pub meets_met : (link : Link) (f : ℕ) (r : Fields) → Meets b link f r → met b link f r ≡ true
  unfolding met reaches target link_fields numbers
  meets_met Link.Free f r m = refl
  meets_met Link.Line f r m = reaches_has 5 _ m
  meets_met Link.Stop f r m = reaches_has 2 _ m
  meets_met Link.Carrier f r m = reaches_has 4 _ m
  meets_met Link.Trip f r m = reaches_has 6 _ m
  meets_met Link.TripOrZero f r (inl z) = one_left _ _ (eq-eqb (number f r) 0 z)
  meets_met Link.TripOrZero f r (inr m) = one_right (eqb (number f r) 0) _ (reaches_has 6 _ m)
  meets_met Link.LineStop f r m = reaches_has 7 _ m
  meets_met Link.Code f r (inl z) = one_left _ _ (eq-eqb (length (field f r)) 0 z)
  meets_met Link.Code f r (inr m) = one_right (is_empty (field f r)) _ (reaches_has 3 _ m)

-- the codes of a row are its last links
pub code_link : (file from count f : ℕ) → drop from (Link.Free ∷ get_or links file []) ≡ replicate count Link.Code → from ≤ f → f < from + count
    → link_of file f ≡ Link.Code
unfolding link_of
code_link file from count f e p q =
    let l : List Link = Link.Free ∷ get_or links file [] in
    let z : from + (f - from) ≡ f = omega arith in
    ap (λ (j : ℕ). get_or l j Link.Free) (sym z)
    ∙ sym (get_or-drop from l (f - from) Link.Free)
    ∙ ap (λ (m : List Link). get_or m (f - from) Link.Free) e
    ∙ get_or-replicate count (f - from) Link.Code Link.Free (omega arith)
