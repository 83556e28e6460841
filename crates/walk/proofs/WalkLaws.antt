-- A legal file goes on legal behind each of its records. It is the writing of its records, so the first is what is written first, each
-- text where its place says, and behind it stands the writing of the others.
use mathlib.Core.Path.{◌≡◌, refl, sym, ap, ◌∙◌}
use mathlib.Core.List.{List, [], ◌∷◌, ◌++◌}
use Prim.Native.Nat.{ℕ, ◌+◌, ◌-◌, ◌≤◌, ◌<◌}
use native.Mathlib.Numerals.{add-one}
use native.Mathlib.Omega.{arith}
use lib.ListN.{length, get_or, drop, length-append, length-drop, drop_of_length-le}
use lib.Seq.{drop-cons, ext_get_or}
use Rattle.file.specs.Format.{Text, Fields, written_record, written, PermittedTexts, Permitted}
use Rattle.file.specs.Reader.{Reads}
use Rattle.file.specs.Reading.{run, outcome_in}
use Rattle.file.specs.Records.{up_to, records_by, records_in}
use Rattle.file.proofs.PlaceLaws.{read_count}
use Rattle.file.proofs.RecordLaws.{size_up_to, at_up_to, written_records, legible}
use Rattle.walk.specs.Walk.{LegalFrom, RecordAt, start_of, end_of, part_of, cut_record, Stands, Cuts}
use Rattle.walk.proofs.StartLaws.{text_start, TextHere, Marked, place_near, past_record, behind_record, text_here, size_record}

-- the record that is cut has n texts
pub cut_size : (n : ℕ) (s places : List ℕ) → length (cut_record n s places) ≡ n
unfolding cut_record
cut_size n s places = size_up_to n _

-- text i is the part that its places say
pub cut_text : (n : ℕ) (s places : List ℕ) (i : ℕ) → i < n → (t : Text) → t ≡ part_of s places i → get_or (cut_record n s places) i [] ≡ t
unfolding cut_record
cut_text n s places i h t e = at_up_to n (λ j. part_of s places j) i [] h ∙ sym e

-- the texts from i on, for a pass over them
pub cut_left : (n : ℕ) (s places : List ℕ) (i : ℕ) → i < n → (t : Text) → t ≡ part_of s places i
    → drop i (cut_record n s places) ≡ t ∷ drop (i + 1) (cut_record n s places)
cut_left n s places i h t e =
    let k : i < length (cut_record n s places) = omega (arith, cut_size n s places) in
    rw (add-one, drop-cons (cut_record n s places) i [] k, cut_text n s places i h t e)

pub cut_end : (n : ℕ) (s places : List ℕ) (i : ℕ) → n ≤ i → drop i (cut_record n s places) ≡ []
cut_end n s places i h =
    let k : length (cut_record n s places) ≤ i = omega (arith, cut_size n s places) in
    drop_of_length-le (cut_record n s places) k

-- a legal file is legal from its start on
pub legal_start : (n : ℕ) (s : List ℕ) (k : ℕ) → Reads n s k → LegalFrom n s 0
legal_start n s k h = record { count = k; reads = h }

-- at the end no records are left
pub none_left : (n : ℕ) (s : List ℕ) (at : ℕ) → length s ≤ at → records_in n (drop at s) ≡ []
unfolding records_by up_to run outcome_in
none_left n s at h = rw (drop_of_length-le s h)

-- as many records are left as are read
pub count_left : (n : ℕ) (s : List ℕ) (at : ℕ) (h : LegalFrom n s at) → length (records_in n (drop at s)) ≡ h.count
count_left n s at h = (legible n (drop at s) h.count h.reads).count

-- a record takes a byte or more, so there are no more records than bytes
size_written : (n : ℕ) (rs : List Fields) → 1 ≤ n → Permitted n rs → length rs ≤ length (written rs)
unfolding Permitted written
size_written n [] h p = omega arith
size_written n (r ∷ rs) h p =
    rw (length-append (written_record r) (written rs))
    (omega (arith, size_record r (omega (arith, p.0.0)), size_written n rs h p.1))

pub count_most : (n : ℕ) (s : List ℕ) (k : ℕ) → Reads n s k → k ≤ length s
count_most n s k h =
    let l = legible n s k h in
    omega (arith, l.count, size_written n (records_in n s) h.some l.permitted, ap length l.bytes)

-- the records that are left are no more than the bytes that are left
pub left_most : (n : ℕ) (s : List ℕ) (at : ℕ) (h : LegalFrom n s at) → h.count ≤ length s - at
left_most n s at h = rw length-drop at (count_most n (drop at s) h.count h.reads)

-- the record that starts at `at`
abbrev pub first_record : ℕ → List ℕ → ℕ → Fields
first_record n s at = get_or (records_in n (drop at s)) 0 []

-- a record stands first in s from `at` on
record First (n : ℕ) (s : List ℕ) (at : ℕ) (r : Fields) : Type 0 where
  rs : List Fields
  records : records_in n (drop at s) ≡ r ∷ rs
  here : drop at s ≡ written_record r ++ written rs
  shape : length r ≡ n
  texts : PermittedTexts r
  others : Permitted n rs

module _ (n : ℕ) (s : List ℕ) (at : ℕ) (h : RecordAt n s at) where
  abbrev first : Fields
  first = first_record n s at

  some : 1 ≤ n
  some = h.legal.reads.some

  opens : First n s at first
  unfolding written Permitted
  opens = let l = legible n (drop at s) h.legal.count h.legal.reads in go (records_in n (drop at s)) refl l.permitted l.bytes
    where
      go : (qs : List Fields) → records_in n (drop at s) ≡ qs → Permitted n qs → written qs ≡ drop at s → First n s at (get_or qs 0 [])
      go [] e p w = absurd (omega (arith, ap length w, length-drop at s, h.more))
      go (r ∷ rs) e p w = record { rs = rs; records = e; here = sym w; shape = p.0.0; texts = p.0.1; others = p.1 }

  -- text i, and that a place in the record is one in the file
  pub text_at : (i : ℕ) → i < n → TextHere s at first i
  text_at i l = let f = opens in text_here s at first (written f.rs) f.here (omega (arith, f.shape, some)) f.texts i (omega (arith, f.shape))

  pub near_at : (i : ℕ) → text_start at first i + 1 ≤ length s
  near_at i = let f = opens in place_near s at first (written f.rs) f.here (omega (arith, f.shape, some)) i

  -- where one behind the last text would start
  pub end_at : text_start at first n + 1 ≡ at + length (written_record first)
  end_at = let f = opens in past_record s at first (written f.rs) f.here (omega (arith, f.shape, some)) n f.shape

  -- places that say where the texts start have cut the record
  module _ (old places : List ℕ) (m : Marked at first old places (n + 1)) where
    stands : (i : ℕ) → i < n → Stands s places i
    stands i l =
        let a = m.starts i (omega arith) in
        let b = m.starts (i + 1) (omega arith) in
        record { few = omega (arith, h.room); order = omega (arith, (text_at i l).size); near = omega (arith, near_at (i + 1)) }

    same_text : (i : ℕ) → i < n → part_of s places i ≡ get_or first i []
    unfolding part_of
    same_text i l =
        let a = m.starts i (omega arith) in
        let b = m.starts (i + 1) (omega arith) in
        let z : end_of places i - start_of places i ≡ length (get_or first i []) = omega (arith, (text_at i l).size) in
        rw (z, a) (text_at i l).text

    same_record : cut_record n s places ≡ first
    same_record =
        ext_get_or [] (cut_record n s places) first (cut_size n s places ∙ sym opens.shape)
        (λ i l. let k : i < n = omega (arith, cut_size n s places) in cut_text n s places i k (part_of s places i) refl ∙ same_text i k)

    pub cuts : (next : ℕ) → next ≡ text_start at first n + 1 → Cuts n s at old places next
    cuts next e =
        let f = opens in
        let l : 1 ≤ length first = omega (arith, f.shape, some) in
        let past : next ≡ at + length (written_record first) = e ∙ past_record s at first (written f.rs) f.here l n f.shape in
        let left : drop next s ≡ written f.rs = rw past (behind_record s at first (written f.rs) f.here l) in
        record {
          rest = f.records ∙ rw (same_record, left, written_records n some f.rs f.others);
          legal = record { count = length f.rs; reads = record { some = some; whole = rw left (read_count n some f.rs f.others) } };
          far = omega arith;
          near = omega (arith, near_at n);
          parted = stands;
          alone = λ i k. m.kept i (omega arith);
        }

-- where bytes are left, so is a record
pub some_left : (n : ℕ) (s : List ℕ) (at : ℕ) (h : LegalFrom n s at) → at < length s → 1 ≤ h.count
unfolding written
some_left n s at h l =
    let e = legible n (drop at s) h.count h.reads in
    go (records_in n (drop at s)) e.count e.bytes
  where
    go : (qs : List Fields) → length qs ≡ h.count → written qs ≡ drop at s → 1 ≤ h.count
    go [] c w = absurd (omega (arith, ap length w, length-drop at s))
    go (q ∷ qs) c w = omega arith

-- the record that was cut is the first of those from `at` on
pub cut_first : (n : ℕ) (s : List ℕ) (at : ℕ) (old places : List ℕ) (next : ℕ) → Cuts n s at old places next → first_record n s at ≡ cut_record n s places
cut_first n s at old places next c = rw c.rest
