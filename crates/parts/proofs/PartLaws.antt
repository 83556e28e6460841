-- Laws of the parts of the hint: where a file's records start, its part, the parts of several files.
use mathlib.Core.Path.{◌≡◌, refl, sym, ap, ◌∙◌}
use mathlib.Core.Bool.{true, false}
use mathlib.Core.List.{List, [], ◌∷◌, ◌++◌, append-nil}
use Prim.Native.Nat.{ℕ, zero, suc, ◌+◌, ◌-◌, ◌≤◌, ◌<◌}
use borrow.Rule.Slice.PartMut.{mid_of, put_mid}
use borrow.Author.Tests.{ltb-true, ltb-false}
use native.Mathlib.Omega.{arith}
use lib.Dec.{ltb}
use lib.ListN.{length, get_or, drop, set, length-append, length-drop, drop_of_length-le}
use lib.Seq.{drop-drop, length-take-le}
use Rattle.laws.specs.Splice.{splice, store, splice_none, splice_then}
use Rattle.laws.specs.Tests.{either}
use Rattle.file.specs.Files.{fields_of, longest}
use Rattle.file.specs.Format.{Fields, written_record}
use Rattle.file.specs.Records.{records_in}
use Rattle.walk.proofs.WalkLaws.{none_left, count_left, left_most}
use Rattle.lines.specs.Index.{starts_from, starts}
use Rattle.lines.specs.Lines.{Place, Next}
use Rattle.lines.specs.Order.{is_rising}
use Rattle.lines.proofs.LineLaws.{place_start, place_on, size_one}
use Rattle.keys.specs.KeyFiles.{KeyFile}
use Rattle.keys.specs.Ranks.{IsKeyed, rank_of}
use Rattle.thirteen.specs.Batch.{Batch, file_in}
use Rattle.ranked.proofs.RankedLaws.{order_size}
use Rattle.placed.specs.Places.{key_rank, Places}
use Rattle.parts.specs.Keyed.{KeyedFiles}
use Rattle.parts.specs.Parts.{starts_in_order, part_of, parts_from}

-- WHERE RECORDS START. As many places as records.
pub starts_size : (at : ℕ) (rs : List Fields) → length (starts_from at rs) ≡ length rs
unfolding starts_from
starts_size at [] = refl
starts_size at (r ∷ rs) = ap suc (starts_size (at + length (written_record r)) rs)

-- a list as long as what is laid over it is that
pub splice_whole : (d bs : List ℕ) → length bs ≡ length d → splice d 0 bs ≡ bs
unfolding splice
splice_whole d bs e =
    let h : length d ≤ 0 + length bs = omega arith in
    rw (drop_of_length-le d h, append-nil)

module _ (n : ℕ) (s d : List ℕ) (i at : ℕ) where
  -- a turn: with one place laid, the rest of them give the same list
  pub starts_turn : (first : Fields) (next : ℕ) → Next n s at first next → i < length d
      → splice (set d i at) (i + 1) (starts_from next (records_in n (drop next s))) ≡ splice d i (starts_from at (records_in n (drop at s)))
  unfolding starts_from
  starts_turn first next x h =
      rw (store d i at h, x.rest, ← x.size)
      (splice_then d i (at ∷ []) (starts_from next (records_in n (drop next s))) (i + 1) refl (omega arith))

  -- the end: the list is as it should be
  pub starts_done : length s ≤ at → {whole : List ℕ} → splice d i (starts_from at (records_in n (drop at s))) ≡ whole → d ≡ whole
  unfolding starts_from
  starts_done h e = sym (splice_none d i) ∙ rw (none_left n s at h) at e

-- a record starts at each of them
starts_from_lem : (n : ℕ) (s : List ℕ) (at : ℕ) (rs : List Fields) → Place n s at → records_in n (drop at s) ≡ rs
    → (i : ℕ) → i < length (starts_from at rs) → Place n s (get_or (starts_from at rs) i 0) × (get_or (starts_from at rs) i 0 < length s)
unfolding starts_from
starts_from_lem n s at [] p e i h = absurd (omega arith)
starts_from_lem n s at (r ∷ rs) p e zero h =
    (p, either (ltb at (length s)) (λ t. ltb-true at (length s) t) (λ t. absurd (omega (arith, ap length e, ap length (none_left n s at (ltb-false at (length s) t))))))
starts_from_lem n s at (r ∷ rs) p e (suc i) h =
    let w = place_on n s at p (r ∷ []) rs e (at + length (written_record r)) (omega (arith, size_one r)) in
    starts_from_lem n s (at + length (written_record r)) rs w.place w.left i (omega arith)

pub starts_places : (file : ℕ) (s : List ℕ) → KeyFile file s → Places file s (starts (fields_of file) (rank_of file) s)
starts_places file s k = starts_from_lem (fields_of file) s 0 (records_in (fields_of file) s) (place_start (fields_of file) s k.legal) refl

-- a part of a list that was lent, of this size
pub mid_size : (d : List ℕ) (at size : ℕ) → at + size ≤ length d → length (mid_of at size d) ≡ size
mid_size d at size h = length-take-le size (drop at d) (simp length-drop (omega arith))

-- and as it comes back with other numbers, as many
pub mid_laid : (d : List ℕ) (at size : ℕ) (bs : List ℕ) → length bs ≡ size → put_mid at size d bs ≡ splice d at bs
unfolding splice
mid_laid d at size bs e = rw (e, drop-drop)

-- A FILE'S PART. None if its keys rise, else a place for each record.
module _ (file : ℕ) (s : List ℕ) where
  pub part_none : is_rising (rank_of file) (records_in (fields_of file) s) ≡ true → length (part_of file s) ≡ 0
  unfolding part_of
  part_none t = rw t

  pub part_some : is_rising (rank_of file) (records_in (fields_of file) s) ≡ false → part_of file s ≡ starts_in_order file s
  unfolding part_of
  part_some t = rw t

  pub order_many : length (starts_in_order file s) ≡ length (records_in (fields_of file) s)
  unfolding starts_in_order
  order_many = order_size (key_rank file s) (starts (fields_of file) (rank_of file) s) ∙ starts_size 0 (records_in (fields_of file) s)

  pub part_many : is_rising (rank_of file) (records_in (fields_of file) s) ≡ false → length (part_of file s) ≡ length (records_in (fields_of file) s)
  part_many t = ap length (part_some t) ∙ order_many

  -- one that isn't empty
  pub part_there : 0 < length (part_of file s) → is_rising (rank_of file) (records_in (fields_of file) s) ≡ false
  part_there h =
      either (is_rising (rank_of file) (records_in (fields_of file) s))
      (λ t. absurd (omega (arith, part_none t)))
      (λ t. t)

  -- no more than bytes
  pub part_few : KeyFile file s → length (part_of file s) ≤ length s
  part_few k =
      either (is_rising (rank_of file) (records_in (fields_of file) s))
      (λ t. omega (arith, part_none t))
      (λ t. omega (arith, part_many t, count_left (fields_of file) s 0 k.legal, left_most (fields_of file) s 0 k.legal))

  -- laid from `at` on: with no part the list is kept
  pub part_kept : (d : List ℕ) (at : ℕ) → length (part_of file s) ≡ 0 → d ≡ splice d at (part_of file s)
  part_kept d at e = go (part_of file s) e
    where
      go : (bs : List ℕ) → length bs ≡ 0 → d ≡ splice d at bs
      go [] z = sym (splice_none d at)
      go (b ∷ bs) z = absurd (omega arith)

  -- else it comes back in the part of the list that was lent
  pub part_laid : (d : List ℕ) (at size : ℕ) → is_rising (rank_of file) (records_in (fields_of file) s) ≡ false → {bs : List ℕ} → bs ≡ starts_in_order file s
      → size ≡ length (part_of file s) → put_mid at size d bs ≡ splice d at (part_of file s)
  part_laid d at size t {bs} e z =
      let y : bs ≡ part_of file s = e ∙ sym (part_some t) in
      mid_laid d at size bs (ap length y ∙ sym z) ∙ ap (λ (x : List ℕ). splice d at x) y

-- THE PARTS OF SEVERAL FILES, up to file 10.
module _ (b : Batch) (file : ℕ) where
  pub parts_turn : file < 11 → parts_from b file (11 - file) ≡ part_of file (file_in b file) ++ parts_from b (file + 1) (11 - (file + 1))
  unfolding parts_from
  parts_turn h = let z : 11 - file ≡ suc (11 - (file + 1)) = omega arith in rw z

  pub parts_size : file < 11 → length (parts_from b file (11 - file)) ≡ length (part_of file (file_in b file)) + length (parts_from b (file + 1) (11 - (file + 1)))
  parts_size h = ap length (parts_turn h) ∙ length-append (part_of file (file_in b file)) (parts_from b (file + 1) (11 - (file + 1)))

  pub parts_done : 11 ≤ file → parts_from b file (11 - file) ≡ []
  unfolding parts_from
  parts_done h = let z : 11 - file ≡ 0 = omega arith in rw z

  -- a turn of the loop that counts them
  pub parts_counted : file < 11 → {s : List ℕ} → s ≡ file_in b file → {r : ℕ} → r ≡ length (part_of file s)
      → r + length (parts_from b (file + 1) (11 - (file + 1))) ≡ length (parts_from b file (11 - file))
  parts_counted h e z = let y = rw e at z in omega (arith, y, parts_size h)

  -- a turn of the loop that lays them
  module _ (d : List ℕ) (at : ℕ) where
    pub parts_laid : file < 11 → at + length (parts_from b file (11 - file)) ≤ length d → {s after : List ℕ} → s ≡ file_in b file
        → after ≡ splice d at (part_of file s) → {next : ℕ} → next ≡ at + length (part_of file s)
        → splice after next (parts_from b (file + 1) (11 - (file + 1))) ≡ splice d at (parts_from b file (11 - file))
    parts_laid h k e f z =
        rw (f, e, parts_turn h)
        (splice_then d at (part_of file (file_in b file)) (parts_from b (file + 1) (11 - (file + 1))) _ (rw e at z) (omega (arith, parts_size h, rw e at z)))

    pub parts_all : 11 ≤ file → {whole : List ℕ} → splice d at (parts_from b file (11 - file)) ≡ whole → d ≡ whole
    parts_all h e = sym (splice_none d at) ∙ rw (parts_done h) at e

-- the file that was chosen by its number
pub chosen : (b : Batch) (file : ℕ) (s : List ℕ) → KeyedFiles b → IsKeyed file → s ≡ file_in b file → KeyFile file s × (length s ≤ longest)
chosen b file s k i e = rw e (k file i)
