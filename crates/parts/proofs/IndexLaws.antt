-- What the maker of the hint makes is what the calls that take one look for. The places where a file's records start are all different, and in order of key and
-- place each goes behind the one before: as many as records, so they are an index. The parts stand one behind the other, so each begins where those
-- before it end.
use mathlib.Core.Path.{◌≡◌, sym, ◌∙◌}
use mathlib.Core.Logic.{◌⊎◌, inl, inr}
use mathlib.Core.List.{List, [], ◌∷◌, ◌++◌, append_assoc}
use Prim.Native.Nat.{ℕ, zero, suc, ◌+◌, ◌-◌, ◌*◌, ◌^◌, ◌≤◌, ◌<◌}
use native.Mathlib.Omega.{arith}
use borrow.Author.Tests.{eqb-true, eqb-false}
use lib.Dec.{eqb}
use lib.ListN.{length, get_or, take, drop}
use lib.Seq.{take-append_seam, drop-append_seam}
use Rattle.laws.specs.Tests.{either}
use Rattle.file.specs.Files.{fields_of, longest}
use Rattle.file.specs.Format.{Fields, written_record, Permitted}
use Rattle.file.specs.Records.{records_in}
use Rattle.lines.specs.Index.{starts_from, starts, Good}
use Rattle.lines.specs.Order.{is_rising}
use Rattle.lines.proofs.LineLaws.{all_permitted, record_size}
use Rattle.lines.proofs.OrderLaws.{is_rising_lem}
use Rattle.lines.proofs.IndexLaws.{start_at, index_is}
use Rattle.keys.specs.KeyFiles.{KeyFile, KeysRise, IsIndex}
use Rattle.keys.specs.Ranks.{IsKeyed, rank_of}
use Rattle.thirteen.specs.Batch.{Batch, file_in, records_of}
use Rattle.ranked.proofs.RankedLaws.{said}
use Rattle.ranked.proofs.SortedLaws.{order_each, order_sorted, order_apart}
use Rattle.placed.specs.Places.{key_rank, Starts}
use Rattle.parts.specs.Keyed.{KeyedFiles}
use Rattle.parts.specs.Parts.{starts_in_order, part_of, parts_from, hint_of}
use Rattle.parts.proofs.PartLaws.{starts_places, order_many, part_some, part_many, parts_turn}

-- ONE FILE. No record starts before the first of those left, and each starts behind the one before.
starts_later : (at : ℕ) (rs : List Fields) (i : ℕ) → i < length (starts_from at rs) → at ≤ get_or (starts_from at rs) i 0
unfolding starts_from
starts_later at [] i h = absurd (omega arith)
starts_later at (r ∷ rs) zero h = omega arith
starts_later at (r ∷ rs) (suc i) h = omega (arith, starts_later (at + length (written_record r)) rs i (omega arith))

starts_rise : (n : ℕ) → 1 ≤ n → (at : ℕ) (rs : List Fields) → Permitted n rs → (i j : ℕ) → i < j → j < length (starts_from at rs)
    → get_or (starts_from at rs) i 0 < get_or (starts_from at rs) j 0
unfolding starts_from Permitted
starts_rise n some at [] p i j h k = absurd (omega arith)
starts_rise n some at (r ∷ rs) p zero zero h k = absurd (omega arith)
starts_rise n some at (r ∷ rs) p zero (suc j) h k =
    omega (arith, record_size n r some p.0, starts_later (at + length (written_record r)) rs j (omega arith))
starts_rise n some at (r ∷ rs) p (suc i) zero h k = absurd (omega arith)
starts_rise n some at (r ∷ rs) p (suc i) (suc j) h k = starts_rise n some (at + length (written_record r)) rs p.1 i j (omega arith) (omega arith)

-- two different places in order, of ranks a and b: the second goes behind the first
goes_on : (a b x y : ℕ) → x < 2 ^ 32 → a ≤ b → (a ≡ b → x ≤ y) → (x ≡ y → ⊥) → a * 2 ^ 32 + x < b * 2 ^ 32 + y
goes_on a b x y small up same apart =
    either (eqb a b)
    (λ t. let e = eqb-true a b t in omega (arith, same e))
    (λ t. let n = eqb-false a b t in omega arith)

module _ (file : ℕ) (s : List ℕ) (k : KeyFile file s) (long : length s ≤ longest) where
  abbrev places : List ℕ
  places = starts (fields_of file) (rank_of file) s

  good : (i : ℕ) → i < length (starts_in_order file s) → Good (fields_of file) (rank_of file) s (starts_in_order file s) i
  unfolding starts_in_order
  good i h =
      let order = starts_in_order file s in
      let at = order_each (key_rank file s) (Starts file s) places (starts_places file s k) in
      let some = k.legal.reads.some in
      let rise = starts_rise (fields_of file) some 0 (records_in (fields_of file) s) (all_permitted (fields_of file) s some) in
      record {
        start = start_at (fields_of file) (rank_of file) s (get_or order i 0) (at i h).0 (at i h).1 (omega (arith, (at i h).1));
        above = λ j e.
            let w = said (key_rank file s) (get_or order j 0) (get_or order i 0) (order_sorted (key_rank file s) places j i (omega arith) h) in
            goes_on (key_rank file s (get_or order j 0)) (key_rank file s (get_or order i 0)) (get_or order j 0) (get_or order i 0)
            (omega (arith, (at j (omega arith)).1)) w.0 w.1
            (order_apart (key_rank file s) places (λ a b l m d. omega (arith, rise a b l m)) j i (omega arith) h);
      }

-- where its records start, in order of key and place, is an index of a file
pub order_index : (file : ℕ) (s : List ℕ) → KeyFile file s → length s ≤ longest → IsIndex file s (starts_in_order file s)
order_index file s k long = index_is (fields_of file) (rank_of file) s (starts_in_order file s) (order_many file s) (good file s k long)

-- ALL FILES. Parts of several files are those of the first, and those of the rest.
parts_join : (b : Batch) (file m n : ℕ) → parts_from b file (m + n) ≡ parts_from b file m ++ parts_from b (file + m) n
unfolding parts_from
parts_join b file zero n = let e : 0 + n ≡ n = omega arith in let f : file + 0 ≡ file = omega arith in rw (e, f)
parts_join b file (suc m) n =
    let e : suc m + n ≡ suc (m + n) = omega arith in
    let f : file + suc m ≡ file + 1 + m = omega arith in
    rw (e, f, parts_join b (file + 1) m n) (sym (append_assoc (part_of file (file_in b file)) (parts_from b (file + 1) m) (parts_from b (file + 1 + m) n)))

-- where a file's part begins: behind those of the files before it
abbrev pub part_start : Batch → ℕ → ℕ
part_start b file = length (parts_from b 2 (file - 2))

module _ (b : Batch) (file : ℕ) (f : IsKeyed file) (rest : List ℕ) where
  -- there stands its part, whatever follows the hint
  pub hint_part : take (length (part_of file (file_in b file))) (drop (part_start b file) (hint_of b ++ rest)) ≡ part_of file (file_in b file)
  hint_part =
      let part = part_of file (file_in b file) in
      let past = parts_from b 2 (file - 2) in
      let more = parts_from b (file + 1) (11 - (file + 1)) in
      let c : file - 2 + (11 - file) ≡ 9 = omega (arith, f.0, f.1) in
      let d : 2 + (file - 2) ≡ file = omega (arith, f.0) in
      let whole : hint_of b ≡ past ++ (part ++ more) =
      rw (c, d, parts_turn b file (omega (arith, f.1))) at (parts_join b 2 (file - 2) (11 - file)) in
      rw (whole, append_assoc past (part ++ more) rest, drop-append_seam past (part ++ more ++ rest), append_assoc part more rest, take-append_seam part (more ++ rest))

-- each keyed file has keys that rise, or else as many entries as it has records, from there on, are an index of it
pub hint_serves : (b : Batch) → KeyedFiles b → (file : ℕ) → IsKeyed file → (rest : List ℕ)
    → KeysRise file (file_in b file) ⊎ IsIndex file (file_in b file) (take (length (records_of b file)) (drop (part_start b file) (hint_of b ++ rest)))
hint_serves b k file f rest =
    either (is_rising (rank_of file) (records_of b file))
    (λ t. inl (is_rising_lem (rank_of file) (records_of b file) t))
    (λ t.
    let s = file_in b file in
    let e = rw (part_many file s t) at (hint_part b file f rest) in
    inr (rw (e ∙ part_some file s t) (order_index file s (k file f).0 (k file f).1)))
