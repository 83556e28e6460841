-- The numbers of a key in the bytes of its record: each stands where its text starts, the quote behind it ends it, and the next one's text
-- starts three bytes behind its end. Then the key as the code holds it.
use mathlib.Core.Path.{◌≡◌, ap, ◌∙◌}
use mathlib.Core.Bool.{true}
use mathlib.Core.List.{List, [], ◌∷◌}
use Prim.Native.Nat.{ℕ, ◌+◌, ◌*◌, ◌≤◌, ◌<◌}
use native.Mathlib.Omega.{arith}
use lib.ListN.{length, get_or, drop}
use Rattle.file.specs.Files.{fields_of}
use Rattle.file.specs.Format.{Text, Fields}
use Rattle.field.specs.Values.{is_digits, value}
use Rattle.field.specs.Names.{field}
use Rattle.field.proofs.ValueLaws.{digits_are, digits_bound}
use Rattle.walk.proofs.StartLaws.{text_start, start_first}
use Rattle.walk.proofs.WalkLaws.{text_at, near_at}
use Rattle.keys.specs.Keys.{key_fields, numbers, none}
use Rattle.keys.specs.Ranks.{rank, rank_of, rank_key, KeyIs, KeyAt, record_at, digits_from, NumberIs}
use Rattle.keys.proofs.TableLaws.{keyed_one, keyed_fields, number_one, number_two, number_three}
use Rattle.keys.proofs.DigitLaws.{digits_text}

-- the digits of t stand at `start`, and behind them at least the three bytes that lead to the next text
pub record Here (s : List ℕ) (start : ℕ) (t : Text) : Type 0 where
  pub digits : digits_from (drop start s) ≡ t
  pub most : length t ≤ 9
  pub worth : value t < none
  pub room : start + length t + 3 < length s

-- so no more than nine digits are read, and their number and end are those of the text
pub here_most : (s : List ℕ) (start : ℕ) (t : Text) → Here s start t → length (digits_from (drop start s)) ≤ 9
here_most s start t h = rw h.digits h.most

pub here_worth : (s : List ℕ) (start : ℕ) (t : Text) (v end : ℕ) → Here s start t → NumberIs (digits_from (drop start s)) start v end → v ≡ value t
here_worth s start t v end h n = n.worth ∙ ap value h.digits

pub here_end : (s : List ℕ) (start : ℕ) (t : Text) (v end : ℕ) → Here s start t → NumberIs (digits_from (drop start s)) start v end
    → end ≡ start + length t
here_end s start t v end h n = n.place ∙ ap (λ (x : Text). start + length x) h.digits

module _ (file : ℕ) (s : List ℕ) (at : ℕ) (h : KeyAt file s at) where
  abbrev r : Fields
  r = record_at file s at

  -- text i, if it is a number
  text_number : (i : ℕ) → i < 3 → is_digits 1 9 (get_or r i []) ≡ true → (start : ℕ) → start ≡ text_start at r i → Here s start (get_or r i [])
  text_number i l e start z =
      let t = text_at (fields_of file) s at h.here i (omega (arith, (keyed_fields file h.keyed).0)) in
      let d = digits_are 1 9 (get_or r i []) e in
      record {
        digits = rw (z, t.closed) (digits_text (get_or r i []) t.more d.digits);
        most = d.most;
        worth = digits_bound 1 9 (get_or r i []) e;
        room = omega (arith, t.size, near_at (fields_of file) s at h.here (i + 1));
      }

  -- the start of the text behind it
  next_start : (i : ℕ) → i < 3 → (start : ℕ) → start ≡ text_start at r i → start + length (get_or r i []) + 3 ≡ text_start at r (i + 1)
  next_start i l start z =
      let t = text_at (fields_of file) s at h.here i (omega (arith, (keyed_fields file h.keyed).0)) in
      omega (arith, t.size)

  -- the first number stands behind the record's first quote
  pub first_here : Here s (at + 1) (get_or r 0 [])
  first_here = text_number 0 (omega arith) (number_one file r h.keyed h.numbers) (at + 1) (start_first at r)

  -- what was read there
  module _ (v end : ℕ) (one : NumberIs (digits_from (drop (at + 1) s)) (at + 1) v end) where
    pub first_worth : v ≡ value (field 1 r)
    first_worth = here_worth s (at + 1) (get_or r 0 []) v end first_here one

    pub first_small : v < none
    first_small = omega (arith, first_worth, first_here.worth)

    pub first_room : end + 3 < length s
    first_room = omega (arith, here_end s (at + 1) (get_or r 0 []) v end first_here one, first_here.room)

    -- a key of one number
    pub key_one : file < 6 → KeyIs (rank_of file r) (record { hi = v; lo = 0 })
    unfolding rank_key rank numbers
    key_one l = record { rank = rw (keyed_one file h.keyed.0 l, first_worth) (omega arith); low = omega arith }

    second_start : end + 3 ≡ text_start at r 1
    second_start = omega (arith, here_end s (at + 1) (get_or r 0 []) v end first_here one, next_start 0 (omega arith) (at + 1) (start_first at r))

    -- the second number stands behind the first
    module _ (more : 6 ≤ file) where
      pub second_here : Here s (end + 3) (get_or r 1 [])
      second_here = text_number 1 (omega arith) (number_two file r more h.keyed.1 h.numbers) (end + 3) second_start

      module _ (w stop : ℕ) (two : NumberIs (digits_from (drop (end + 3) s)) (end + 3) w stop) where
        pub second_worth : w ≡ value (field 2 r)
        second_worth = here_worth s (end + 3) (get_or r 1 []) w stop second_here two

        pub second_small : w < none
        second_small = omega (arith, second_worth, second_here.worth)

        pub second_room : stop + 3 < length s
        second_room = omega (arith, here_end s (end + 3) (get_or r 1 []) w stop second_here two, second_here.room)

        -- a key of two numbers
        pub key_two : key_fields file ≡ 1 ∷ 2 ∷ [] → KeyIs (rank_of file r) (record { hi = v * 1000000000 + w; lo = 0 })
        unfolding rank_key rank numbers
        key_two e = record { rank = rw (e, first_worth, second_worth) (omega arith); low = omega arith }

        third_start : stop + 3 ≡ text_start at r 2
        third_start = omega (arith, here_end s (end + 3) (get_or r 1 []) w stop second_here two, next_start 1 (omega arith) (end + 3) second_start)

        -- the third number stands behind the second
        module _ (all : key_fields file ≡ 1 ∷ 2 ∷ 3 ∷ []) where
          pub third_here : Here s (stop + 3) (get_or r 2 [])
          third_here = text_number 2 (omega arith) (number_three file r all h.numbers) (stop + 3) third_start

          module _ (x last : ℕ) (three : NumberIs (digits_from (drop (stop + 3) s)) (stop + 3) x last) where
            third_worth : x ≡ value (field 3 r)
            third_worth = here_worth s (stop + 3) (get_or r 2 []) x last third_here three

            -- a key of three numbers
            pub key_three : KeyIs (rank_of file r) (record { hi = v * 1000000000 + w; lo = x })
            unfolding rank_key rank numbers
            key_three =
                record {
                  rank = rw (all, first_worth, second_worth, third_worth) (omega arith);
                  low = omega (arith, third_worth, third_here.worth);
                }
