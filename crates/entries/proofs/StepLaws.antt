-- A step from one of a trip's records to the one beside it in key order: where keys rise the line behind it or before it, in an index whose keys
-- are all different the neighbouring entry.
use Rattle.std.specs.Prelude.{None, Some}
use mathlib.Core.Path.{◌≡◌, refl, sym, ap, subst, ◌∙◌}
use mathlib.Core.Bool.{true}
use mathlib.Core.List.{List, [], ◌∷◌, ◌++◌}
use Prim.Native.Nat.{ℕ, ◌+◌, ◌*◌, ◌-◌, ◌≤◌, ◌<◌}
use native.Mathlib.Omega.{arith}
use lib.Dec.{eqb, ltb}
use lib.ListN.{length, get_or}
use borrow.Author.Tests.{eq-eqb, lt-ltb, ltb-true, ltb-false}
use Rattle.laws.specs.Tests.{either, clash}
use Rattle.file.specs.Files.{fields_of}
use Rattle.file.specs.Format.{Fields, written_record, written}
use Rattle.file.specs.Records.{records_in}
use Rattle.lines.specs.Lines.{behind}
use Rattle.lines.specs.Order.{first_ranked, first_from, Above, Rising}
use Rattle.lines.proofs.LineLaws.{size_cons, next_line, next_at}
use Rattle.lines.proofs.OrderLaws.{hit_anywhere, from_hit, from_end, place_rising, back_hit}
use Rattle.lines.proofs.IndexLaws.{ranks_rise, places_rise}
use Rattle.keys.specs.Keys.{key_fields, key_of, none, of_trip, third, first_with, next_of}
use Rattle.keys.specs.Ranks.{rank, rank_of, rank_key, KeyIs, record_at}
use Rattle.keys.specs.KeyFiles.{KeyFile, KeysRise, PlaceIn, IsIndex, records_from, entry_rank}
use Rattle.keys.specs.declared.Key.{Key}
use Rattle.keys.proofs.KeyLaws.{trip_of_lem, third_small, key_size}
use Rattle.keys.proofs.KeyFileLaws.{key_here, here_small, keys_past, has_rank_lem, first_with_lem}
use Rattle.ordered.proofs.OrderedLaws.{there_found, there_passed}
use Rattle.seek.specs.Seek.{Lower}
use Rattle.seek.proofs.SeekLaws.{lower_hit, entry_place}
use Rattle.find.specs.Find.{trip_at}
use Rattle.find.proofs.FindLaws.{small_three}
use Rattle.find.proofs.TripLaws.{three_fields, trip_end, rising_leads, index_leads, index_leads_none, leads_next}
use Rattle.lookup.specs.Ways.{NoneUsed}
use Rattle.previous.specs.Previous.{previous_number, previous_of}
use Rattle.previous.specs.Steps.{LineBefore, number_at}
use Rattle.previous.proofs.PreviousLaws.{Trails, previous_nothing, previous_found, rising_trails, rising_first, index_trails, index_first, number_none, trails_number}

-- a record with a rank: the first that has it is no later
first_by : (file x at : ℕ) (a : List Fields) (r : Fields) (rs : List Fields) → rank_of file r ≡ x
    → (p : ℕ) × (first_ranked (rank_of file) x at (a ++ r ∷ rs) ≡ Some p) × (p ≤ at + length (written a))
unfolding first_ranked written
first_by file x at [] r rs e = (at, rw (eq-eqb (rank_of file r) x e), omega arith)
first_by file x at (q ∷ a) r rs e =
    let w = first_by file x (at + length (written_record q)) a r rs e in
    either (eqb (rank_of file q) x)
    (λ t. (at, rw t, omega arith))
    (λ t. (w.0, rw t w.1, omega (arith, w.2, size_cons q a)))

module _ (file line trip : ℕ) (s : List ℕ) (f : KeyFile file s) (count : length (key_fields file) ≡ 3) (a : line < none) (b : trip < none) where
  abbrev rs : List Fields
  rs = records_in (fields_of file) s

  abbrev base : ℕ
  base = (line * none + trip) * none

  -- the rank of one of the trip's records
  rank_here : (at : ℕ) → of_trip file line trip (record_at file s at) ≡ true
      → rank_of file (record_at file s at) ≡ base + third file (record_at file s at)
  rank_here at m = trip_of_lem file line trip (record_at file s at) (three_fields file f.keyed count) m

  -- the record with the greatest rank below the trip's y, the first with its rank, is the last below y if it is the trip's; else there is none
  trails_trip : (y q : ℕ) → y ≤ none → Trails file s (base + y) q → first_ranked (rank_of file) (rank_of file (record_at file s q)) 0 rs ≡ Some q
      → trip_at file line trip s q ≡ previous_of file line trip y rs
  unfolding trip_at number_at rank
  trails_trip y q c t hit =
      let r = record_at file s q in
      let z = third file r in
      let n = trails_number file line trip y s f count q b c t in
      let l = lt-ltb q (length s) t.within in
      either (of_trip file line trip r)
      (λ o.
      let v : z + 1 ≡ previous_number file line trip y rs = rw o at n in
      let u = third_small file r (key_here file s q f t.place t.within).numbers in
      let w : z + 1 - 1 ≡ z = omega arith in
      let k = previous_found file line trip y rs (z + 1) v (λ e. omega arith) in
      let g : first_with file (line ∷ trip ∷ z ∷ []) 0 rs ≡ Some q =
      first_with_lem file (line ∷ trip ∷ z ∷ []) f.keyed (small_three line trip z a b u) (sym count) 0 rs f.keys
      ∙ ap (λ (i : ℕ). first_ranked (rank_of file) i 0 rs) (sym (rank_here q o)) ∙ hit in
      rw (l, o) (sym (rw w at k ∙ g)))
      (λ o.
      let v : 0 ≡ previous_number file line trip y rs = rw o at n in
      rw (l, o) (previous_nothing file line trip y rs 0 v refl))

  -- WHERE KEYS RISE.
  module _ (up : KeysRise file s) (at : ℕ) (p : PlaceIn file s at) (h : at < length s) (m : of_trip file line trip (record_at file s at) ≡ true) where
    abbrev y : ℕ
    y = third file (record_at file s at)

    -- its key, as the code would hold it
    abbrev key : Key
    key = record { hi = line * none + trip; lo = y }

    key_is : KeyIs (rank_of file (record_at file s at)) key
    unfolding rank_key
    key_is = record { rank = sym (rank_here at m); low = third_small file (record_at file s at) (key_here file s at f p h).numbers }

    -- the next record has a greater rank
    climbs : (next : ℕ) → next ≡ behind s at → next < length s → rank_of file (record_at file s at) < rank_of file (record_at file s next)
    unfolding Rising Above
    climbs next e l =
        let n = fields_of file in
        let w = next_line n s at p h next e in
        let v = (next_at n s next w.place l).rest in
        let t = subst (λ (z : List Fields). Rising (rank_of file) z) (w.rest ∙ ap (λ (z : List Fields). record_at file s at ∷ z) v) (place_rising n (rank_of file) s at up p) in
        t.0.0

    -- upward it is the line behind
    pub line_up : (next : ℕ) → next ≡ behind s at → trip_at file line trip s next ≡ next_of file line trip (y + 1) rs
    unfolding rank_key
    line_up next e =
        let n = fields_of file in
        let x = base + (y + 1) in
        let g = there_passed file s x at up p h key key_is next e (omega arith) in
        let z : next ≡ first_from (rank_of file) x 0 rs =
        either (ltb next (length s))
        (λ t.
        let l = ltb-true next (length s) t in
        sym (from_hit n (rank_of file) s next x g.place l (omega (arith, climbs next e l, rank_here at m))) ∙ g.same)
        (λ t. sym (from_end n (rank_of file) s next x (ltb-false next (length s) t)) ∙ g.same) in
        leads_next file line trip (y + 1) s next f count a b (rising_leads file s x next f up z)

    found_here : at ≡ first_from (rank_of file) (base + y) 0 rs
    unfolding rank_key
    found_here = there_found file s (base + y) at up p h key key_is refl

    -- downward the line before, or none
    pub line_down : (q : ℕ) → LineBefore s at q → trip_at file line trip s q ≡ previous_of file line trip y rs
    line_down q l =
        let t = rising_trails file (base + y) s at f up found_here q l in
        let u = third_small file (record_at file s at) (key_here file s at f p h).numbers in
        trails_trip y q (omega arith) t (hit_anywhere (fields_of file) (rank_of file) s q (rank_of file (record_at file s q)) up t.place t.within refl)

    pub line_first : at ≡ 0 → None ≡ previous_of file line trip y rs
    line_first z =
        previous_nothing file line trip y rs 0 (number_none file line trip y s f count (rising_first file (base + y) s at f up found_here z)) refl

  -- BY AN INDEX.
  module _ (order : List ℕ) (index : IsIndex file s order) where
    -- the first entry from the trip's x on is the next record
    pub entry_next : (x i : ℕ) → Lower file s order (base + x) i → i < length order → trip_at file line trip s (get_or order i 0) ≡ next_of file line trip x rs
    entry_next x i l h = leads_next file line trip x s (get_or order i 0) f count a b (index_leads file s order (base + x) i f index l h)

    pub entry_none : (x i : ℕ) → Lower file s order (base + x) i → length order ≤ i → None ≡ next_of file line trip x rs
    entry_none x i l h =
        sym (trip_end file line trip s (length s) (omega arith))
        ∙ leads_next file line trip x s (length s) f count a b (index_leads_none file s order (base + x) i f index l h)

    pub entry_first : (x i : ℕ) → Lower file s order (base + x) i → i ≡ 0 → None ≡ previous_of file line trip x rs
    entry_first x i l z =
        previous_nothing file line trip x rs 0 (number_none file line trip x s f count (index_first file s order (base + x) i f index l z)) refl

    -- no two records have one key: so the ranks of the entries rise
    module _ (used : NoneUsed file s) where
      entries_apart : (i j : ℕ) → i < j → j < length order → entry_rank file s order i < entry_rank file s order j
      entries_apart i j h l =
          let n = fields_of file in
          let x = entry_rank file s order j in
          let c = entry_place file s order index i (omega arith) in
          let d = entry_place file s order index j l in
          let le = ranks_rise n (rank_of file) s order index i j h l in
          either (ltb (entry_rank file s order i) x)
          (λ t. ltb-true (entry_rank file s order i) x t)
          (λ t.
          let same : entry_rank file s order i ≡ x = omega (arith, le, ltb-false (entry_rank file s order i) x t) in
          let r = record_at file s (get_or order i 0) in
          let q = record_at file s (get_or order j 0) in
          let e : rs ≡ c.0.past ++ (r ∷ records_from file s (behind s (get_or order i 0))) =
          c.0.whole ∙ ap (λ (z : List Fields). c.0.past ++ z) (next_at n s (get_or order i 0) c.0 c.1).rest in
          let w = first_by file x 0 c.0.past r (records_from file s (behind s (get_or order i 0))) same in
          let less = places_rise n (rank_of file) s order index i j h l same in
          let hit = back_hit n (rank_of file) s (get_or order j 0) x w.0 d.0 (ap (first_ranked (rank_of file) x 0) e ∙ w.1) (omega (arith, w.2, c.0.size, less)) in
          let miss = sym (has_rank_lem file (key_of file q) f.keyed (here_small file s (get_or order j 0) (key_here file s (get_or order j 0) f d.0 d.1)) (key_size file q)
          d.0.past (keys_past file s (get_or order j 0) f d.0)) ∙ used (get_or order j 0) d.0 d.1 in
          clash hit miss)

      -- the entry before the first from the trip's x on is the last record below x
      pub entry_previous : (x i : ℕ) → x ≤ none → Lower file s order (base + x) i → 0 < i
          → trip_at file line trip s (get_or order (i - 1) 0) ≡ previous_of file line trip x rs
      entry_previous x i c l h =
          let near = l.near in
          let t = index_trails file s order (base + x) i f index l h in
          trails_trip x (get_or order (i - 1) 0) c t
          (lower_hit file s order index f (entry_rank file s order (i - 1)) (i - 1)
          (record { near = omega arith; below = λ j g. entries_apart j (i - 1) g (omega arith); «from» = λ _. omega arith })
          (omega arith) refl)

      -- what the entry of one of the trip's records says of those behind it and before it
      module _ (i : ℕ) (h : i < length order) (m : of_trip file line trip (record_at file s (get_or order i 0)) ≡ true) where
        pub lower_up : Lower file s order (base + (third file (record_at file s (get_or order i 0)) + 1)) (i + 1)
        lower_up =
            let e = rank_here (get_or order i 0) m in
            record {
              near = omega arith;
              below = λ j g.
                  either (ltb j i)
                  (λ t. omega (arith, e, entries_apart j i (ltb-true j i t) h))
                  (λ t. let z : j ≡ i = omega (arith, g, ltb-false j i t) in rw z (omega (arith, e)));
              «from» = λ g. omega (arith, e, entries_apart i (i + 1) (omega arith) g);
            }

        pub lower_down : Lower file s order (base + third file (record_at file s (get_or order i 0))) i
        lower_down =
            let e = rank_here (get_or order i 0) m in
            record {
              near = omega arith;
              below = λ j g. omega (arith, e, entries_apart j i g h);
              «from» = λ _. omega (arith, e);
            }
