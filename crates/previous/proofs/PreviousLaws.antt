-- The record of a trip that is the one before some number in key order: the greatest third number as a pass over the records finds it, and
-- as the record with the greatest rank below some rank shows it.
use Rattle.std.specs.Prelude.{None, Some}
use mathlib.Core.Path.{◌≡◌, refl, sym, ap, ◌∙◌}
use mathlib.Core.Bool.{true, false}
use mathlib.Core.List.{List, [], ◌∷◌, ◌++◌}
use Prim.Native.Nat.{ℕ, min, ◌+◌, ◌*◌, ◌-◌, ◌≤◌, ◌<◌}
use native.Mathlib.Omega.{arith}
use lib.Dec.{eqb, ltb, leb}
use lib.ListN.{length, get_or}
use borrow.Author.Tests.{eq-eqb, ne_eqb, eqb-true, eqb-false, lt-ltb, ltb-true, ltb-false, leb-true, leb-false}
use Rattle.laws.specs.Tests.{pick, both, either, clash, both_left, both_right}
use Rattle.file.specs.Files.{fields_of}
use Rattle.file.specs.Format.{Fields, written_record, written}
use Rattle.file.specs.Records.{records_in}
use Rattle.walk.proofs.WalkLaws.{none_left}
use Rattle.lines.specs.Lines.{behind}
use Rattle.lines.specs.Order.{first_ranked, first_from, Above, Rising}
use Rattle.lines.proofs.LineLaws.{size_cons, place_start, next_line, next_at}
use Rattle.lines.proofs.OrderLaws.{hit_anywhere, from_place, from_rank, place_rising}
use Rattle.lines.proofs.IndexLaws.{place_known, ranks_rise}
use Rattle.keys.specs.Keys.{key_fields, none, of_trip, third, first_with}
use Rattle.keys.specs.Ranks.{AllKeyed, rank, rank_of, Numbers, KeyIs, record_at}
use Rattle.keys.specs.KeyFiles.{KeyFile, KeysRise, PlaceIn, IsIndex, records_from, entry_rank}
use Rattle.keys.specs.declared.Key.{Key}
use Rattle.keys.proofs.KeyLaws.{trip_of_lem, of_trip_lem, third_small, keyed_head, keyed_rest}
use Rattle.keys.proofs.KeyFileLaws.{key_here, first_with_lem}
use Rattle.seek.specs.Seek.{Lower}
use Rattle.seek.proofs.SeekLaws.{entry_place}
use Rattle.find.proofs.FindLaws.{small_three}
use Rattle.find.proofs.TripLaws.{three_fields, key_of_trip, key_not_of_trip, key_third, From, from_places, above_from}
use Rattle.previous.specs.Previous.{greater, previous_number, previous_of}
use Rattle.previous.specs.Steps.{LineBefore, number_at, with_number}
use Rattle.previous.proofs.LineBackLaws.{before_place}

-- the greater of two numbers, as a sum
pub greater_is : (a b : ℕ) → greater a b ≡ a + (b - a)
greater_is a b =
    either (leb a b)
    (λ t. rw t (omega (arith, leb-true a b t)))
    (λ t. rw t (omega (arith, leb-false a b t)))

-- the greatest of three
greater_swap : (t a b : ℕ) → greater (greater t a) b ≡ greater a (greater t b)
greater_swap t a b =
    let p = greater_is t a in
    let q = greater_is t b in
    omega (arith, p, q, greater_is (greater t a) b, greater_is a (greater t b))

-- The pass over the records.
module _ (file line trip x : ℕ) where
  -- no number is above x
  pub previous_most : (rs : List Fields) → previous_number file line trip x rs ≤ x
  unfolding previous_number
  previous_most [] = omega arith
  previous_most (r ∷ rs) =
      let n = previous_number file line trip x rs in
      let o = of_trip file line trip r in
      let g = ltb (third file r) x in
      either (both o g)
      (λ t. rw t (omega (arith, greater_is (third file r + 1) n, previous_most rs, ltb-true (third file r) x (both_right o g t))))
      (λ t. rw t (previous_most rs))

  -- one record more
  previous_turn : (r : Fields) (rs : List Fields) (most : ℕ)
      → greater (pick (both (of_trip file line trip r) (ltb (third file r) x)) (greater (third file r + 1) most) most) (previous_number file line trip x rs)
      ≡ greater most (previous_number file line trip x (r ∷ rs))
  unfolding previous_number
  previous_turn r rs most =
      either (both (of_trip file line trip r) (ltb (third file r) x))
      (λ t. rw t (greater_swap (third file r + 1) most (previous_number file line trip x rs)))
      (λ t. rw t)

  -- what a pass knows when it comes to `at`: the greater of `most` and the number from there on is that of all
  pub record Passing (s : List ℕ) (most at : ℕ) : Type 0 where
    pub place : PlaceIn file s at
    pub same : greater most (previous_number file line trip x (records_from file s at)) ≡ previous_number file line trip x (records_in (fields_of file) s)

  pub pass_start : (s : List ℕ) → KeyFile file s → Passing s 0 0
  pass_start s f = record {
    place = place_start (fields_of file) s f.legal;
    same = omega (arith, greater_is 0 (previous_number file line trip x (records_in (fields_of file) s)));
  }

  -- the test of a key is that of its record
  key_test : key_fields file ≡ 1 ∷ 2 ∷ 3 ∷ [] → trip < none → (r : Fields) → Numbers (key_fields file) r → (k : Key) → KeyIs (rank_of file r) k
      → (most : ℕ) → pick (both (eqb k.hi (line * none + trip)) (ltb k.lo x)) (greater (k.lo + 1) most) most
      ≡ pick (both (of_trip file line trip r) (ltb (third file r) x)) (greater (third file r + 1) most) most
  key_test three small r n k i most =
      either (eqb k.hi (line * none + trip))
      (λ t.
      let o = key_of_trip file line trip three small r n k i (eqb-true k.hi (line * none + trip) t) in
      rw (t, o, key_third file line trip three small r n k i o))
      (λ t. rw (t, key_not_of_trip file line trip three small r n k i (eqb-false k.hi (line * none + trip) t)))

  -- behind a record
  pub pass_next : (s : List ℕ) (most at : ℕ) → Passing s most at → KeyFile file s → length (key_fields file) ≡ 3 → trip < none → at < length s
      → (k : Key) → KeyIs (rank_of file (record_at file s at)) k → (nearer : ℕ)
      → nearer ≡ pick (both (eqb k.hi (line * none + trip)) (ltb k.lo x)) (greater (k.lo + 1) most) most
      → (next : ℕ) → next ≡ behind s at → Passing s nearer next
  pass_next s most at p f c h l k i nearer e next z =
      let r = record_at file s at in
      let w = next_line (fields_of file) s at p.place l next z in
      let d = e ∙ key_test (three_fields file f.keyed c) h r (key_here file s at f p.place l).numbers k i most in
      record {
        place = w.place;
        same = ap (λ (y : ℕ). greater y (previous_number file line trip x (records_from file s next))) d
            ∙ previous_turn r (records_from file s next) most ∙ ap (λ (rs : List Fields). greater most (previous_number file line trip x rs)) (sym w.rest) ∙ p.same;
      }

  -- at the end
  pub pass_end : (s : List ℕ) (most at : ℕ) → Passing s most at → length s ≤ at → most ≡ previous_number file line trip x (records_in (fields_of file) s)
  unfolding previous_number
  pass_end s most at p h =
      let e = none_left (fields_of file) s at h in
      let g : previous_number file line trip x (records_from file s at) ≡ 0 = rw e in
      let z : most ≡ greater most 0 = omega (arith, greater_is most 0) in
      z ∙ ap (greater most) (sym g) ∙ p.same

  -- the record by the number
  pub by_number : (rs : List Fields) (y : ℕ) → y ≡ previous_number file line trip x rs → with_number file line trip y rs ≡ previous_of file line trip x rs
  unfolding previous_of with_number
  by_number rs y e = rw e

  pub previous_nothing : (rs : List Fields) (y : ℕ) → y ≡ previous_number file line trip x rs → y ≡ 0 → None ≡ previous_of file line trip x rs
  unfolding previous_of
  previous_nothing rs y e z = rw (eq-eqb (previous_number file line trip x rs) 0 (sym e ∙ z))

  pub previous_found : (rs : List Fields) (y : ℕ) → y ≡ previous_number file line trip x rs → (y ≡ 0 → ⊥)
      → previous_of file line trip x rs ≡ first_with file (line ∷ trip ∷ (y - 1) ∷ []) 0 rs
  unfolding previous_of
  previous_found rs y e h = rw (ne_eqb (previous_number file line trip x rs) 0 (λ z. h (e ∙ z)), ← e)

  -- no number has ten digits
  number_beyond : (rs : List Fields) → AllKeyed file rs → none ≤ x → previous_number file line trip none rs ≡ previous_number file line trip x rs
  unfolding previous_number
  number_beyond [] a h = refl
  number_beyond (r ∷ rs) a h =
      let t = third_small file r (keyed_head file r rs a) in
      rw (lt-ltb (third file r) none t, lt-ltb (third file r) x (omega arith), number_beyond rs (keyed_rest file r rs a) h)

  pub previous_beyond : (rs : List Fields) → AllKeyed file rs → none ≤ x → previous_of file line trip none rs ≡ previous_of file line trip x rs
  unfolding previous_of
  previous_beyond rs a h = rw (number_beyond rs a h)

  -- so it is the same to ask for the lesser of x and ten digits
  pub previous_capped : (rs : List Fields) → AllKeyed file rs → (y : ℕ) → y ≡ min x none → previous_of file line trip y rs ≡ previous_of file line trip x rs
  previous_capped rs a y e =
      either (leb none x)
      (λ t. let d : y ≡ none = omega (arith, leb-true none x t) in rw d (previous_beyond rs a (leb-true none x t)))
      (λ t. let d : y ≡ x = omega (arith, leb-false none x t) in rw d)

-- the record by its number: none, or the first with the key
module _ (file line trip : ℕ) (rs : List Fields) (y : ℕ) where
  pub with_none : y ≡ 0 → with_number file line trip y rs ≡ None
  unfolding with_number
  with_none e = rw (eq-eqb y 0 e)

  pub with_some : (y ≡ 0 → ⊥) → with_number file line trip y rs ≡ first_with file (line ∷ trip ∷ (y - 1) ∷ []) 0 rs
  unfolding with_number
  with_some e = rw (ne_eqb y 0 e)

-- The record with the greatest rank below some rank: every rank from just above its own on is from x on.
pub record Trails (file : ℕ) (s : List ℕ) (x p : ℕ) : Type 0 where
  pub place : PlaceIn file s p
  pub within : p < length s
  pub rank : rank_of file (record_at file s p) < x
  pub most : (m : ℕ) → rank_of file (record_at file s p) < m → From file m x (records_in (fields_of file) s)

-- Where keys rise.
module _ (file x : ℕ) where
  -- a first rank from x on: so are all
  rest_from : (m : ℕ) (r : Fields) (rs : List Fields) → x ≤ rank_of file r → Rising (rank_of file) (r ∷ rs) → From file m x (r ∷ rs)
  unfolding From Rising
  rest_from m r rs h up = (λ _. h, above_from file m x (rank_of file r) rs h up.0)

  above_one : (k : ℕ) (a : List Fields) (r : Fields) (rs : List Fields) → Above (rank_of file) k (a ++ r ∷ rs) → k < rank_of file r
  unfolding Above
  above_one k [] r rs h = h.0
  above_one k (q ∷ a) r rs h = above_one k a r rs h.1

  -- a rank below m: so are all before it
  past_from : (m : ℕ) (a : List Fields) (r : Fields) (rs : List Fields) → Rising (rank_of file) (a ++ r ∷ rs) → rank_of file r < m → From file m x rs
      → From file m x (a ++ r ∷ rs)
  unfolding From Rising
  past_from m [] r rs up h f = (λ g. absurd (omega arith), f)
  past_from m (q ∷ a) r rs up h f =
      let l = above_one (rank_of file q) a r rs up.0 in
      (λ g. absurd (omega arith), past_from m a r rs up.1 h f)

  -- a rank from x on: the first such is no later
  from_most : (at : ℕ) (a : List Fields) (r : Fields) (rs : List Fields) → x ≤ rank_of file r
      → first_from (rank_of file) x at (a ++ r ∷ rs) ≤ at + length (written a)
  unfolding first_from written
  from_most at [] r rs h =
      either (leb x (rank_of file r))
      (λ t. rw t (omega arith))
      (λ t. absurd (omega (arith, leb-false x (rank_of file r) t)))
  from_most at (q ∷ a) r rs h =
      let i = from_most (at + length (written_record q)) a r rs h in
      let z = size_cons q a in
      either (leb x (rank_of file q))
      (λ t. rw t (omega arith))
      (λ t. rw t (omega (arith, i, z)))

  module _ (s : List ℕ) (at : ℕ) (f : KeyFile file s) (up : KeysRise file s) (e : at ≡ first_from (rank_of file) x 0 (records_in (fields_of file) s)) where
    -- from the first rank from x on all are
    later_from : (m : ℕ) → From file m x (records_from file s at)
    unfolding From
    later_from m =
        let n = fields_of file in
        let p = from_place n (rank_of file) s x at f.legal e in
        either (ltb at (length s))
        (λ t.
        let h = ltb-true at (length s) t in
        let w = (next_at n s at p h).rest in
        let u = place_rising n (rank_of file) s at up p in
        let g = rest_from m (record_at file s at) (records_from file s (behind s at)) (from_rank n (rank_of file) s x at f.legal e h) (rw w at u) in
        rw w g)
        (λ t. rw (none_left n s at (ltb-false at (length s) t)) tt)

    -- the record before it has the greatest rank below x
    pub rising_trails : (p : ℕ) → LineBefore s at p → Trails file s x p
    rising_trails p b =
        let n = fields_of file in
        let top = (from_place n (rank_of file) s x at f.legal e).near in
        let q = before_place n s at p f.legal top b in
        let h : p < length s = omega (arith, b.near) in
        let r = record_at file s p in
        let rs = records_from file s (behind s p) in
        let w : records_in n s ≡ q.past ++ (r ∷ rs) = q.whole ∙ ap (λ (z : List Fields). q.past ++ z) (next_at n s p q h).rest in
        record {
          place = q;
          within = h;
          rank = either (ltb (rank_of file r) x)
              (λ t. ltb-true (rank_of file r) x t)
              (λ t.
              let g = from_most 0 q.past r rs (ltb-false (rank_of file r) x t) in
              absurd (omega (arith, g, e, ap (first_from (rank_of file) x 0) w, q.size, b.near)));
          most = λ m l.
              let g : From file m x rs = rw b.line (later_from m) in
              rw w (past_from m q.past r rs (rw w at up) l g);
        }

    -- there is none
    pub rising_first : at ≡ 0 → (m : ℕ) → From file m x (records_in (fields_of file) s)
    rising_first z m = rw z at (later_from m)

-- By an index.
module _ (file : ℕ) (s order : List ℕ) (x i : ℕ) (f : KeyFile file s) (index : IsIndex file s order) (l : Lower file s order x i) where
  -- a record from m on, which the entries before i are below, has a rank from x on
  entry_from : (m : ℕ) → ((j : ℕ) → j < i → entry_rank file s order j < m) → From file m x (records_in (fields_of file) s)
  entry_from m below =
      let n = fields_of file in
      let r = rank_of file in
      from_places file s m x
      (λ y q h g.
      let w = index.covers y (place_known n r s y q h) in
      let j = w.0 in
      let e : entry_rank file s order j ≡ rank_of file (record_at file s y) = ap (λ (z : ℕ). rank_of file (record_at file s z)) w.2 in
      either (ltb j i)
      (λ t. absurd (omega (arith, e, g, below j (ltb-true j i t))))
      (λ t.
      let k = ltb-false j i t in
      let d = l.«from» (omega (arith, k, w.1)) in
      either (ltb i j)
      (λ u. omega (arith, e, d, ranks_rise n r s order index i j (ltb-true i j u) w.1))
      (λ u.
      let z : i ≡ j = omega (arith, k, ltb-false i j u) in
      let v = rw z at d in
      omega (arith, e, v))))
      0 (records_in n s) (place_start n s f.legal) refl

  pub index_trails : 0 < i → Trails file s x (get_or order (i - 1) 0)
  index_trails h =
      let n = fields_of file in
      let r = rank_of file in
      let near = l.near in
      let w = entry_place file s order index (i - 1) (omega arith) in
      record {
        place = w.0;
        within = w.1;
        rank = l.below (i - 1) (omega arith);
        most = λ m g.
            entry_from m
            (λ j k.
            either (ltb j (i - 1))
            (λ t. omega (arith, g, ranks_rise n r s order index j (i - 1) (ltb-true j (i - 1) t) (omega arith)))
            (λ t.
            let z : j ≡ i - 1 = omega (arith, k, ltb-false j (i - 1) t) in
            rw z g));
      }

  pub index_first : i ≡ 0 → (m : ℕ) → From file m x (records_in (fields_of file) s)
  index_first z m = entry_from m (λ j k. absurd (omega arith))

-- what it says of the trip's greatest number below x
module _ (file line trip x : ℕ) (three : key_fields file ≡ 1 ∷ 2 ∷ 3 ∷ []) where
  number_high : (t : ℕ) (rs : List Fields) → From file ((line * none + trip) * none + t) ((line * none + trip) * none + x) rs
      → previous_number file line trip x rs ≤ t
  unfolding From previous_number
  number_high t [] a = omega arith
  number_high t (r ∷ rs) a =
      let n = previous_number file line trip x rs in
      let o = of_trip file line trip r in
      let g = ltb (third file r) x in
      let i = number_high t rs a.1 in
      either (both o g)
      (λ u.
      let z = trip_of_lem file line trip r three (both_left o g u) in
      let b = ltb-true (third file r) x (both_right o g u) in
      let c : third file r < t =
      either (ltb (third file r) t)
      (λ v. ltb-true (third file r) t v)
      (λ v. absurd (omega (arith, z, b, a.0 (omega (arith, z, ltb-false (third file r) t v))))) in
      rw u (omega (arith, greater_is (third file r + 1) n, c, i)))
      (λ u. rw u i)

  number_low : (a : List Fields) (r : Fields) (rs : List Fields) → of_trip file line trip r ≡ true → third file r < x
      → third file r + 1 ≤ previous_number file line trip x (a ++ r ∷ rs)
  unfolding previous_number
  number_low [] r rs o h = rw (o, lt-ltb (third file r) x h) (omega (arith, greater_is (third file r + 1) (previous_number file line trip x rs)))
  number_low (q ∷ a) r rs o h =
      let n = previous_number file line trip x (a ++ r ∷ rs) in
      let i = number_low a r rs o h in
      either (both (of_trip file line trip q) (ltb (third file q) x))
      (λ t. rw t (omega (arith, greater_is (third file q + 1) n, i)))
      (λ t. rw t i)

module _ (file line trip x : ℕ) (s : List ℕ) (f : KeyFile file s) (count : length (key_fields file) ≡ 3) where
  three : key_fields file ≡ 1 ∷ 2 ∷ 3 ∷ []
  three = three_fields file f.keyed count

  -- no rank is below the trip's x
  pub number_none : ((m : ℕ) → From file m ((line * none + trip) * none + x) (records_in (fields_of file) s))
      → 0 ≡ previous_number file line trip x (records_in (fields_of file) s)
  number_none a = omega (arith, number_high file line trip x three 0 (records_in (fields_of file) s) (a ((line * none + trip) * none + 0)))

  -- the record at a place by its key, as the code holds it
  module _ (at : ℕ) (small : trip < none) (p : PlaceIn file s at) (h : at < length s) (k : Key) (i : KeyIs (rank_of file (record_at file s at)) k) where
    pub number_here : k.hi ≡ line * none + trip → k.lo + 1 ≡ number_at file line trip s at
    unfolding number_at
    number_here e =
        let r = record_at file s at in
        let n = (key_here file s at f p h).numbers in
        let o = key_of_trip file line trip three small r n k i e in
        rw (o, key_third file line trip three small r n k i o)

    pub number_other : (k.hi ≡ line * none + trip → ⊥) → 0 ≡ number_at file line trip s at
    unfolding number_at
    number_other e =
        let r = record_at file s at in
        let n = (key_here file s at f p h).numbers in
        rw (key_not_of_trip file line trip three small r n k i e)

  -- the record with the greatest rank below the trip's x has the number, if it is the trip's; else there is none
  module _ (p : ℕ) (b : trip < none) (c : x ≤ none) (l : Trails file s ((line * none + trip) * none + x) p) where
    trails_here : of_trip file line trip (record_at file s p) ≡ true → third file (record_at file s p) + 1 ≡ previous_number file line trip x (records_in (fields_of file) s)
    trails_here t =
        let rs = records_in (fields_of file) s in
        let r = record_at file s p in
        let y = third file r in
        let q = l.place in
        let e = trip_of_lem file line trip r three t in
        let w = q.whole ∙ ap (λ (z : List Fields). q.past ++ z) (next_at (fields_of file) s p q l.within).rest in
        let low = number_low file line trip x three q.past r (records_from file s (behind s p)) t (omega (arith, e, l.rank)) in
        let high = number_high file line trip x three (y + 1) rs (l.most ((line * none + trip) * none + (y + 1)) (omega (arith, e))) in
        omega (arith, low, high, ap (previous_number file line trip x) w)

    trails_other : of_trip file line trip (record_at file s p) ≡ false → 0 ≡ previous_number file line trip x (records_in (fields_of file) s)
    trails_other t =
        let r = record_at file s p in
        let m = (line * none + trip) * none in
        let g : rank_of file r < m =
        either (ltb (rank_of file r) m)
        (λ v. ltb-true (rank_of file r) m v)
        (λ v.
        clash
        (of_trip_lem file line trip r three (key_here file s p f l.place l.within).numbers b (ltb-false (rank_of file r) m v) (omega (arith, l.rank)))
        t) in
        omega (arith, number_high file line trip x three 0 (records_in (fields_of file) s) (l.most (m + 0) (omega (arith, g))))

    pub trails_number : number_at file line trip s p ≡ previous_number file line trip x (records_in (fields_of file) s)
    unfolding number_at
    trails_number =
        either (of_trip file line trip (record_at file s p))
        (λ t. rw t (trails_here t))
        (λ t. rw t (trails_other t))

    -- where keys rise it is the record
    pub trails_place : line < none → KeysRise file s → (number_at file line trip s p ≡ 0 → ⊥) → Some p ≡ previous_of file line trip x (records_in (fields_of file) s)
    unfolding number_at rank
    trails_place a up ne =
        let rs = records_in (fields_of file) s in
        let r = record_at file s p in
        let y = third file r in
        let u = third_small file r (key_here file s p f l.place l.within).numbers in
        either (of_trip file line trip r)
        (λ t.
        let z : y + 1 - 1 ≡ y = omega arith in
        let e = trip_of_lem file line trip r three t in
        let k = previous_found file line trip x rs (y + 1) (trails_here t) (λ v. omega arith) in
        let v : first_with file (line ∷ trip ∷ y ∷ []) 0 rs ≡ Some p =
        first_with_lem file (line ∷ trip ∷ y ∷ []) f.keyed (small_three line trip y a b u) (sym count) 0 rs f.keys
        ∙ ap (λ (z : ℕ). first_ranked (rank_of file) z 0 rs) (sym e)
        ∙ hit_anywhere (fields_of file) (rank_of file) s p (rank_of file r) up l.place l.within refl in
        sym (rw z at k ∙ v))
        (λ t. absurd (ne (rw t)))
