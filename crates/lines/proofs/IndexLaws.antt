-- Where records start, when a list of places is an index, and what an index says of records by rank.
use Rattle.std.specs.Prelude.{None, Some}
use Prim.Native.Nat.{ℕ, zero, suc, ◌+◌, ◌-◌, ◌^◌, ◌≤◌, ◌<◌}
use mathlib.Core.Path.{◌≡◌, refl, sym, ap, subst, ◌∙◌}
use mathlib.Core.Logic.{inl, inr, ⊎_elim}
use mathlib.Core.Bool.{false}
use mathlib.Core.List.{List, [], ◌∷◌, ◌++◌}
use native.Mathlib.Numerals.{add-one}
use native.Mathlib.Omega.{arith}
use lib.Dec.{eqb, ltb}
use lib.ListN.{length, get_or, drop}
use borrow.Author.Tests.{eqb-true, eqb-false, ltb-true, ltb-false}
use Rattle.laws.specs.Tests.{either}
use Rattle.file.specs.Format.{Fields, written_record, written}
use Rattle.file.specs.Records.{records_in}
use Rattle.walk.specs.Walk.{LegalFrom}
use Rattle.walk.proofs.WalkLaws.{first_record}
use Rattle.lines.specs.Lines.{behind, Place}
use Rattle.lines.specs.Order.{first_ranked, has_rank}
use Rattle.lines.specs.Index.{In, starts_from, starts, rank_at, order_at, Start, Good, Index}
use Rattle.lines.proofs.LineLaws.{size_cons, size_one, Onward, place_on, place_start, start_place, next_at}
use Rattle.lines.proofs.OrderLaws.{back_miss}
use Rattle.lines.proofs.Pigeon.{Distinct, pigeon}

-- a record behind others starts where they end
in_starts : (at : ℕ) (a : List Fields) (b : Fields) (rs : List Fields) → In (at + length (written a)) (starts_from at (a ++ b ∷ rs))
unfolding In starts_from written
in_starts at [] b rs = inl (omega arith)
in_starts at (r ∷ a) b rs =
    let e : at + length (written (r ∷ a)) ≡ at + length (written_record r) + length (written a) = omega (arith, size_cons r a) in
    inr (subst (λ (x : ℕ). In x (starts_from (at + length (written_record r)) (a ++ b ∷ rs))) (sym e) (in_starts (at + length (written_record r)) a b rs))

length_starts : (at : ℕ) (rs : List Fields) → length (starts_from at rs) ≡ length rs
unfolding starts_from
length_starts at [] = refl
length_starts at (r ∷ rs) = ap suc (length_starts (at + length (written_record r)) rs)

-- no record starts before the first
later : (x at : ℕ) (rs : List Fields) → In x (starts_from at rs) → at ≤ x
unfolding In starts_from
later x at [] i = absurd i
later x at (r ∷ rs) (inl e) = omega arith
later x at (r ∷ rs) (inr i) = omega (arith, later x (at + length (written_record r)) rs i)

-- the place of what stands in a list
place_of_lem : (x : ℕ) (xs : List ℕ) → In x xs → (i : ℕ) × (i < length xs) × (get_or xs i 0 ≡ x)
unfolding In
place_of_lem x [] i = absurd i
place_of_lem x (y ∷ ys) (inl e) = (0, omega arith, sym e)
place_of_lem x (y ∷ ys) (inr i) = let w = place_of_lem x ys i in (suc w.0, omega (arith, w.1), w.2)

-- numbers that a rising rank tells apart
distinct_by : (f : ℕ → ℕ) (xs : List ℕ) → ((i j : ℕ) → i < j → j < length xs → f (get_or xs i 0) < f (get_or xs j 0)) → Distinct xs
unfolding Distinct
distinct_by f [] r = tt
distinct_by f (x ∷ xs) r = (
  λ i.
      let w = place_of_lem x xs i in
      let h : f x < f (get_or xs w.0 0) = r 0 (suc w.0) (omega arith) (omega (arith, w.1)) in
      let g = rw w.2 at h in
      omega arith,
  distinct_by f xs (λ i j h p. r (suc i) (suc j) (omega arith) (omega arith)),
)

-- what goes up from each entry to the next goes up from each to any later
climb : (f : ℕ → ℕ) (xs : List ℕ) → ((i j : ℕ) → i + 1 ≡ j → j < length xs → f (get_or xs i 0) < f (get_or xs j 0))
    → (i j : ℕ) → i < j → j < length xs → f (get_or xs i 0) < f (get_or xs j 0)
climb f xs up i zero h p = absurd (omega arith)
climb f xs up i (suc j) h p =
    let step = up j (suc j) (add-one j) p in
    either (ltb i j)
    (λ t. omega (arith, step, climb f xs up i j (ltb-true i j t) (omega arith)))
    (λ t. let e : i ≡ j = omega (arith, ltb-false i j t) in rw e step)

module _ (n : ℕ) (rank : Fields → ℕ) where
  -- where a record starts is among the starts
  pub place_known : (s : List ℕ) (x : ℕ) → Place n s x → x < length s → In x (starts n rank s)
  place_known s x p h =
      let e : records_in n s ≡ p.past ++ (first_record n s x ∷ records_in n (drop (behind s x) s)) =
      p.whole ∙ ap (λ (l : List Fields). p.past ++ l) (next_at n s x p h).rest in
      let z : 0 + length (written p.past) ≡ x = omega (arith, p.size) in
      rw e (rw z at (in_starts 0 p.past (first_record n s x) (records_in n (drop (behind s x) s))))

  pub start_at : (s : List ℕ) (x : ℕ) → Place n s x → x < length s → x < 2 ^ 32 → Start n rank s x
  start_at s x p h m = record { within = h; small = m; place = p; known = place_known s x p h }

  -- a record starts at 0, and behind an LF
  pub start_first : (s : List ℕ) → LegalFrom n s 0 → 0 < length s → Start n rank s 0
  start_first s l h = start_at s 0 (place_start n s l) h (omega arith)

  pub start_after : (s : List ℕ) (x : ℕ) → LegalFrom n s 0 → 0 < x → x < length s → x < 2 ^ 32 → get_or s (x - 1) 0 ≡ 10 → Start n rank s x
  start_after s x l p h m e = start_at s x (start_place n s x l p h e) h m

  -- good entries, as many as records, are an index
  module _ (s order : List ℕ) (size : length order ≡ length (records_in n s)) (good : (i : ℕ) → i < length order → Good n rank s order i) where
    rises : (i j : ℕ) → i < j → j < length order → order_at n rank s (get_or order i 0) < order_at n rank s (get_or order j 0)
    rises = climb (order_at n rank s) order (λ i j e h. (good j h).above i e)

    sub : (z : ℕ) → In z order → In z (starts n rank s)
    sub z i = let w = place_of_lem z order i in rw w.2 at (good w.0 w.1).start.known

    pub index_is : Index n rank s order
    index_is = record {
      start = λ i h. (good i h).start;
      rises = rises;
      covers = λ x i.
          let d = distinct_by (order_at n rank s) order rises in
          place_of_lem x order (pigeon order (starts n rank s) d sub (omega (arith, length_starts 0 (records_in n s))) x i);
    }

  -- a record at a place, and the place behind it
  split : (s : List ℕ) (at : ℕ) (r : Fields) (rs : List Fields) → Place n s at → records_in n (drop at s) ≡ r ∷ rs
      → (rank r ≡ rank_at n rank s at) × Onward n s (at + length (written_record r)) rs
  split s at r rs p e =
      (rw e, place_on n s at p (r ∷ []) rs e (at + length (written_record r)) (omega (arith, size_one r)))

  -- `first_ranked` by what is known of the places of records
  first_none : (s : List ℕ) (x at : ℕ) (rs : List Fields) → Place n s at → records_in n (drop at s) ≡ rs
      → ((y : ℕ) → In y (starts_from at rs) → rank_at n rank s y ≡ x → ⊥) → first_ranked rank x at rs ≡ None
  unfolding In starts_from first_ranked
  first_none s x at [] p e none = refl
  first_none s x at (r ∷ rs) p e none =
      let w = split s at r rs p e in
      either (eqb (rank r) x)
      (λ t. absurd (none at (inl refl) (sym w.0 ∙ eqb-true (rank r) x t)))
      (λ t. rw t (first_none s x (at + length (written_record r)) rs w.1.place w.1.left (λ y i. none y (inr i))))

  first_least : (s : List ℕ) (x z at : ℕ) (rs : List Fields) → Place n s at → records_in n (drop at s) ≡ rs → In z (starts_from at rs)
      → rank_at n rank s z ≡ x → ((y : ℕ) → In y (starts_from at rs) → rank_at n rank s y ≡ x → z ≤ y) → first_ranked rank x at rs ≡ Some z
  unfolding In starts_from first_ranked
  first_least s x z at [] p e i h least = absurd i
  first_least s x z at (r ∷ rs) p e i h least =
      let w = split s at r rs p e in
      let b = at + length (written_record r) in
      either (eqb (rank r) x)
      (λ t.
      let l = least at (inl refl) (sym w.0 ∙ eqb-true (rank r) x t) in
      let q : at ≤ z = ⊎_elim (λ d. omega arith) (λ j. omega (arith, later z b rs j)) i in
      let d : at ≡ z = omega arith in
      rw (t, d))
      (λ t.
      rw t
      (⊎_elim
      (λ d. absurd (eqb-false (rank r) x t (w.0 ∙ ap (rank_at n rank s) (sym d) ∙ h)))
      (λ j. first_least s x z b rs w.1.place w.1.left j h (λ y q. least y (inr q)))
      i))

  module _ (s order : List ℕ) (index : Index n rank s order) where
    -- ranks don't fall, and of one rank places rise
    pub ranks_rise : (i j : ℕ) → i < j → j < length order → rank_at n rank s (get_or order i 0) ≤ rank_at n rank s (get_or order j 0)
    ranks_rise i j h p = omega (arith, index.rises i j h p, (index.start j p).small)

    pub places_rise : (i j : ℕ) → i < j → j < length order → rank_at n rank s (get_or order i 0) ≡ rank_at n rank s (get_or order j 0)
        → get_or order i 0 < get_or order j 0
    places_rise i j h p e = omega (arith, index.rises i j h p)

  module _ (s order : List ℕ) (x : ℕ) (index : Index n rank s order) where
    -- the step of a bisection: what an entry's rank says of those before it
    pub index_below : (m : ℕ) → m < length order → rank_at n rank s (get_or order m 0) < x → (i : ℕ) → i < m + 1 → rank_at n rank s (get_or order i 0) < x
    index_below m p h i q =
        either (ltb i m)
        (λ t. omega (arith, ranks_rise s order index i m (ltb-true i m t) p))
        (λ t. let e : i ≡ m = omega (arith, ltb-false i m t) in rw e h)

    -- the entries below m have lesser ranks
    module _ (m : ℕ) (below : (i : ℕ) → i < m → rank_at n rank s (get_or order i 0) < x) where
      -- so a start with a rank from x on is named at m or later
      pub index_later : (y : ℕ) → In y (starts n rank s) → x ≤ rank_at n rank s y → (i : ℕ) × (m ≤ i) × (i < length order) × (get_or order i 0 ≡ y)
      index_later y q e =
          let w = index.covers y q in
          let f : rank_at n rank s (get_or order w.0 0) ≡ rank_at n rank s y = ap (rank_at n rank s) w.2 in
          either (ltb w.0 m)
          (λ t. absurd (omega (arith, f, below w.0 (ltb-true w.0 m t))))
          (λ t. (w.0, ltb-false w.0 m t, w.1, w.2))

      -- entry m is the least from x on
      pub index_from : m < length order → (y : ℕ) → In y (starts n rank s) → x ≤ rank_at n rank s y
          → order_at n rank s (get_or order m 0) ≤ order_at n rank s y
      index_from p y q e =
          let w = index_later y q e in
          let f : order_at n rank s (get_or order w.0 0) ≡ order_at n rank s y = ap (order_at n rank s) w.3 in
          either (ltb m w.0)
          (λ t. omega (arith, f, index.rises m w.0 (ltb-true m w.0 t) w.2))
          (λ t.
          let d : w.0 ≡ m = omega (arith, w.1, ltb-false m w.0 t) in
          let g = rw d at f in
          omega arith)

      -- where all entries have lesser ranks, so have all records
      pub index_none : length order ≤ m → (y : ℕ) → In y (starts n rank s) → rank_at n rank s y < x
      index_none p y q =
          either (ltb (rank_at n rank s y) x)
          (λ t. ltb-true (rank_at n rank s y) x t)
          (λ t.
          let w = index_later y q (ltb-false (rank_at n rank s y) x t) in
          absurd (omega (arith, w.1, w.2)))

      -- entry m has the rank: it is the first record with it
      pub index_hit : LegalFrom n s 0 → m < length order → rank_at n rank s (get_or order m 0) ≡ x
          → first_ranked rank x 0 (records_in n s) ≡ Some (get_or order m 0)
      index_hit l p h =
          first_least s x (get_or order m 0) 0 (records_in n s) (place_start n s l) refl (index.start m p).known h
          (λ y q e. omega (arith, h, e, index_from p y q (omega (arith, e))))

      -- it has another, or there is no entry m: no record has it
      pub index_miss : LegalFrom n s 0 → (m < length order → x < rank_at n rank s (get_or order m 0)) → first_ranked rank x 0 (records_in n s) ≡ None
      index_miss l above =
          first_none s x 0 (records_in n s) (place_start n s l) refl
          (λ y q e.
          either (ltb m (length order))
          (λ t.
          let p = ltb-true m (length order) t in
          let w = index_later y q (omega (arith, e)) in
          let f = index_from p y q (omega (arith, e)) in
          let k : y < 2 ^ 32 = rw w.3 at (index.start w.0 w.2).small in
          omega (arith, f, e, above p, k))
          (λ t. omega (arith, e, index_none (ltb-false m (length order) t) y q)))

  -- entries whose ranks strictly rise: no record has the rank of an earlier one
  pub distinct_entries : (s order : List ℕ) → LegalFrom n s 0 → Index n rank s order
      → ((i j : ℕ) → i + 1 ≡ j → j < length order → rank_at n rank s (get_or order i 0) < rank_at n rank s (get_or order j 0))
      → (at : ℕ) (q : Place n s at) → at < length s → has_rank rank (rank_at n rank s at) q.past ≡ false
  distinct_entries s order l index up at q h =
      let x = rank_at n rank s at in
      let w = index.covers at (place_known s at q h) in
      let e : rank_at n rank s (get_or order w.0 0) ≡ x = ap (rank_at n rank s) w.2 in
      let below : (i : ℕ) → i < w.0 → rank_at n rank s (get_or order i 0) < x =
      λ i k. omega (arith, e, climb (rank_at n rank s) order up i w.0 k w.1) in
      let f = index_hit s order x index w.0 below l w.1 e in
      back_miss n rank s at x at q (f ∙ ap (λ (y : ℕ). Some y) w.2) (omega arith)
