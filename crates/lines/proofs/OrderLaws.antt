-- Laws of records by rank: what a test of one record says of those left, what ranks that rise add, and what stands before a place.
use Rattle.std.specs.Prelude.{None, Some}
use mathlib.Core.Path.{◌≡◌, refl, sym, ap, ◌∙◌}
use mathlib.Core.Bool.{true, false}
use mathlib.Core.List.{List, [], ◌∷◌, ◌++◌}
use Prim.Native.Nat.{ℕ, ◌+◌, ◌≤◌, ◌<◌}
use native.Mathlib.Omega.{arith}
use lib.Dec.{eqb, ltb, leb}
use lib.ListN.{length, drop}
use borrow.Author.Tests.{eq-eqb, ne_eqb, eqb-true, lt-ltb, le-ltb, ltb-true, ltb-false, le-leb, lt-leb, leb-true, leb-false}
use Rattle.laws.specs.Tests.{either, never}
use Rattle.file.specs.Format.{Fields, written_record, written, Permitted}
use Rattle.file.specs.Records.{records_in}
use Rattle.walk.specs.Walk.{LegalFrom}
use Rattle.walk.proofs.WalkLaws.{none_left, first_record}
use Rattle.lines.specs.Lines.{behind, Place, Next}
use Rattle.lines.specs.Order.{first_ranked, first_from, has_rank, Above, Rising, rises_after, is_rising}
use Rattle.lines.proofs.LineLaws.{size_cons, Onward, place_on, place_start, next_at, all_permitted, record_size, Between, line_place}

module _ (rank : Fields → ℕ) where
  -- what is above a rank is above a lesser one
  above_less : (j k : ℕ) (rs : List Fields) → j < k → Above rank k rs → Above rank j rs
  unfolding Above
  above_less j k [] h a = tt
  above_less j k (r ∷ rs) h a = (omega arith, above_less j k rs h a.1)

  above_at : (k : ℕ) (a : List Fields) (b : Fields) (rs : List Fields) → Above rank k (a ++ b ∷ rs) → k < rank b
  unfolding Above
  above_at k [] b rs h = h.0
  above_at k (r ∷ a) b rs h = above_at k a b rs h.1

  above_none : (k at : ℕ) (rs : List Fields) → Above rank k rs → first_ranked rank k at rs ≡ None
  unfolding Above first_ranked
  above_none k at [] h = refl
  above_none k at (r ∷ rs) h = rw (ne_eqb (rank r) k (λ e. omega arith)) (above_none k (at + length (written_record r)) rs h.1)

  -- the records behind others whose ranks rise with them
  pub tail_rising : (a b : List Fields) → Rising rank (a ++ b) → Rising rank b
  unfolding Rising
  tail_rising [] b h = h
  tail_rising (r ∷ a) b h = tail_rising a b h.1

  -- a first rank above k: no rank is k
  rising_none : (k at : ℕ) (r : Fields) (rs : List Fields) → Rising rank (r ∷ rs) → k < rank r → first_ranked rank k at (r ∷ rs) ≡ None
  unfolding Above Rising
  rising_none k at r rs h p = above_none k at (r ∷ rs) (p, above_less k (rank r) rs p h.0)

  -- a rank at most k: no rank before it is k
  rising_skip : (k at : ℕ) (a : List Fields) (b : Fields) (rs : List Fields) → Rising rank (a ++ b ∷ rs) → rank b ≤ k
      → first_ranked rank k at (a ++ b ∷ rs) ≡ first_ranked rank k (at + length (written a)) (b ∷ rs)
  unfolding Rising first_ranked written
  rising_skip k at [] b rs h p = let e : at + 0 ≡ at = omega arith in rw e
  rising_skip k at (r ∷ a) b rs h p =
      let q = above_at (rank r) a b rs h.0 in
      let e : at + length (written (r ∷ a)) ≡ at + length (written_record r) + length (written a) = omega (arith, size_cons r a) in
      rw (ne_eqb (rank r) k (λ e. omega arith), e) (rising_skip k (at + length (written_record r)) a b rs h.1 p)

  -- a rank at most k: all before it are below k
  pub from_skip : (k at : ℕ) (a : List Fields) (b : Fields) (rs : List Fields) → Rising rank (a ++ b ∷ rs) → rank b ≤ k
      → first_from rank k at (a ++ b ∷ rs) ≡ first_from rank k (at + length (written a)) (b ∷ rs)
  unfolding Rising first_from written
  from_skip k at [] b rs h p = let e : at + 0 ≡ at = omega arith in rw e
  from_skip k at (r ∷ a) b rs h p =
      let q = above_at (rank r) a b rs h.0 in
      let e : at + length (written (r ∷ a)) ≡ at + length (written_record r) + length (written a) = omega (arith, size_cons r a) in
      rw (lt-leb k (rank r) (omega arith), e) (from_skip k (at + length (written_record r)) a b rs h.1 p)

  -- the test shows that ranks rise
  after_rising : (k : ℕ) (rs : List Fields) → rises_after rank k rs ≡ true → Above rank k rs × Rising rank rs
  unfolding Above Rising rises_after
  after_rising k [] e = (tt, tt)
  after_rising k (r ∷ rs) e =
      either (ltb k (rank r))
      (λ t.
      let p = ltb-true k (rank r) t in
      let q = after_rising (rank r) rs (rw t at e) in
      ((p, above_less k (rank r) rs p q.0), q))
      (λ t. never (rw t at e))

  pub is_rising_lem : (rs : List Fields) → is_rising rank rs ≡ true → Rising rank rs
  unfolding Rising is_rising
  is_rising_lem [] e = tt
  is_rising_lem (r ∷ rs) e = after_rising (rank r) rs e

  -- and fails only where they don't
  rising_after : (k : ℕ) (rs : List Fields) → Above rank k rs → Rising rank rs → rises_after rank k rs ≡ true
  unfolding Above Rising rises_after
  rising_after k [] a h = refl
  rising_after k (r ∷ rs) a h = rw (lt-ltb k (rank r) a.0) (rising_after (rank r) rs h.0 h.1)

  pub rising_is : (rs : List Fields) → Rising rank rs → is_rising rank rs ≡ true
  unfolding Rising is_rising
  rising_is [] h = refl
  rising_is (r ∷ rs) h = rising_after (rank r) rs h.0 h.1

  -- where ranks rise, none stands twice
  distinct : (past : List Fields) (r : Fields) (rs : List Fields) → Rising rank (past ++ r ∷ rs) → has_rank rank (rank r) past ≡ false
  unfolding Rising has_rank
  distinct [] r rs h = refl
  distinct (q ∷ past) r rs h =
      let l = above_at (rank q) past r rs h.0 in
      rw (ne_eqb (rank q) (rank r) (λ e. omega arith)) (distinct past r rs h.1)

  pub rising_distinct : (qs past : List Fields) (r : Fields) (rs : List Fields) → Rising rank qs → qs ≡ past ++ (r ∷ rs)
      → has_rank rank (rank r) past ≡ false
  rising_distinct qs past r rs h e = distinct past r rs (rw e at h)

  -- the first record with a rank, and what stands before it
  record Hit (x at : ℕ) (qs : List Fields) (p : ℕ) : Type 0 where
    past : List Fields
    first : Fields
    rest : List Fields
    whole : qs ≡ past ++ (first ∷ rest)
    size : p ≡ at + length (written past)
    same : rank first ≡ x

  hit : (x at : ℕ) (qs : List Fields) (p : ℕ) → first_ranked rank x at qs ≡ Some p → Hit x at qs p
  unfolding first_ranked written
  hit x at [] p e = let z : ◌≡◌ {A = ℕ} 0 1 = cc in absurd (omega arith)
  hit x at (r ∷ rs) p e =
      either (eqb (rank r) x)
      (λ t.
      let d : Some at ≡ Some p = rw t at e in
      let z : at ≡ p = cc in
      record { past = []; first = r; rest = rs; whole = refl; size = omega arith; same = eqb-true (rank r) x t })
      (λ t. on (hit x (at + length (written_record r)) rs p (rw t at e)))
    where
      on : Hit x (at + length (written_record r)) rs p → Hit x at (r ∷ rs) p
      on h = record {
        past = r ∷ h.past;
        first = h.first;
        rest = h.rest;
        whole = ap (λ (l : List Fields). r ∷ l) h.whole;
        size = omega (arith, h.size, size_cons r h.past);
        same = h.same;
      }

  -- where the ranks from x on start: all before are below x
  unfoldable Below : ℕ → List Fields → Type 0
  Below x [] = Unit
  Below x (r ∷ rs) = (rank r < x) × Below x rs

  record Parted (x at : ℕ) (qs : List Fields) : Type 0 where
    past : List Fields
    rest : List Fields
    whole : qs ≡ past ++ rest
    size : first_from rank x at qs ≡ at + length (written past)
    below : Below x past
    top : (r : Fields) (rs : List Fields) → rest ≡ r ∷ rs → x ≤ rank r

  parted : (x at : ℕ) (qs : List Fields) → Parted x at qs
  unfolding first_from written Below
  parted x at [] = record { past = []; rest = []; whole = refl; size = omega arith; below = tt; top = λ r rs e. absurd (omega (arith, ap length e)) }
  parted x at (r ∷ rs) =
      either (leb x (rank r))
      (λ t. record {
        past = [];
        rest = r ∷ rs;
        whole = refl;
        size = rw t (omega arith);
        below = tt;
        top = λ q qs e. let d : r ≡ q = cc in rw (← d) (leb-true x (rank r) t);
      })
      (λ t. on t (parted x (at + length (written_record r)) rs))
    where
      on : leb x (rank r) ≡ false → Parted x (at + length (written_record r)) rs → Parted x at (r ∷ rs)
      on t p = record {
        past = r ∷ p.past;
        rest = p.rest;
        whole = ap (λ (l : List Fields). r ∷ l) p.whole;
        size = rw t (omega (arith, p.size, size_cons r p.past));
        below = (leb-false x (rank r) t, p.below);
        top = p.top;
      }

  -- ranks below x are not x
  below_skip : (x at : ℕ) (a b : List Fields) → Below x a → first_ranked rank x at (a ++ b) ≡ first_ranked rank x (at + length (written a)) b
  unfolding first_ranked written Below
  below_skip x at [] b h = let e : at + 0 ≡ at = omega arith in rw e
  below_skip x at (r ∷ a) b h =
      let e : at + length (written (r ∷ a)) ≡ at + length (written_record r) + length (written a) = omega (arith, size_cons r a) in
      rw (ne_eqb (rank r) x (λ e. omega (arith, h.0)), e) (below_skip x (at + length (written_record r)) a b h.1)

  -- what is found stands no earlier than where the search starts
  not_before : (x at : ℕ) (qs : List Fields) (p : ℕ) → first_ranked rank x at qs ≡ Some p → at ≤ p
  not_before x at qs p e = omega (arith, (hit x at qs p e).size)

  -- a find before the place behind `past` is in it
  back_in : (x at : ℕ) (past rs : List Fields) (p : ℕ) → first_ranked rank x at (past ++ rs) ≡ Some p → p < at + length (written past)
      → has_rank rank x past ≡ true
  unfolding first_ranked has_rank written
  back_in x at [] rs p e h = absurd (omega (arith, not_before x at rs p e))
  back_in x at (r ∷ past) rs p e h =
      either (eqb (rank r) x)
      (λ t. rw t)
      (λ t. rw t (back_in x (at + length (written_record r)) past rs p (rw t at e) (omega (arith, size_cons r past))))

  -- a find at that place or later: none is in it
  back_out : (n : ℕ) → 1 ≤ n → (x at : ℕ) (past rs : List Fields) (p : ℕ) → Permitted n (past ++ rs) → first_ranked rank x at (past ++ rs) ≡ Some p
      → at + length (written past) ≤ p → has_rank rank x past ≡ false
  unfolding first_ranked has_rank written Permitted
  back_out n some x at [] rs p q e h = refl
  back_out n some x at (r ∷ past) rs p q e h =
      either (eqb (rank r) x)
      (λ t.
      let d : Some at ≡ Some p = rw t at e in
      let z : at ≡ p = cc in
      absurd (omega (arith, size_cons r past, record_size n r some q.0)))
      (λ t. rw t (back_out n some x (at + length (written_record r)) past rs p q.1 (rw t at e) (omega (arith, size_cons r past))))

  -- no find at all
  back_empty : (x at : ℕ) (past rs : List Fields) → first_ranked rank x at (past ++ rs) ≡ None → has_rank rank x past ≡ false
  unfolding first_ranked has_rank
  back_empty x at [] rs e = refl
  back_empty x at (r ∷ past) rs e =
      either (eqb (rank r) x)
      (λ t.
      let d : Some at ≡ None = rw t at e in
      let z : ◌≡◌ {A = ℕ} 0 1 = cc in
      absurd (omega arith))
      (λ t. rw t (back_empty x (at + length (written_record r)) past rs (rw t at e)))

module _ (n : ℕ) (rank : Fields → ℕ) where
  -- `first_ranked` of what is left: a record with the rank, one with another, none
  pub first_hit : (s : List ℕ) (at x : ℕ) → Place n s at → at < length s → rank (first_record n s at) ≡ x
      → first_ranked rank x at (records_in n (drop at s)) ≡ Some at
  unfolding first_ranked
  first_hit s at x p h e = rw ((next_at n s at p h).rest, eq-eqb (rank (first_record n s at)) x e)

  pub first_turn : (s : List ℕ) (at x : ℕ) (r : Fields) (next : ℕ) → Next n s at r next → (rank r ≡ x → ⊥)
      → first_ranked rank x at (records_in n (drop at s)) ≡ first_ranked rank x next (records_in n (drop next s))
  unfolding first_ranked
  first_turn s at x r next w e = rw (w.rest, ne_eqb (rank r) x e, ← w.size)

  pub first_end : (s : List ℕ) (at x : ℕ) → length s ≤ at → first_ranked rank x at (records_in n (drop at s)) ≡ None
  unfolding first_ranked
  first_end s at x h = rw (none_left n s at h)

  -- `first_from` of what is left: a record with such a rank, one with a lesser, none
  pub from_hit : (s : List ℕ) (at x : ℕ) → Place n s at → at < length s → x ≤ rank (first_record n s at)
      → first_from rank x at (records_in n (drop at s)) ≡ at
  unfolding first_from
  from_hit s at x p h e = rw ((next_at n s at p h).rest, le-leb x (rank (first_record n s at)) e)

  pub from_turn : (s : List ℕ) (at x : ℕ) (r : Fields) (next : ℕ) → Next n s at r next → rank r < x
      → first_from rank x at (records_in n (drop at s)) ≡ first_from rank x next (records_in n (drop next s))
  unfolding first_from
  from_turn s at x r next w e = rw (w.rest, lt-leb x (rank r) e, ← w.size)

  pub from_end : (s : List ℕ) (at x : ℕ) → length s ≤ at → first_from rank x at (records_in n (drop at s)) ≡ at
  unfolding first_from
  from_end s at x h = rw (none_left n s at h)

  -- the test of what is left: no record at all, the first, one with a greater rank than the last, one with another, none
  pub rises_none : (s : List ℕ) → length s ≤ 0 → is_rising rank (records_in n s) ≡ true
  unfolding is_rising
  rises_none s h = rw (none_left n s 0 h)

  pub rises_start : (s : List ℕ) (r : Fields) (next : ℕ) → Next n s 0 r next
      → is_rising rank (records_in n s) ≡ rises_after rank (rank r) (records_in n (drop next s))
  unfolding is_rising
  rises_start s r next w = rw w.rest

  pub rises_turn : (s : List ℕ) (at x : ℕ) (r : Fields) (next : ℕ) → Next n s at r next → x < rank r
      → rises_after rank x (records_in n (drop at s)) ≡ rises_after rank (rank r) (records_in n (drop next s))
  unfolding rises_after
  rises_turn s at x r next w h = rw (w.rest, lt-ltb x (rank r) h)

  pub rises_stop : (s : List ℕ) (at x : ℕ) → Place n s at → at < length s → rank (first_record n s at) ≤ x
      → rises_after rank x (records_in n (drop at s)) ≡ false
  unfolding rises_after
  rises_stop s at x p h e = rw ((next_at n s at p h).rest, le-ltb x (rank (first_record n s at)) e)

  pub rises_end : (s : List ℕ) (at x : ℕ) → length s ≤ at → rises_after rank x (records_in n (drop at s)) ≡ true
  unfolding rises_after
  rises_end s at x h = rw (none_left n s at h)

  -- ranks rise from every place of a file whose ranks rise
  pub place_rising : (s : List ℕ) (at : ℕ) → Rising rank (records_in n s) → Place n s at → Rising rank (records_in n (drop at s))
  place_rising s at up p = tail_rising rank p.past (records_in n (drop at s)) (rw p.whole at up)

  -- the step of a bisection: what starts before t is passed
  pub record Bisected (s : List ℕ) (lo t x : ℕ) : Type 0 where
    pub same : first_from rank x lo (records_in n (drop lo s)) ≡ first_from rank x t (records_in n (drop t s))
    pub rising : Rising rank (records_in n (drop t s))
    pub place : Place n s t

  pub bisect : (s : List ℕ) (lo m t x : ℕ) → Place n s lo → Rising rank (records_in n (drop lo s)) → lo ≤ m → t ≡ behind s m → t < length s
      → rank (first_record n s t) < x → Bisected s lo t x
  bisect s lo m t x p up h e k l = go (line_place n s lo m t p h (omega arith) e)
    where
      go : Between n s lo t → Bisected s lo t x
      go b =
          let a = b.first ∷ b.more in
          let u : Rising rank (a ++ records_in n (drop t s)) = rw b.rest at up in
          let w = (next_at n s t b.place k).rest in
          let v : records_in n (drop lo s) ≡ a ++ (first_record n s t ∷ records_in n (drop (behind s t) s)) =
          b.rest ∙ ap (λ (y : List Fields). a ++ y) w in
          let z : lo + length (written a) ≡ t = omega (arith, b.size) in
          let f = from_skip rank x lo a (first_record n s t) (records_in n (drop (behind s t) s)) (rw w at u) (omega arith) in
          record {
            same = ap (first_from rank x lo) v ∙ f ∙ ap (first_from rank x (lo + length (written a))) (sym w) ∙ rw z;
            rising = tail_rising rank a (records_in n (drop t s)) u;
            place = b.place;
          }

  -- a record with the rank x in a file whose ranks rise is the first with it
  pub hit_anywhere : (s : List ℕ) (at x : ℕ) → Rising rank (records_in n s) → Place n s at → at < length s → rank (first_record n s at) ≡ x
      → first_ranked rank x 0 (records_in n s) ≡ Some at
  hit_anywhere s at x up p h e =
      let w = (next_at n s at p h).rest in
      let v : records_in n s ≡ p.past ++ (first_record n s at ∷ records_in n (drop (behind s at) s)) =
      p.whole ∙ ap (λ (y : List Fields). p.past ++ y) w in
      let f = rising_skip rank x 0 p.past (first_record n s at) (records_in n (drop (behind s at) s)) (rw v at up) (omega arith) in
      let z : 0 + length (written p.past) ≡ at = omega (arith, p.size) in
      ap (first_ranked rank x 0) v ∙ f ∙ ap (first_ranked rank x (0 + length (written p.past))) (sym w) ∙ rw z (first_hit s at x p h e)

  -- what stands first is the record there, and it stands within the file
  first_is : (s : List ℕ) (at : ℕ) (r : Fields) (rs : List Fields) → records_in n (drop at s) ≡ r ∷ rs → (at < length s) × (first_record n s at ≡ r)
  first_is s at r rs e =
      either (ltb at (length s))
      (λ t. (ltb-true at (length s) t, rw e))
      (λ t. absurd (omega (arith, ap length (sym (none_left n s at (ltb-false at (length s) t)) ∙ e))))

  -- where the first record with a rank is found, it stands
  pub record FoundAt (s : List ℕ) (x p : ℕ) : Type 0 where
    pub place : Place n s p
    pub within : p < length s
    pub same : rank (first_record n s p) ≡ x

  pub found_place : (s : List ℕ) (x p : ℕ) → LegalFrom n s 0 → first_ranked rank x 0 (records_in n s) ≡ Some p → FoundAt s x p
  found_place s x p l e =
      let h = hit rank x 0 (records_in n s) p e in
      let w = place_on n s 0 (place_start n s l) h.past (h.first ∷ h.rest) h.whole p h.size in
      let f = first_is s p h.first h.rest w.left in
      record { place = w.place; within = f.0; same = ap rank f.1 ∙ h.same }

  -- what `first_from` says of a legal file
  module _ (s : List ℕ) (x p : ℕ) (l : LegalFrom n s 0) (e : p ≡ first_from rank x 0 (records_in n s)) where
    cut_from : Parted rank x 0 (records_in n s)
    cut_from = parted rank x 0 (records_in n s)

    onward : Onward n s p cut_from.rest
    onward = place_on n s 0 (place_start n s l) cut_from.past cut_from.rest cut_from.whole p (e ∙ cut_from.size)

    -- a record starts there, or the file ends
    pub from_place : Place n s p
    from_place = onward.place

    -- its rank is not below x
    pub from_rank : p < length s → x ≤ rank (first_record n s p)
    from_rank h = cut_from.top (first_record n s p) (records_in n (drop (behind s p) s)) (sym onward.left ∙ (next_at n s p from_place h).rest)

    -- before it no rank is x
    from_same : first_ranked rank x 0 (records_in n s) ≡ first_ranked rank x p (records_in n (drop p s))
    from_same =
        let c = cut_from in
        let z : 0 + length (written c.past) ≡ p = omega (arith, c.size) in
        ap (first_ranked rank x 0) c.whole ∙ below_skip rank x 0 c.past c.rest c.below ∙ rw (z, onward.left)

    -- where its rank is x, it is the first with it
    pub from_first : p < length s → rank (first_record n s p) ≡ x → first_ranked rank x 0 (records_in n s) ≡ Some p
    from_first h q = from_same ∙ first_hit s p x from_place h q

    -- where it is another, or the file ends, there is none
    pub from_miss : Rising rank (records_in n s) → (p < length s → x < rank (first_record n s p)) → first_ranked rank x 0 (records_in n s) ≡ None
    from_miss up above =
        either (ltb p (length s))
        (λ t.
        let h = ltb-true p (length s) t in
        let w = (next_at n s p from_place h).rest in
        let u = place_rising s p up from_place in
        from_same ∙ ap (first_ranked rank x p) w ∙ rising_none rank x p (first_record n s p) (records_in n (drop (behind s p) s)) (rw w at u) (above h))
        (λ t. from_same ∙ first_end s p x (ltb-false p (length s) t))

  -- a look back from a place: what stands before it has the rank, or doesn't
  pub back_hit : (s : List ℕ) (at x p : ℕ) (q : Place n s at) → first_ranked rank x 0 (records_in n s) ≡ Some p → p < at → has_rank rank x q.past ≡ true
  back_hit s at x p q e h =
      back_in rank x 0 q.past (records_in n (drop at s)) p (rw q.whole at e) (omega (arith, q.size))

  pub back_miss : (s : List ℕ) (at x p : ℕ) (q : Place n s at) → first_ranked rank x 0 (records_in n s) ≡ Some p → at ≤ p → has_rank rank x q.past ≡ false
  back_miss s at x p q e h =
      let some = q.legal.reads.some in
      let a = all_permitted n s some in
      back_out rank n some x 0 q.past (records_in n (drop at s)) p (rw q.whole at a) (rw q.whole at e) (omega (arith, q.size))

  pub back_none : (s : List ℕ) (at x : ℕ) (q : Place n s at) → first_ranked rank x 0 (records_in n s) ≡ None → has_rank rank x q.past ≡ false
  back_none s at x q e = back_empty rank x 0 q.past (records_in n (drop at s)) (rw q.whole at e)

  -- in a file whose ranks rise, no record before a place has the rank of the one there
  pub place_distinct : (s : List ℕ) (at : ℕ) (q : Place n s at) → Rising rank (records_in n s) → at < length s
      → has_rank rank (rank (first_record n s at)) q.past ≡ false
  place_distinct s at q up h =
      let w = (next_at n s at q h).rest in
      rising_distinct rank (records_in n s) q.past (first_record n s at) (records_in n (drop (behind s at) s)) up
      (q.whole ∙ ap (λ (y : List Fields). q.past ++ y) w)
