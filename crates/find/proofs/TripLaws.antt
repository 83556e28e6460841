-- The record of a trip that is next in key order: the least third number as a pass over the records finds it, and as the record with the
-- least rank from some rank on shows it.
use Rattle.std.specs.Prelude.{None, Some}
use mathlib.Core.Path.{◌≡◌, refl, sym, ap, ◌∙◌}
use mathlib.Core.Bool.{Bool, true, false}
use mathlib.Core.List.{List, [], ◌∷◌, ◌++◌}
use Prim.Native.Nat.{ℕ, ◌+◌, ◌*◌, ◌-◌, ◌≤◌, ◌<◌}
use native.Mathlib.Omega.{arith}
use lib.Dec.{eqb, ltb, leb}
use lib.ListN.{length, get_or}
use borrow.Author.Tests.{eq-eqb, ne_eqb, eqb-true, eqb-false, lt-ltb, le-ltb, ltb-true, ltb-false, le-leb, lt-leb, leb-true, leb-false}
use Rattle.laws.specs.Tests.{pick, both, either, clash, both_left, both_right}
use Rattle.file.specs.Files.{fields_of}
use Rattle.file.specs.Format.{Fields, written_record}
use Rattle.file.specs.Records.{records_in}
use Rattle.walk.proofs.WalkLaws.{none_left}
use Rattle.lines.specs.Lines.{behind}
use Rattle.lines.specs.Order.{first_ranked, first_from, Above, Rising}
use Rattle.lines.proofs.LineLaws.{size_one, Onward, place_on, place_start, next_line, next_at}
use Rattle.lines.proofs.OrderLaws.{hit_anywhere, from_place, from_rank}
use Rattle.keys.specs.Keys.{key_fields, none, of_trip, third, lesser, first_with, next_number, next_of}
use Rattle.keys.specs.Ranks.{AllKeyed, rank, rank_of, rank_key, Numbers, IsKeyed, KeyIs, record_at}
use Rattle.keys.specs.KeyFiles.{KeyFile, KeysRise, PlaceIn, IsIndex, records_from, entry_rank}
use Rattle.keys.specs.declared.Key.{Key}
use Rattle.keys.proofs.TableLaws.{keyed_one, keyed_two, keyed_nine, keyed_three}
use Rattle.keys.proofs.KeyLaws.{trip_of_lem, of_trip_lem, third_small, keyed_head, keyed_rest}
use Rattle.keys.proofs.KeyFileLaws.{key_here, first_with_lem}
use Rattle.seek.specs.Seek.{Lower}
use Rattle.seek.proofs.SeekLaws.{lower_hit, lower_least, entry_place}
use Rattle.find.specs.Find.{trip_at}
use Rattle.find.proofs.FindLaws.{small_three}

-- a key of three numbers is that of fields 1, 2 and 3
pub three_fields : (file : ℕ) → IsKeyed file → length (key_fields file) ≡ 3 → key_fields file ≡ 1 ∷ 2 ∷ 3 ∷ []
three_fields file k e =
    let past : 8 ≤ file =
    either (ltb file 6)
    (λ t. absurd (omega (arith, ap length (keyed_one file k.0 (ltb-true file 6 t)))))
    (λ t.
    either (ltb file 8)
    (λ u. absurd (omega (arith, ap length (keyed_two file (ltb-false file 6 t) (ltb-true file 8 u)))))
    (λ u. ltb-false file 8 u)) in
    keyed_three file past k.1 (λ z. omega (arith, ap length (keyed_nine file z)))

-- the lesser of two numbers, as a difference
pub lesser_is : (a b : ℕ) → lesser a b ≡ a - (a - b)
lesser_is a b =
    either (leb a b)
    (λ t. rw t (omega (arith, leb-true a b t)))
    (λ t. rw t (omega (arith, leb-false a b t)))

lesser_left : (a b : ℕ) → a ≤ b → lesser a b ≡ a
lesser_left a b h = omega (arith, lesser_is a b)

lesser_right : (a b : ℕ) → b ≤ a → lesser a b ≡ b
lesser_right a b h = omega (arith, lesser_is a b)

-- the least of three
lesser_swap : (t a b : ℕ) → lesser (lesser t a) b ≡ lesser a (lesser t b)
lesser_swap t a b =
    either (leb t a)
    (λ p.
    let h : lesser t b ≤ a = omega (arith, lesser_is t b, leb-true t a p) in
    rw p (sym (lesser_right a (lesser t b) h)))
    (λ p.
    let h = leb-false t a p in
    rw p
    (either (leb a b)
    (λ q.
    let g = leb-true a b q in
    let l : a ≤ lesser t b = omega (arith, lesser_is t b) in
    lesser_left a b g ∙ sym (lesser_left a (lesser t b) l))
    (λ q.
    let g = leb-false a b q in
    ap (lesser a) (sym (lesser_right t b (omega arith))))))

-- The records of a trip by their keys, as the code holds them.
module _ (file line trip : ℕ) (three : key_fields file ≡ 1 ∷ 2 ∷ 3 ∷ []) (small : trip < none)
    (r : Fields) (n : Numbers (key_fields file) r) (k : Key) (i : KeyIs (rank_of file r) k) where
  pub key_of_trip : k.hi ≡ line * none + trip → of_trip file line trip r ≡ true
  unfolding rank_key
  key_of_trip e =
      let g = i.rank in
      let l = i.low in
      of_trip_lem file line trip r three n small (omega arith) (omega arith)

  pub key_not_of_trip : (k.hi ≡ line * none + trip → ⊥) → of_trip file line trip r ≡ false
  unfolding rank_key
  key_not_of_trip e =
      either (of_trip file line trip r)
      (λ t.
      let z : k.hi ≡ line * none + trip = omega (arith, i.rank, i.low, trip_of_lem file line trip r three t, third_small file r n) in
      absurd (e z))
      (λ t. t)

  pub key_third : of_trip file line trip r ≡ true → k.lo ≡ third file r
  unfolding rank_key
  key_third t = omega (arith, i.rank, i.low, trip_of_lem file line trip r three t, third_small file r n)

  -- the test of a key is that of its record
  key_test : (x least : ℕ) → pick (both (eqb k.hi (line * none + trip)) (leb x k.lo)) (lesser k.lo least) least
      ≡ pick (both (of_trip file line trip r) (leb x (third file r))) (lesser (third file r) least) least
  key_test x least =
      either (eqb k.hi (line * none + trip))
      (λ t.
      let o = key_of_trip (eqb-true k.hi (line * none + trip) t) in
      rw (t, o, key_third o))
      (λ t. rw (t, key_not_of_trip (eqb-false k.hi (line * none + trip) t)))

-- The record at a place, if it is one of the trip's.
pub trip_end : (file line trip : ℕ) (s : List ℕ) (at : ℕ) → length s ≤ at → trip_at file line trip s at ≡ None
unfolding trip_at
trip_end file line trip s at h = rw (le-ltb at (length s) h)

module _ (file line trip : ℕ) (s : List ℕ) (at : ℕ) (f : KeyFile file s) (count : length (key_fields file) ≡ 3) (small : trip < none) (p : PlaceIn file s at)
    (h : at < length s) (k : Key) (i : KeyIs (rank_of file (record_at file s at)) k) where
  pub trip_here : k.hi ≡ line * none + trip → trip_at file line trip s at ≡ Some at
  unfolding trip_at
  trip_here e =
      let n = (key_here file s at f p h).numbers in
      rw (lt-ltb at (length s) h, key_of_trip file line trip (three_fields file f.keyed count) small (record_at file s at) n k i e)

  pub trip_other : (k.hi ≡ line * none + trip → ⊥) → trip_at file line trip s at ≡ None
  unfolding trip_at
  trip_other e =
      let n = (key_here file s at f p h).numbers in
      rw (lt-ltb at (length s) h, key_not_of_trip file line trip (three_fields file f.keyed count) small (record_at file s at) n k i e)

-- The pass over the records.
module _ (file line trip x : ℕ) where
  -- no number is above `none`
  pub next_most : (rs : List Fields) → next_number file line trip x rs ≤ none
  unfolding next_number
  next_most [] = omega arith
  next_most (r ∷ rs) =
      let n = next_number file line trip x rs in
      either (both (of_trip file line trip r) (leb x (third file r)))
      (λ t. rw t (omega (arith, lesser_is (third file r) n, next_most rs)))
      (λ t. rw t (next_most rs))

  -- one record more
  next_turn : (r : Fields) (rs : List Fields) (least : ℕ)
      → lesser (pick (both (of_trip file line trip r) (leb x (third file r))) (lesser (third file r) least) least) (next_number file line trip x rs)
      ≡ lesser least (next_number file line trip x (r ∷ rs))
  unfolding next_number
  next_turn r rs least =
      either (both (of_trip file line trip r) (leb x (third file r)))
      (λ t. rw t (lesser_swap (third file r) least (next_number file line trip x rs)))
      (λ t. rw t)

  -- what a pass knows when it comes to `at`: the lesser of `least` and the least number from there on is that of all
  pub record Passing (s : List ℕ) (least at : ℕ) : Type 0 where
    pub place : PlaceIn file s at
    pub most : least ≤ none
    pub same : lesser least (next_number file line trip x (records_from file s at)) ≡ next_number file line trip x (records_in (fields_of file) s)

  pub pass_start : (s : List ℕ) → KeyFile file s → Passing s none 0
  pass_start s f = record {
    place = place_start (fields_of file) s f.legal;
    most = omega arith;
    same = lesser_right none (next_number file line trip x (records_in (fields_of file) s)) (next_most (records_in (fields_of file) s));
  }

  -- behind a record
  pub pass_next : (s : List ℕ) (least at : ℕ) → Passing s least at → KeyFile file s → length (key_fields file) ≡ 3 → trip < none → at < length s
      → (k : Key) → KeyIs (rank_of file (record_at file s at)) k → (nearer : ℕ)
      → nearer ≡ pick (both (eqb k.hi (line * none + trip)) (leb x k.lo)) (lesser k.lo least) least
      → (next : ℕ) → next ≡ behind s at → Passing s nearer next
  pass_next s least at p f c h l k i nearer e next z =
      let r = record_at file s at in
      let w = next_line (fields_of file) s at p.place l next z in
      let d = e ∙ key_test file line trip (three_fields file f.keyed c) h r (key_here file s at f p.place l).numbers k i x least in
      record {
        place = w.place;
        most = either (both (eqb k.hi (line * none + trip)) (leb x k.lo))
            (λ t. let g : nearer ≡ lesser k.lo least = rw t at e in omega (arith, g, lesser_is k.lo least, p.most))
            (λ t. let g : nearer ≡ least = rw t at e in omega (arith, g, p.most));
        same = ap (λ (y : ℕ). lesser y (next_number file line trip x (records_from file s next))) d
            ∙ next_turn r (records_from file s next) least ∙ ap (λ (rs : List Fields). lesser least (next_number file line trip x rs)) (sym w.rest) ∙ p.same;
      }

  -- at the end
  pub pass_end : (s : List ℕ) (least at : ℕ) → Passing s least at → length s ≤ at → least ≡ next_number file line trip x (records_in (fields_of file) s)
  unfolding next_number
  pass_end s least at p h =
      let e = none_left (fields_of file) s at h in
      let g : next_number file line trip x (records_from file s at) ≡ none = rw e in
      sym (lesser_left least none p.most) ∙ ap (lesser least) (sym g) ∙ p.same

  -- what the least number says of the record
  pub next_nothing : (rs : List Fields) → next_number file line trip x rs ≡ none → next_of file line trip x rs ≡ None
  unfolding next_of
  next_nothing rs e = rw (eq-eqb (next_number file line trip x rs) none e)

  -- no number has ten digits
  pub next_beyond : (rs : List Fields) → AllKeyed file rs → none ≤ x → next_number file line trip x rs ≡ none
  unfolding next_number
  next_beyond [] a h = refl
  next_beyond (r ∷ rs) a h =
      let l : leb x (third file r) ≡ false = lt-leb x (third file r) (omega (arith, third_small file r (keyed_head file r rs a))) in
      rw (l, no_both (of_trip file line trip r)) (next_beyond rs (keyed_rest file r rs a) h)
    where
      no_both : (t : Bool) → both t false ≡ false
      no_both true = refl
      no_both false = refl

  pub next_found : (rs : List Fields) (y : ℕ) → y ≡ next_number file line trip x rs → (y ≡ none → ⊥)
      → next_of file line trip x rs ≡ first_with file (line ∷ trip ∷ y ∷ []) 0 rs
  unfolding next_of
  next_found rs y e h = rw (ne_eqb (next_number file line trip x rs) none (λ z. h (e ∙ z)), ← e)

-- The record with the least rank from some rank on.
-- every rank from x on is from m on
unfoldable pub From : ℕ → ℕ → ℕ → List Fields → Type 0
From file x m [] = Unit
From file x m (r ∷ rs) = (x ≤ rank_of file r → m ≤ rank_of file r) × From file x m rs

-- the record at p, if one starts there, has the least rank from x on, and is the first that has it; if none does, no rank is from x on
pub record Leads (file : ℕ) (s : List ℕ) (x p : ℕ) : Type 0 where
  pub place : p < length s → PlaceIn file s p
  pub rank : p < length s → x ≤ rank_of file (record_at file s p)
  pub first : p < length s → first_ranked (rank_of file) (rank_of file (record_at file s p)) 0 (records_in (fields_of file) s) ≡ Some p
  pub least : (m : ℕ) → (p < length s → m ≤ rank_of file (record_at file s p)) → From file x m (records_in (fields_of file) s)

-- a record at a place, and the place behind it
module _ (file : ℕ) (s : List ℕ) (at : ℕ) (r : Fields) (rs : List Fields) (p : PlaceIn file s at) (e : records_from file s at ≡ r ∷ rs) where
  within : at < length s
  within =
      either (ltb at (length s))
      (λ t. ltb-true at (length s) t)
      (λ t. absurd (omega (arith, ap length (sym (none_left (fields_of file) s at (ltb-false at (length s) t)) ∙ e))))

  onward : Onward (fields_of file) s (at + length (written_record r)) rs
  onward = place_on (fields_of file) s at p (r ∷ []) rs e (at + length (written_record r)) (omega (arith, size_one r))

-- by what is known of each place
pub from_places : (file : ℕ) (s : List ℕ) (x m : ℕ)
    → ((y : ℕ) → PlaceIn file s y → y < length s → x ≤ rank_of file (record_at file s y) → m ≤ rank_of file (record_at file s y))
    → (at : ℕ) (rs : List Fields) → PlaceIn file s at → records_from file s at ≡ rs → From file x m rs
unfolding From
from_places file s x m all at [] p e = tt
from_places file s x m all at (r ∷ rs) p e =
    let w = onward file s at r rs p e in
    (rw e at (all at p (within file s at r rs p e)), from_places file s x m all (at + length (written_record r)) rs w.place w.left)

-- by ranks that rise
pub above_from : (file x m k : ℕ) (rs : List Fields) → m ≤ k → Above (rank_of file) k rs → From file x m rs
unfolding From Above
above_from file x m k [] h a = tt
above_from file x m k (r ∷ rs) h a = (λ g. omega arith, above_from file x m k rs h a.1)

rising_from : (file : ℕ) (s : List ℕ) (x m p : ℕ) → (p < length s → m ≤ rank_of file (record_at file s p)) → (at : ℕ) (rs : List Fields) → PlaceIn file s at
    → records_from file s at ≡ rs → Rising (rank_of file) rs → p ≡ first_from (rank_of file) x at rs → From file x m rs
unfolding From Rising first_from
rising_from file s x m p top at [] q e up z = tt
rising_from file s x m p top at (r ∷ rs) q e up z =
    either (leb x (rank_of file r))
    (λ t.
    let d : p ≡ at = rw t at z in
    let h = within file s at r rs q e in
    let f : m ≤ rank_of file (record_at file s at) = rw d at (top (omega arith)) in
    let g : m ≤ rank_of file r = rw e at f in
    (λ _. g, above_from file x m (rank_of file r) rs g up.0))
    (λ t.
    let w = onward file s at r rs q e in
    (λ h. absurd (omega (arith, leb-false x (rank_of file r) t)), rising_from file s x m p top (at + length (written_record r)) rs w.place w.left up.1 (rw t at z)))

-- where keys rise, it is the first from x on
pub rising_leads : (file : ℕ) (s : List ℕ) (x p : ℕ) → KeyFile file s → KeysRise file s → p ≡ first_from (rank_of file) x 0 (records_in (fields_of file) s)
    → Leads file s x p
rising_leads file s x p f up e =
    let n = fields_of file in
    let q = from_place n (rank_of file) s x p f.legal e in
    record {
      place = λ h. q;
      rank = from_rank n (rank_of file) s x p f.legal e;
      first = λ h. hit_anywhere n (rank_of file) s p (rank_of file (record_at file s p)) up q h refl;
      least = λ m top. rising_from file s x m p top 0 (records_in n s) (place_start n s f.legal) refl up e;
    }

-- in an index it is the first entry from x on
module _ (file : ℕ) (s order : List ℕ) (x i : ℕ) (f : KeyFile file s) (index : IsIndex file s order) (l : Lower file s order x i) where
  pub index_leads : i < length order → Leads file s x (get_or order i 0)
  index_leads h =
      let w = entry_place file s order index i h in
      record {
        place = λ _. w.0;
        rank = λ _. l.«from» h;
        first = λ _.
            lower_hit file s order index f (entry_rank file s order i) i
            (record { near = l.near; below = λ j g. omega (arith, l.below j g, l.«from» h); «from» = λ _. omega arith }) h refl;
        least = λ m top.
            from_places file s x m (λ y q g k. omega (arith, top w.1, (lower_least file s order index x i l y q g k).rank))
            0 (records_in (fields_of file) s) (place_start (fields_of file) s f.legal) refl;
      }

  pub index_leads_none : length order ≤ i → Leads file s x (length s)
  index_leads_none h = record {
    place = λ g. absurd (omega arith);
    rank = λ g. absurd (omega arith);
    first = λ g. absurd (omega arith);
    least = λ m top.
        from_places file s x m (λ y q g k. absurd (omega (arith, (lower_least file s order index x i l y q g k).within)))
        0 (records_in (fields_of file) s) (place_start (fields_of file) s f.legal) refl;
  }

-- what it says of the trip's least number from x on
module _ (file line trip x : ℕ) (three : key_fields file ≡ 1 ∷ 2 ∷ 3 ∷ []) where
  next_low : (t : ℕ) → t ≤ none → (rs : List Fields) → From file ((line * none + trip) * none + x) ((line * none + trip) * none + t) rs
      → t ≤ next_number file line trip x rs
  unfolding From next_number
  next_low t h [] a = h
  next_low t h (r ∷ rs) a =
      let n = next_number file line trip x rs in
      let o = of_trip file line trip r in
      let g = leb x (third file r) in
      let i = next_low t h rs a.1 in
      either (both o g)
      (λ u.
      let z = trip_of_lem file line trip r three (both_left o g u) in
      let b = leb-true x (third file r) (both_right o g u) in
      rw u (omega (arith, lesser_is (third file r) n, a.0 (omega arith))))
      (λ u. rw u i)

  next_high : (a : List Fields) (r : Fields) (rs : List Fields) → of_trip file line trip r ≡ true → x ≤ third file r
      → next_number file line trip x (a ++ r ∷ rs) ≤ third file r
  unfolding next_number
  next_high [] r rs o h = rw (o, le-leb x (third file r) h) (omega (arith, lesser_is (third file r) (next_number file line trip x rs)))
  next_high (q ∷ a) r rs o h =
      let n = next_number file line trip x (a ++ r ∷ rs) in
      let i = next_high a r rs o h in
      either (both (of_trip file line trip q) (leb x (third file q)))
      (λ t. rw t (omega (arith, lesser_is (third file q) n)))
      (λ t. rw t i)

-- the record with the least rank from the trip's x on is the next, if it is the trip's; else there is none
module _ (file line trip x : ℕ) (s : List ℕ) (p : ℕ) (f : KeyFile file s) (count : length (key_fields file) ≡ 3) (a : line < none) (b : trip < none)
    (l : Leads file s ((line * none + trip) * none + x) p) where
  three : key_fields file ≡ 1 ∷ 2 ∷ 3 ∷ []
  three = three_fields file f.keyed count

  -- no rank of the trip is from x on
  leads_none : (p < length s → (line * none + trip) * none + none ≤ rank_of file (record_at file s p))
      → next_of file line trip x (records_in (fields_of file) s) ≡ None
  leads_none h =
      let rs = records_in (fields_of file) s in
      let z = next_low file line trip x three none (omega arith) rs (l.least ((line * none + trip) * none + none) h) in
      next_nothing file line trip x rs (omega (arith, z, next_most file line trip x rs))

  leads_here : p < length s → of_trip file line trip (record_at file s p) ≡ true → next_of file line trip x (records_in (fields_of file) s) ≡ Some p
  unfolding rank
  leads_here h t =
      let rs = records_in (fields_of file) s in
      let r = record_at file s p in
      let y = third file r in
      let q = l.place h in
      let e = trip_of_lem file line trip r three t in
      let u = third_small file r (key_here file s p f q h).numbers in
      let w = q.whole ∙ ap (λ (z : List Fields). q.past ++ z) (next_at (fields_of file) s p q h).rest in
      let high = next_high file line trip x three q.past r (records_from file s (behind s p)) t (omega (arith, e, l.rank h)) in
      let low = next_low file line trip x three y (omega arith) rs (l.least ((line * none + trip) * none + y) (λ _. omega (arith, e))) in
      let d : y ≡ next_number file line trip x rs = omega (arith, low, high, ap (next_number file line trip x) w) in
      next_found file line trip x rs y d (λ z. omega arith)
      ∙ first_with_lem file (line ∷ trip ∷ y ∷ []) f.keyed (small_three line trip y a b u) (sym count) 0 rs f.keys
      ∙ ap (λ (z : ℕ). first_ranked (rank_of file) z 0 rs) (sym e)
      ∙ l.first h

  pub leads_next : trip_at file line trip s p ≡ next_of file line trip x (records_in (fields_of file) s)
  unfolding trip_at
  leads_next =
      let r = record_at file s p in
      either (ltb p (length s))
      (λ u.
      let h = ltb-true p (length s) u in
      either (of_trip file line trip r)
      (λ t. rw (u, t) (sym (leads_here h t)))
      (λ t.
      let g : (line * none + trip) * none + none ≤ rank_of file r =
      either (ltb (rank_of file r) ((line * none + trip) * none + none))
      (λ v.
      clash
      (of_trip_lem file line trip r three (key_here file s p f (l.place h) h).numbers b (omega (arith, l.rank h))
      (ltb-true (rank_of file r) ((line * none + trip) * none + none) v))
      t)
      (λ v. ltb-false (rank_of file r) ((line * none + trip) * none + none) v) in
      rw (u, t) (sym (leads_none (λ _. g)))))
      (λ u. rw u (sym (leads_none (λ h. absurd (omega (arith, ltb-false p (length s) u))))))
