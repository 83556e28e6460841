-- The pass that never looks ahead is document 01's rule: what it ends with is `stops_fit`. The times, the kilometres and the places each go
-- their own way through the records.
use mathlib.Core.Path.{◌≡◌, refl, sym, ap, ◌∙◌}
use mathlib.Core.Bool.{Bool, true, false, not}
use mathlib.Core.List.{List, [], ◌∷◌}
use Prim.Native.Nat.{ℕ, suc, ◌<◌}
use native.Mathlib.Omega.{arith}
use lib.Dec.{eqb, leb, ltb}
use lib.ListN.{length, get_or, get_or-eq_default}
use borrow.Author.Tests.{lt-ltb, le-ltb, le-leb, lt-leb, leb-true, leb-false, eqb-true, eq-eqb}
use Rattle.laws.specs.Tests.{pick, both, one_of, either}
use Rattle.file.specs.Format.{Text, Fields}
use Rattle.field.specs.Values.{is_empty, given, value_from, value, is_time, minute_of}
use Rattle.field.specs.Names.{kilometres, arrival, departure, trip_stops_file}
use Rattle.field.specs.Kinds.{kinds, zasspoje, kind_of, admits}
use Rattle.field.specs.Stage.{first_unkind}
use Rattle.field.proofs.ValueLaws.{minute_bound, digits_bound}
use Rattle.field.proofs.AdmitLaws.{given_digits}
use Rattle.rules.proofs.KindLaws.{kind_at}
use Rattle.trail.specs.Lists.{some, tally}
use Rattle.trip.specs.Stops.{
  arrives,
  departs,
  timed,
  passes,
  blank,
  first_fits,
  place_fits,
  places_fit,
  minute_at,
  never_falls,
  arrival_minute,
  departure_minute,
  times_fit,
  lengths_fit,
  stops_fit,
}
use Rattle.track.specs.Track.{set_out, timed_on, untimed_on, track_on, track_ends, fallen, minute_on, time_on, shrunk, length_on, course_ends}
use Rattle.track.specs.declared.Track.{Track}
use Rattle.course.specs.Course.{minute_or, visit_of, track_behind, time_behind, length_behind}

-- THE TIMES.
-- a time field, where the walk stands at `last`: it goes on, it falls, and what has fallen stays so
module _ (t : Text) where
  abbrev stepped : ℕ → ℕ
  stepped last = minute_on last (is_time t) (minute_or t)

  step_goes : (last : ℕ) → never_falls last t ≡ true → stepped last ≡ minute_at last t
  unfolding never_falls minute_at minute_on minute_or
  step_goes last e = go (is_time t) e
    where
      go : (b : Bool) → leb last (pick b (minute_of t) last) ≡ true
          → pick b (pick (leb last (pick b (minute_of t) 0)) (pick b (minute_of t) 0) fallen) last ≡ pick b (minute_of t) last
      go true f = rw f
      go false f = refl

  step_falls : (last : ℕ) → never_falls last t ≡ false → stepped last ≡ fallen
  unfolding never_falls minute_at minute_on minute_or
  step_falls last e = go (is_time t) e
    where
      go : (b : Bool) → leb last (pick b (minute_of t) last) ≡ false → pick b (pick (leb last (pick b (minute_of t) 0)) (pick b (minute_of t) 0) fallen) last ≡ fallen
      go true f = rw f
      go false f = absurd (omega (arith, leb-false last last f))

  step_stays : stepped fallen ≡ fallen
  unfolding minute_on minute_or
  step_stays =
      either (is_time t)
      (λ p. let h : minute_of t < fallen = omega (arith, minute_bound t p) in rw (p, lt-leb fallen (minute_of t) h))
      (λ p. rw p)

  minute_under : (last : ℕ) → last < fallen → minute_at last t < fallen
  unfolding minute_at
  minute_under last h = either (is_time t) (λ p. rw p (omega (arith, minute_bound t p))) (λ p. rw p h)

time_on_lem : (last : ℕ) (r : Fields) → time_on last (visit_of r) ≡ stepped (departure r) (stepped (arrival r) last)
unfolding time_on visit_of arrives departs
time_on_lem last r = refl

time_stays : (rs : List Fields) → time_behind fallen rs ≡ fallen
unfolding time_behind
time_stays [] = refl
time_stays (r ∷ rs) =
    let e : time_on fallen (visit_of r) ≡ fallen = time_on_lem fallen r ∙ ap (λ (n : ℕ). stepped (departure r) n) (step_stays (arrival r)) ∙ step_stays (departure r) in
    ap (λ (n : ℕ). time_behind n rs) e ∙ time_stays rs

fallen_fails : (n : ℕ) → n ≡ fallen → ltb n fallen ≡ false
fallen_fails n e = le-ltb n fallen (omega arith)

-- a record that brings the walk to `fallen` ends it
time_fails : (last : ℕ) (r : Fields) (rs : List Fields) → stepped (departure r) (stepped (arrival r) last) ≡ fallen
    → ltb (time_behind (time_on last (visit_of r)) rs) fallen ≡ false
time_fails last r rs e =
    fallen_fails (time_behind (time_on last (visit_of r)) rs) (ap (λ (n : ℕ). time_behind n rs) (time_on_lem last r ∙ e) ∙ time_stays rs)

-- the last minute is below `fallen` exactly if times never fall
pub times_are : (last : ℕ) (rs : List Fields) → last < fallen → ltb (time_behind last rs) fallen ≡ times_fit last rs
unfolding time_behind times_fit arrival_minute departure_minute
times_are last [] h = lt-ltb last fallen h
times_are last (r ∷ rs) h =
    let a = arrival r in
    let d = departure r in
    let m = minute_at last a in
    either (never_falls last a)
    (λ p.
    let s : stepped a last ≡ m = step_goes a last p in
    let f : stepped d (stepped a last) ≡ stepped d m = ap (λ (n : ℕ). stepped d n) s in
    either (never_falls m d)
    (λ q.
    let e : time_on last (visit_of r) ≡ minute_at m d = time_on_lem last r ∙ f ∙ step_goes d m q in
    rw (p, q, e) (times_are (minute_at m d) rs (minute_under d m (minute_under a last h))))
    (λ q. rw (p, q) (time_fails last r rs (f ∙ step_falls d m q))))
    (λ p. rw p (time_fails last r rs (ap (λ (n : ℕ). stepped d n) (step_falls a last p) ∙ step_stays d)))

-- THE KILOMETRES.
-- each kilometre is below `shrunk`
unfoldable pub AllTame : List Fields → Type 0
AllTame [] = Unit
AllTame (r ∷ rs) = (value (kilometres r) < shrunk) × AllTame rs

no_text : (t : Text) → length t ≡ 0 → value t < shrunk
unfolding value_from
no_text [] z = omega arith
no_text (x ∷ t) z = absurd (omega arith)

kind_tame : (t : Text) → admits (kind_of trip_stops_file 8) t ≡ true → value t < shrunk
unfolding kind_of kinds zasspoje
kind_tame t a = either (is_empty t) (λ p. no_text t (eqb-true (length t) 0 p)) (λ p. digits_bound 1 9 t (given_digits 1 9 t a (ap not p)))

-- so it is in a record of kinds
pub kinds_tame : (r : Fields) → first_unkind trip_stops_file 1 r ≡ 0 → value (kilometres r) < shrunk
kinds_tame r e =
    either (leb 8 (length r))
    (λ p. kind_tame (kilometres r) (kind_at trip_stops_file r e 8 (omega arith) (leb-true 8 (length r) p)))
    (λ p.
    let z : kilometres r ≡ [] = get_or-eq_default r [] (omega (arith, leb-false 8 (length r) p)) in
    no_text (kilometres r) (ap (λ (t : Text). length t) z))

-- so it is in all of these, where each is of its kinds
pub all_tame : (rs : List Fields) → ((i : ℕ) → i < length rs → first_unkind trip_stops_file 1 (get_or rs i []) ≡ 0) → AllTame rs
unfolding AllTame
all_tame [] k = tt
all_tame (r ∷ rs) k = (kinds_tame r (k 0 (omega arith)), all_tame rs (λ i h. k (suc i) (omega arith)))

length_keeps : (r : Fields) → value (kilometres r) < shrunk → length_on shrunk (visit_of r) ≡ shrunk
unfolding length_on visit_of
length_keeps r h = either (given (kilometres r)) (λ p. rw (p, lt-leb shrunk (value (kilometres r)) h)) (λ p. rw p)

length_stays : (rs : List Fields) → AllTame rs → length_behind shrunk rs ≡ shrunk
unfolding length_behind AllTame
length_stays [] a = refl
length_stays (r ∷ rs) a = rw (length_keeps r a.0) (length_stays rs a.1)

-- the last kilometre is below `shrunk` exactly if kilometres never fall
pub lengths_are : (last : ℕ) (rs : List Fields) → last < shrunk → AllTame rs → ltb (length_behind last rs) shrunk ≡ lengths_fit last rs
unfolding length_behind lengths_fit AllTame length_on visit_of
lengths_are last [] h a = lt-ltb last shrunk h
lengths_are last (r ∷ rs) h a =
    let k = value (kilometres r) in
    either (given (kilometres r))
    (λ p.
    either (leb last k)
    (λ q. rw (p, q) (lengths_are k rs a.0 a.1))
    (λ q. rw (p, q) (le-ltb (length_behind shrunk rs) shrunk (omega (arith, length_stays rs a.1)))))
    (λ p. rw p (lengths_are last rs h a.1))

-- THE PLACES.
both_all : (a : Bool) → both a true ≡ a
both_all true = refl
both_all false = refl

-- a record with a time, and one without
on_timed : (c : Track) (r : Fields) → timed r ≡ true → track_on c (visit_of r) ≡ timed_on c (visit_of r)
unfolding track_on visit_of timed
on_timed c r e = rw e

on_untimed : (c : Track) (r : Fields) → timed r ≡ false → track_on c (visit_of r) ≡ untimed_on c (visit_of r)
unfolding track_on visit_of timed
on_untimed c r e = rw e

-- what is still asked of the records that have come, where one with a time has: by whether one with a time is to come
abbrev awaited : Track → Bool → Bool
awaited c s = pick s (both c.departs (not c.blank)) (both (eqb c.seen 2) (both c.arrives (not c.passed)))

-- the tests that a step asks, in another order
begun_more : (f x s d a p : Bool) → both (both f x) (both (pick s (both d true) (both true (both a true))) p) ≡ both f (both x (both (pick s d a) p))
begun_more false x s d a p = refl
begun_more true false s d a p = refl
begun_more true true true true a p = refl
begun_more true true true false a p = refl
begun_more true true false d true p = refl
begun_more true true false d false p = refl

begun_other : (s d a b t e y z p : Bool)
    → both (pick s (both d (not (one_of b y))) (both t (both a (not (one_of e z))))) p
    ≡ both (pick s (both d (not b)) (both t (both a (not e)))) (both (pick s (not y) (not z)) p)
begun_other true true a true t e y z p = refl
begun_other true true a false t e y z p = refl
begun_other true false a b t e y z p = refl
begun_other false d true b true true y z p = refl
begun_other false d true b true false y z p = refl
begun_other false d false b true e y z p = refl
begun_other false d a b false e y z p = refl

first_more : (f d k s p : Bool) → both (both f (both d k)) (both (pick s (both d true) false) p) ≡ both f (both s (both (both d k) p))
first_more false d k s p = refl
first_more true true true true p = refl
first_more true true true false p = refl
first_more true true false true p = refl
first_more true true false false p = refl
first_more true false k true p = refl
first_more true false k false p = refl

first_other : (f y l p : Bool) → both (both f y) (both l p) ≡ both f (both l (both y p))
first_other false y l p = refl
first_other true true true p = refl
first_other true true false p = refl
first_other true false true p = refl
first_other true false false p = refl

module _ (c : Track) (r : Fields) (s p : Bool) where
  begun_timed : eqb c.seen 0 ≡ false → timed r ≡ true
      → both (timed_on c (visit_of r)).fits (both (awaited (timed_on c (visit_of r)) s) p)
      ≡ both c.fits (both (awaited c (one_of (timed r) s)) (both (place_fits true s r) p))
  unfolding timed_on visit_of place_fits
  begun_timed h e = rw (h, e) (begun_more c.fits (both c.departs (not c.blank)) s (departs r) (arrives r) p)

  begun_untimed : eqb c.seen 0 ≡ false → timed r ≡ false
      → both (untimed_on c (visit_of r)).fits (both (awaited (untimed_on c (visit_of r)) s) p)
      ≡ both c.fits (both (awaited c (one_of (timed r) s)) (both (place_fits true s r) p))
  unfolding untimed_on visit_of place_fits
  begun_untimed h e =
      rw (h, e)
      (ap (λ (b : Bool). both c.fits b)
      (begun_other s c.departs c.arrives c.blank (eqb c.seen 2) c.passed (blank r) (passes r) p))

  seen_timed : eqb (timed_on c (visit_of r)).seen 0 ≡ false
  unfolding timed_on
  seen_timed = either (eqb c.seen 0) (λ q. rw q) (λ q. rw q)

  seen_untimed : (untimed_on c (visit_of r)).seen ≡ c.seen
  unfolding untimed_on
  seen_untimed = either (eqb c.seen 0) (λ q. rw q) (λ q. rw q)

-- where one with a time has come
track_begun : (c : Track) (rs : List Fields) → eqb c.seen 0 ≡ false
    → track_ends (track_behind c rs) ≡ both c.fits (both (awaited c (some timed rs)) (places_fit true rs))
unfolding track_behind some places_fit track_ends
track_begun c [] h = ap (λ (b : Bool). both c.fits b) (sym (both_all (awaited c false)))
track_begun c (r ∷ rs) h =
    let s = some timed rs in
    let p = places_fit true rs in
    either (timed r)
    (λ e.
    ap (λ (x : Track). track_ends (track_behind x rs)) (on_timed c r e)
    ∙ track_begun (timed_on c (visit_of r)) rs (seen_timed c r s p)
    ∙ begun_timed c r s p h e)
    (λ e.
    ap (λ (x : Track). track_ends (track_behind x rs)) (on_untimed c r e)
    ∙ track_begun (untimed_on c (visit_of r)) rs (ap (λ (n : ℕ). eqb n 0) (seen_untimed c r s p) ∙ h)
    ∙ begun_untimed c r s p h e)

-- behind the first with a time, two have one if there is another
two_timed : (rs : List Fields) → leb 2 (suc (tally timed rs)) ≡ some timed rs
unfolding tally some
two_timed [] = refl
two_timed (r ∷ rs) = either (timed r) (λ e. rw e (le-leb 2 (suc (suc (tally timed rs))) (omega arith))) (λ e. rw e (two_timed rs))

module _ (c : Track) (r : Fields) (rs : List Fields) (h : eqb c.seen 0 ≡ true) where
  first_timed : timed r ≡ true
      → both (timed_on c (visit_of r)).fits (both (awaited (timed_on c (visit_of r)) (some timed rs)) (places_fit true rs))
      ≡ both c.fits (both (leb 2 (tally timed (r ∷ rs))) (places_fit false (r ∷ rs)))
  unfolding timed_on visit_of places_fit place_fits first_fits tally
  first_timed e =
      rw (h, e, two_timed rs) (first_more c.fits (departs r) (both (not (arrives r)) (eqb (value (kilometres r)) 0)) (some timed rs) (places_fit true rs))

  first_untimed : timed r ≡ false
      → both (untimed_on c (visit_of r)).fits (both (leb 2 (tally timed rs)) (places_fit false rs))
      ≡ both c.fits (both (leb 2 (tally timed (r ∷ rs))) (places_fit false (r ∷ rs)))
  unfolding untimed_on visit_of places_fit place_fits tally
  first_untimed e = rw (h, e) (first_other c.fits (not (passes r)) (leb 2 (tally timed rs)) (places_fit false rs))

-- and where none has
track_first : (c : Track) (rs : List Fields) → c.seen ≡ 0
    → track_ends (track_behind c rs) ≡ both c.fits (both (leb 2 (tally timed rs)) (places_fit false rs))
unfolding track_behind tally places_fit track_ends
track_first c [] h = rw h
track_first c (r ∷ rs) h =
    let z = eq-eqb c.seen 0 h in
    either (timed r)
    (λ e.
    ap (λ (x : Track). track_ends (track_behind x rs)) (on_timed c r e)
    ∙ track_begun (timed_on c (visit_of r)) rs (seen_timed c r true true)
    ∙ first_timed c r rs z e)
    (λ e.
    ap (λ (x : Track). track_ends (track_behind x rs)) (on_untimed c r e)
    ∙ track_first (untimed_on c (visit_of r)) rs (seen_untimed c r true true ∙ h)
    ∙ first_untimed c r rs z e)

-- a track that sets out ends well exactly if two records have a time and each fits its place
pub places_are : (rs : List Fields) → track_ends (track_behind set_out rs) ≡ both (leb 2 (tally timed rs)) (places_fit false rs)
unfolding set_out
places_are rs = track_first set_out rs refl

-- the pass that never looks ahead is document 01's rule
pub course_is_stops : (rs : List Fields) → AllTame rs → course_ends (track_behind set_out rs) (time_behind 0 rs) (length_behind 0 rs) ≡ stops_fit rs
unfolding course_ends stops_fit
course_is_stops rs a =
    rw (places_are rs, times_are 0 rs (omega arith), lengths_are 0 rs (omega arith) a)
    (of_three (leb 2 (tally timed rs)) (places_fit false rs) (both (times_fit 0 rs) (lengths_fit 0 rs)))
  where
    of_three : (x y z : Bool) → both (both x y) z ≡ both x (both y z)
    of_three true y z = refl
    of_three false y z = refl
