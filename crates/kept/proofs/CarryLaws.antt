-- Refusal 11's statements carry over from places of one kind to places of another, where these hold the same records in the same order.
use mathlib.Core.Path.{◌≡◌, sym}
use Rattle.file.specs.Format.{Fields}
use Rattle.kept.specs.Trips.{StopsKept}

-- `Meets p q`: places p and q are the same. Each has one that is the same, with the same record, and one is before another in both kinds or in neither.
pub record Matches {P Q : Type 0} (StopP : P → Type 0) (StopQ : Q → Type 0) (at_p : P → Fields) (atQ : Q → Fields) (AheadP : P → P → Type 0)
    (AheadQ : Q → Q → Type 0) (Meets : P → Q → Type 0) : Type 0 where
  pub here : (q : Q) → StopQ q → (p : P) × StopP p × Meets p q
  pub there : (p : P) → StopP p → (q : Q) × StopQ q × Meets p q
  pub same : (p : P) (q : Q) → Meets p q → at_p p ≡ atQ q
  pub onward : (p o : P) (q s : Q) → StopP p → StopP o → StopQ q → StopQ s → Meets p q → Meets o s → AheadP p o → AheadQ q s
  pub home : (p o : P) (q s : Q) → StopP p → StopP o → StopQ q → StopQ s → Meets p q → Meets o s → AheadQ q s → AheadP p o

module _ {P Q : Type 0} (StopP : P → Type 0) (StopQ : Q → Type 0) (at_p : P → Fields) (atQ : Q → Fields) (AheadP : P → P → Type 0)
    (AheadQ : Q → Q → Type 0) (Meets : P → Q → Type 0) (m : Matches StopP StopQ at_p atQ AheadP AheadQ Meets) where
  -- it is the same seen from there
  pub turned : Matches StopQ StopP atQ at_p AheadQ AheadP (λ q p. Meets p q)
  turned = record {
    here = m.there;
    there = m.here;
    same = λ q p e. sym (m.same p q e);
    onward = λ q s p o b d a c e f h. m.home p o q s a c b d e f h;
    home = λ q s p o b d a c e f h. m.onward p o q s a c b d e f h;
  }

  -- a place of the first kind that is the same as q
  abbrev Mate : Q → Type 0
  Mate q = (p : P) × StopP p × Meets p q

  record_of : (q : Q) (p : Mate q) → at_p p.0 ≡ atQ q
  record_of q p = m.same p.0 q p.2

  goes_on : (q s : Q) → StopQ q → StopQ s → (p : Mate q) (o : Mate s) → AheadP p.0 o.0 → AheadQ q s
  goes_on q s a b p o h = m.onward p.0 o.0 q s p.1 o.1 a b p.2 o.2 h

  goes_home : (q s : Q) → StopQ q → StopQ s → (p : Mate q) (o : Mate s) → AheadQ q s → AheadP p.0 o.0
  goes_home q s a b p o h = m.home p.0 o.0 q s p.1 o.1 a b p.2 o.2 h

  -- the statements hold there too
  module _ (k : StopsKept P StopP at_p AheadP) (f l : Q) (fs : StopQ f) (ls : StopQ l) (fm : Meets k.first f) (lm : Meets k.last l) where
    abbrev first_mate : Mate f
    first_mate = (k.first, k.first_stop, fm)

    abbrev last_mate : Mate l
    last_mate = (k.last, k.last_stop, lm)

    abbrev mate : (q : Q) → StopQ q → Mate q
    mate q s = m.here q s

    carried_ends : StopsKept Q StopQ atQ AheadQ
    carried_ends = record {
      first = f;
      last = l;
      first_stop = fs;
      last_stop = ls;
      two = goes_on f l fs ls first_mate last_mate k.two;
      none_ahead = λ q s h. rw (← record_of q (mate q s)) (k.none_ahead (mate q s).0 (mate q s).1 (goes_home q f s fs (mate q s) first_mate h));
      none_behind = λ q s h. rw (← record_of q (mate q s)) (k.none_behind (mate q s).0 (mate q s).1 (goes_home l q ls s last_mate (mate q s) h));
      first_departs = rw (← record_of f first_mate) k.first_departs;
      first_no_arrival = rw (← record_of f first_mate) k.first_no_arrival;
      first_kilometre = rw (← record_of f first_mate) k.first_kilometre;
      last_arrives = rw (← record_of l last_mate) k.last_arrives;
      no_blank = λ q s a b.
          rw (← record_of q (mate q s)) (k.no_blank (mate q s).0 (mate q s).1 (goes_home f q fs s first_mate (mate q s) a)
          (goes_home q l s ls (mate q s) last_mate b));
      departs_between = λ q s a b t.
          rw (← record_of q (mate q s)) (k.departs_between (mate q s).0 (mate q s).1 (goes_home f q fs s first_mate (mate q s) a)
          (goes_home q l s ls (mate q s) last_mate b) (rw (← record_of q (mate q s)) at t));
      passes_between = λ q s t.
          let w = k.passes_between (mate q s).0 (mate q s).1 (rw (← record_of q (mate q s)) at t) in
          (goes_on f q fs s first_mate (mate q s) w.0, goes_on q l s ls (mate q s) last_mate w.1);
      own_times = λ q s a d.
          rw (← record_of q (mate q s)) (k.own_times (mate q s).0 (mate q s).1 (rw (← record_of q (mate q s)) at a) (rw (← record_of q (mate q s)) at d));
      times = λ q o s r h t u a b.
          k.times (mate q s).0 (mate o r).0 (mate q s).1 (mate o r).1 (goes_home q o s r (mate q s) (mate o r) h) t u
          (rw (← record_of q (mate q s)) at a) (rw (← record_of o (mate o r)) at b);
      lengths = λ q o s r h a b.
          rw (← record_of q (mate q s), ← record_of o (mate o r)) (k.lengths (mate q s).0 (mate o r).0 (mate q s).1 (mate o r).1
          (goes_home q o s r (mate q s) (mate o r) h) (rw (← record_of q (mate q s)) at a) (rw (← record_of o (mate o r)) at b));
    }

  pub carried : StopsKept P StopP at_p AheadP → StopsKept Q StopQ atQ AheadQ
  carried k =
      let f = m.there k.first k.first_stop in
      let l = m.there k.last k.last_stop in
      carried_ends k f.0 l.0 f.1 l.1 f.2 l.2
