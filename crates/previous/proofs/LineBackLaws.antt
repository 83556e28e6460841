-- Lines backwards: an LF ends the record before a place, and a record starts where that line does.
use mathlib.Core.Path.{◌≡◌, refl, sym, ap, ◌∙◌}
use mathlib.Core.List.{List, [], ◌∷◌, ◌++◌, append_assoc}
use Prim.Native.Nat.{ℕ, zero, suc, ◌+◌, ◌-◌, ◌≤◌, ◌<◌}
use native.Mathlib.Omega.{arith}
use lib.Dec.{eqb, ltb}
use lib.ListN.{length, get_or, drop}
use borrow.Author.Tests.{eqb-true, eqb-false, ltb-true, ltb-false}
use Rattle.laws.specs.Tests.{either}
use Rattle.file.specs.Format.{Fields, written_record, written}
use Rattle.file.specs.Records.{records_in}
use Rattle.walk.specs.Walk.{LegalFrom}
use Rattle.walk.proofs.WalkLaws.{none_left, first_record}
use Rattle.lines.specs.Lines.{lead, behind, Place}
use Rattle.lines.proofs.LineLaws.{lead_hit, lead_miss, lead_end, size_append, size_one, place_on, place_start, start_place, next_at}
use Rattle.previous.specs.Steps.{LineBefore}

-- from anywhere in a line the same LF is the next
lead_within : (s : List ℕ) (at d : ℕ) → d ≤ lead (drop at s) → behind s (at + d) ≡ behind s at
lead_within s at zero h = let e : at + 0 ≡ at = omega arith in rw e
lead_within s at (suc d) h =
    either (ltb at (length s))
    (λ t.
    let l = ltb-true at (length s) t in
    let m = lead_miss s at l (λ e. omega (arith, lead_hit s at l e)) in
    let e : at + suc d ≡ at + 1 + d = omega arith in
    let i = lead_within s (at + 1) d (omega arith) in
    rw e (i ∙ (omega arith)))
    (λ t. absurd (omega (arith, lead_end s at (ltb-false at (length s) t))))

-- the last of some records
record Last (rs : List Fields) : Type 0 where
  init : List Fields
  last : Fields
  whole : rs ≡ init ++ (last ∷ [])

last_of : (r : Fields) (rs : List Fields) → Last (r ∷ rs)
last_of r [] = record { init = []; last = r; whole = refl }
last_of r (q ∷ rs) = let w = last_of q rs in record { init = r ∷ w.init; last = w.last; whole = ap (λ (l : List Fields). r ∷ l) w.whole }

-- the record before a place
record Before (n : ℕ) (s : List ℕ) (at : ℕ) : Type 0 where
  start : ℕ
  near : start < at
  next : behind s start ≡ at

before_last : (n : ℕ) (s : List ℕ) (at : ℕ) → LegalFrom n s 0 → (p : Place n s at) → Last p.past → Before n s at
before_last n s at l p w =
    let rest = records_in n (drop at s) in
    let e : records_in n s ≡ w.init ++ (w.last ∷ rest) =
    p.whole ∙ ap (λ (x : List Fields). x ++ rest) w.whole ∙ append_assoc w.init (w.last ∷ []) rest in
    let t = length (written w.init) in
    let o = place_on n s 0 (place_start n s l) w.init (w.last ∷ rest) e t (omega arith) in
    let h : t < length s =
    either (ltb t (length s))
    (λ u. ltb-true t (length s) u)
    (λ u. absurd (omega (arith, ap length (sym (none_left n s t (ltb-false t (length s) u)) ∙ o.left)))) in
    let x = next_at n s t o.place h in
    let f : first_record n s t ≡ w.last = rw o.left in
    let z : behind s t ≡ t + length (written_record w.last) = x.size ∙ ap (λ (r : Fields). t + length (written_record r)) f in
    let k = ap (λ (y : List Fields). length (written y)) w.whole in
    record {
      start = t;
      near = omega (arith, z, k, p.size, size_append w.init (w.last ∷ []), size_one w.last);
      next = omega (arith, z, k, p.size, size_append w.init (w.last ∷ []), size_one w.last);
    }

before : (n : ℕ) (s : List ℕ) (at : ℕ) → LegalFrom n s 0 → Place n s at → 0 < at → Before n s at
unfolding written
before n s at l p h = go p.past refl
  where
    go : (rs : List Fields) → p.past ≡ rs → Before n s at
    go [] e = absurd (omega (arith, p.size, ap (λ (y : List Fields). length (written y)) e))
    go (r ∷ rs) e = before_last n s at l p (rw e (last_of r rs))

-- an LF stands before each place but the first
pub ended : (n : ℕ) (s : List ℕ) (at : ℕ) → LegalFrom n s 0 → Place n s at → 0 < at → get_or s (at - 1) 0 ≡ 10
ended n s at l p h =
    let b = before n s at l p h in
    let d = at - 1 - b.start in
    let k = b.near in
    let m = b.next in
    let e : b.start + d ≡ at - 1 = omega arith in
    let w = lead_within s b.start d (omega arith) in
    let v : behind s (at - 1) ≡ at = rw e at (w ∙ m) in
    either (eqb (get_or s (at - 1) 0) 10)
    (λ t. eqb-true (get_or s (at - 1) 0) 10 t)
    (λ t. absurd (omega (arith, v, lead_miss s (at - 1) (omega (arith, p.near)) (eqb-false (get_or s (at - 1) 0) 10 t))))

-- the walk back: from the LF, past another byte, to the start
pub back_first : (s : List ℕ) (at : ℕ) → 0 < at → at ≤ length s → get_or s (at - 1) 0 ≡ 10 → behind s (at - 1) ≡ at
back_first s at h l e = omega (arith, lead_hit s (at - 1) (omega arith) e)

pub back_turn : (s : List ℕ) (at i : ℕ) → 0 < i → i < length s → (get_or s (i - 1) 0 ≡ 10 → ⊥) → behind s i ≡ at → behind s (i - 1) ≡ at
back_turn s at i h l ne e =
    let z : i - 1 + 1 ≡ i = omega arith in
    let m = lead_miss s (i - 1) (omega arith) ne in
    let w = rw z at m in
    omega (arith, w, e)

-- a record starts there, and the place behind it is the one that was left
pub before_place : (n : ℕ) (s : List ℕ) (at r : ℕ) → LegalFrom n s 0 → at ≤ length s → LineBefore s at r → Place n s r
before_place n s at r l h b =
    either (eqb r 0)
    (λ t. rw (eqb-true r 0 t) (place_start n s l))
    (λ t.
    let ne = eqb-false r 0 t in
    let g : 0 < r = omega arith in
    start_place n s r l g (omega (arith, b.near)) (b.opens g))
