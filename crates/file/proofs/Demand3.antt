-- Demand 3: a file can be read in one way only. Over any number n of fields in a record, n at least 1; ThirteenFiles.antt has it for the
-- thirteen files.
use mathlib.Core.Path.{◌≡◌, refl, sym, ap, ◌∙◌, subst}
use mathlib.Core.List.{List, ◌++◌, append_assoc}
use mathlib.Core.Logic.{◌↔◌, ◌⊎◌, inl, inr}
use Prim.Native.Nat.{ℕ, suc, ◌+◌, ◌-◌, ◌≤◌, ◌<◌}
use native.Mathlib.Nat.{zero-add}
use native.Mathlib.Omega.{arith}
use lib.ListN.{length, take, drop}
use lib.Seq.{take_all, take-add}
use Rattle.file.specs.Format.{Fields, written, Permitted, Legal, Begins}
use Rattle.file.specs.Places.{Gives}
use Rattle.file.specs.Reading.{opening, fresh, State, run, reading}
use Rattle.file.specs.declared.Outcome.TheVariants.{Whole, Unfit, CutShort}
use Rattle.file.proofs.PlaceLaws.{gives, given_once, read_count}
use Rattle.file.proofs.Sound.{IsWhole, sound}
use Rattle.file.proofs.Beginnings.{On, Stopped, Ended, run_append, complete, to_the_end, ended}

-- two lists of permitted records with the same writing are the same list
pub written_once : (n : ℕ) → 1 ≤ n → (rs qs : List Fields) → Permitted n rs → Permitted n qs → written rs ≡ written qs → rs ≡ qs
written_once n h rs qs p q e = given_once n (written rs) rs qs (gives n h rs p) (rw e (gives n h qs q))

-- a reading that comes to a whole number of records has read a legal file
pub whole_legal : (n : ℕ) → 1 ≤ n → (s : List ℕ) → IsWhole (reading n s) → Legal n s
whole_legal n h s w = sound n h s opening 0 0 0 0 h w

-- the reader gives a list exactly if the bytes are its writing and it is a list of permitted records
pub read_is_written : (n : ℕ) → 1 ≤ n → (s : List ℕ) (rs : List Fields) → Gives n s rs ↔ (Permitted n rs × (written rs ≡ s))
read_is_written n h s rs = (there, back)
  where
    back : Permitted n rs × (written rs ≡ s) → Gives n s rs
    back p = rw p.1 at (gives n h rs p.0)

    there : Gives n s rs → Permitted n rs × (written rs ≡ s)
    there g =
        let l = whole_legal n h s (rw g.count tt) in
        let o = rw l.2 at (gives n h l.0 l.1) in
        let e : l.0 ≡ rs = given_once n s l.0 rs o g in
        subst (λ (x : List Fields). Permitted n x × (written x ≡ s)) e (l.1, l.2)

-- the place that the reader names: an unfit byte, or the file's end
abbrev pub Named : ℕ → List ℕ → ℕ → Type 0
Named n s p = ((reading n s ≡ Unfit p) × (p < length s)) ⊎ ((reading n s ≡ CutShort p) × (p ≡ length s))

-- what the reading gets through is a beginning of a legal file
goes_on_lem : (n : ℕ) → 1 ≤ n → (s : List ℕ) → On n (run n fresh s) → Begins n s
goes_on_lem n h s o =
    let st = run n fresh s in
    let c = complete n st.mode st.field st.records st.at st.start o.room o.going in
    (c.0, whole_legal n h (s ++ c.0) (rw (run_append n s fresh c.0) c.1))

-- and what goes beyond the byte at which it stops is none
no_further : (n : ℕ) → 1 ≤ n → (s : List ℕ) (st : Stopped n fresh s) (q : ℕ) → st.j < q → Begins n (take q s) → ⊥
no_further n h s st q l b =
    let legal = b.1 in
    let k = read_count n h legal.0 legal.1 in
    let e : suc st.j + (q - suc st.j) ≡ q = omega arith in
    let t : take q s ≡ take (suc st.j) s ++ take (q - suc st.j) (drop (suc st.j) s) =
    ap (λ (x : ℕ). take x s) (sym e) ∙ take-add (suc st.j) (q - suc st.j) s in
    let w : written legal.0 ≡ take (suc st.j) s ++ (take (q - suc st.j) (drop (suc st.j) s) ++ b.0) = legal.2 ∙ rw (t, append_assoc) in
    let u = st.stops (take (q - suc st.j) (drop (suc st.j) s) ++ b.0) in
    apart (sym k ∙ ap (λ (x : List ℕ). reading n x) w ∙ u)
  where
    apart : {k p : ℕ} → Whole k ≡ Unfit p → ⊥
    apart e = let z : ◌≡◌ {A = ℕ} 0 1 = cc in omega arith

-- if there is no such list, the place that the reader names is the length of the longest beginning that some legal file also begins
-- with: that beginning is one, and none longer is
pub longest_beginning : (n : ℕ) → 1 ≤ n → (s : List ℕ) → (Legal n s → ⊥)
    → (p : ℕ) × Named n s p × Begins n (take p s) × ((q : ℕ) → p < q → q ≤ length s → Begins n (take q s) → ⊥)
longest_beginning n h s no-list = go (to_the_end n h s fresh (record { going = tt; room = h }))
  where
    Longest : Type 0
    Longest = (p : ℕ) × Named n s p × Begins n (take p s) × ((q : ℕ) → p < q → q ≤ length s → Begins n (take q s) → ⊥)

    go : Stopped n fresh s ⊎ Ended n fresh s → Longest
    go (inl st) =
        (st.j, inl (st.comes ∙ rw zero-add, st.short), goes_on_lem n h (take st.j s) st.goes, λ q l m b. no_further n h s st q l b)
    go (inr en) = end (ended n st.mode st.field st.records st.at st.start en.goes.going)
      where
        st : State
        st = run n fresh s

        end : IsWhole (reading n s) ⊎ (reading n s ≡ CutShort st.at) → Longest
        end (inl w) = absurd (no-list (whole_legal n h s w))
        end (inr e) =
            let l : st.at ≡ length s = omega (arith, en.place) in
            (length s, inr (e ∙ rw l, refl), rw (take_all (length s) s (omega arith)) (goes_on_lem n h s en.goes), λ q x y b. absurd (omega arith))
