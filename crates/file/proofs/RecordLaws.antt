-- The records of a file are the list that the reader gives for it; so those of a writing are the list that was written.
use mathlib.Core.Path.{◌≡◌, refl, sym, ap, ◌∙◌}
use mathlib.Core.List.{List, []}
use Prim.Native.Nat.{ℕ, zero, suc, ◌+◌, ◌≤◌, ◌<◌}
use native.Mathlib.Omega.{arith}
use lib.ListN.{length, get_or}
use lib.Seq.{ext_get_or}
use Rattle.file.specs.Format.{Text, Fields, written, Permitted}
use Rattle.file.specs.Places.{Gives}
use Rattle.file.specs.Reader.{Reads}
use Rattle.file.specs.Records.{up_to, text_at, records_by, records_in}
use Rattle.file.specs.declared.Outcome.TheVariants.{Whole}
use Rattle.file.proofs.Demand3.{read_is_written, whole_legal}
use Rattle.file.proofs.PlaceLaws.{gives}

pub size_up_to : {A : Type 0} (k : ℕ) (g : ℕ → A) → length (up_to k g) ≡ k
unfolding up_to
size_up_to zero g = refl
size_up_to (suc k) g = ap suc (size_up_to k (λ i. g (suc i)))

pub at_up_to : {A : Type 0} (k : ℕ) (g : ℕ → A) (i : ℕ) (d : A) → i < k → get_or (up_to k g) i d ≡ g i
unfolding up_to
at_up_to zero g i d h = absurd (omega arith)
at_up_to (suc k) g zero d h = refl
at_up_to (suc k) g (suc i) d h = at_up_to k (λ j. g (suc j)) i d (omega arith)

-- what the reader gives are the records
pub given_records : (n : ℕ) (s : List ℕ) (rs : List Fields) → Gives n s rs → records_in n s ≡ rs
unfolding records_by
given_records n s rs g =
    let k = length rs in
    let row : ℕ → Fields = λ r. up_to n (λ f. text_at n s (r + 1) (f + 1)) in
    rw g.count
    (ext_get_or [] (up_to k row) rs (size_up_to k row)
    (λ r i.
    let j : r < k = omega (arith, size_up_to k row) in
    let e = at_up_to k row r [] j in
    let cell : ℕ → Text = λ f. text_at n s (r + 1) (f + 1) in
    e ∙ ext_get_or [] (up_to n cell) (get_or rs r []) (size_up_to n cell ∙ sym (g.shape r j))
    (λ f l. let m : f < n = omega (arith, size_up_to n cell) in at_up_to n cell f [] m ∙ g.text r f j m)))

-- the records of a writing
pub written_records : (n : ℕ) → 1 ≤ n → (rs : List Fields) → Permitted n rs → records_in n (written rs) ≡ rs
written_records n h rs p = given_records n (written rs) rs (gives n h rs p)

-- a legal file is the writing of its records
pub record Legible (n : ℕ) (s : List ℕ) (k : ℕ) : Type 0 where
  pub permitted : Permitted n (records_in n s)
  pub bytes : written (records_in n s) ≡ s
  pub count : length (records_in n s) ≡ k

pub legible : (n : ℕ) (s : List ℕ) (k : ℕ) → Reads n s k → Legible n s k
legible n s k h =
    let l = whole_legal n h.some s (rw h.whole tt) in
    let g = (read_is_written n h.some s l.0).1 (l.1, l.2) in
    let e : records_in n s ≡ l.0 = given_records n s l.0 g in
    let c : Whole (length l.0) ≡ Whole k = sym g.count ∙ h.whole in
    let d : length l.0 ≡ k = cc in
    record { permitted = rw e l.1; bytes = ap written e ∙ l.2; count = ap length e ∙ d }
