-- The last text of a record ends three bytes before the LF of its line: from where it starts, that LF is the next, since none stands in a text.
use mathlib.Core.Path.{◌≡◌, ◌∙◌}
use Prim.Native.Nat.{ℕ, ◌+◌, ◌-◌}
use native.Mathlib.Omega.{arith}
use mathlib.Core.List.{List}
use lib.ListN.{drop, length-drop}
use Rattle.walk.specs.Walk.{LegalFrom, RecordAt}
use Rattle.walk.proofs.StartLaws.{text_start}
use Rattle.walk.proofs.WalkLaws.{first_record, text_at, end_at}
use Rattle.lines.specs.Lines.{lead, behind}
use Rattle.lines.proofs.LineLaws.{lead_skip, place_start, next_at}

module _ (n : ℕ) (s : List ℕ) (at : ℕ) (h : RecordAt n s at) where
  -- the record goes to its LF
  lead_first : at + lead (drop at s) ≡ text_start at (first_record n s at) n
  lead_first =
      let l : LegalFrom n (drop at s) 0 = record { count = h.legal.count; reads = h.legal.reads } in
      let x = next_at n (drop at s) 0 (place_start n (drop at s) l) (omega (arith, h.more, length-drop at s)) in
      omega (arith, x.size, end_at n s at h)

  pub line_end_lem : (i : ℕ) → i + 1 ≡ n → behind s (text_start at (first_record n s at) i) ≡ text_start at (first_record n s at) n + 1
  line_end_lem i e =
      let a = text_start at (first_record n s at) i in
      let t = rw e at (text_at n s at h i (omega arith)).size in
      let d : at + (a - at) ≡ a = omega arith in
      let k = lead_skip s at (a - at) (omega (arith, t, lead_first)) in
      rw d at k ∙ omega (arith, lead_first)
