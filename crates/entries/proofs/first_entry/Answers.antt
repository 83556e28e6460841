-- `entries::first_entry` meets its contract: the walk begins at the first entry from the trip's 0 on, or at the last below a thousand million.
use mathlib.Core.Path.{◌≡◌, subst, ◌∙◌}
use Prim.Native.Nat.{ℕ, ◌+◌, ◌*◌}
use native.Mathlib.Omega.{arith}
use Rattle.keys.specs.Keys.{none}
use Rattle.keys.specs.Ranks.{rank_key}
use Rattle.seek.specs.Seek.{Lower}
use Rattle.trail.specs.Trail.{step_of}
use Rattle.entries.proofs.first_entry.Goals as goal

pub returns-then-up : goal.returns-then-up
unfolding step_of rank_key
returns-then-up c = c.entry_from.ensures 0 c.lower-i.ensures ∙ rw c.if-up.true

pub returns-else-up : goal.returns-else-up
unfolding step_of rank_key
returns-else-up c =
    let a = c.args in
    let m = c.lower-i-else-up in
    let e : (a.line * none + a.trip + 1) * none + 0 ≡ (a.line * none + a.trip) * none + none = omega arith in
    let l = subst (λ (x : ℕ). Lower a.file a.s.now a.part.now x m.result) e m.ensures in
    c.entry_below.ensures none (omega arith) l ∙ rw c.if-up.false
