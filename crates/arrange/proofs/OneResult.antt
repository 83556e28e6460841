-- `numbered_hint` tells all answers apart: a refusal has no values, and can be told back from its number and place.
use Rattle.std.specs.Prelude.{◌≡◌, refl, List, ℕ, eqb, get_or, length}
use Rattle.std.proofs.Common.{ap}
use Rattle.laws.specs.Numbered.{Numbered}
use Rattle.laws.specs.Settled.{OneToOne, told_back}
use Rattle.laws.specs.Tests.{pick}
use Rattle.fault.proofs.OneResult.{case_of, case_told, fault_no_values}
use Rattle.arrange.specs.declared.Arranged.{Arranged}
use Rattle.arrange.specs.Hint.{numbered_hint}

-- the answer of this number, place and values
hint_back : Numbered → Arranged
hint_back a = pick (eqb (length a.values) 0) (Arranged.Refused (case_of a)) (Arranged.Wrote (get_or a.values 0 0))

hint_told : (r : Arranged) → hint_back (numbered_hint r) ≡ r
unfolding numbered_hint hint_back
hint_told (Arranged.Refused f) = rw (ap (λ (vs : List ℕ). length vs) (fault_no_values f), case_told f)
hint_told (Arranged.Wrote n) = refl

pub hint_one : OneToOne numbered_hint
hint_one = told_back numbered_hint hint_back hint_told
