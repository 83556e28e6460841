-- `numbered_named` tells all answers apart, so that the promise allows one result only: a stop and a number of like-named ones are values, and a fault
-- has none; and no fault is 23.
use Rattle.std.specs.Prelude.{◌≡◌, refl, false, eqb, length, get_or}
use Rattle.std.proofs.Common.{ap}
use Rattle.laws.specs.Numbered.{Numbered}
use Rattle.laws.specs.Settled.{OneToOne, told_back}
use Rattle.laws.specs.Tests.{pick}
use Rattle.file.specs.Answers.{numbered}
use Rattle.file.specs.declared.Refusal.{Refusal}
use Rattle.fault.specs.Answers.{numbered_fault}
use Rattle.fault.proofs.OneResult.{case_of, case_told, fault_no_values}
use Rattle.fault.specs.declared.Fault.{Fault}
use Rattle.named.specs.declared.Named.{Named}
use Rattle.named.specs.Names.{numbered_named}

-- a file's own refusal isn't 23, and no fault is
refusal_other : (r : Refusal) → eqb (numbered r).number 23 ≡ false
unfolding numbered
refusal_other (Refusal.TooLong file) = refl
refusal_other (Refusal.Unfit file at) = refl
refusal_other (Refusal.CutShort file at) = refl
refusal_other Refusal.NoSuch = refl
refusal_other Refusal.NotPermitted = refl
refusal_other Refusal.NoRoom = refl

fault_other : (f : Fault) → eqb (numbered_fault f).number 23 ≡ false
unfolding numbered_fault
fault_other Fault.None = refl
fault_other (Fault.File r) = refusal_other r
fault_other (Fault.Version k f) = refl
fault_other (Fault.Unkind file k f) = refl
fault_other (Fault.Broken file k) = refl
fault_other (Fault.Used file k) = refl
fault_other (Fault.Dangling file k f) = refl
fault_other (Fault.Misplaced file k f) = refl
fault_other (Fault.Days k) = refl
fault_other (Fault.Stops k) = refl

-- the answer of this number, place and values
named_back : Numbered → Named
named_back a =
    pick (eqb (length a.values) 0)
    (pick (eqb a.number 23) Named.Nobody (Named.Refused (case_of a)))
    (pick (eqb a.number 24) (Named.Several (get_or a.values 0 0)) (Named.Is (get_or a.values 0 0)))

named_told : (r : Named) → named_back (numbered_named r) ≡ r
unfolding numbered_named named_back
named_told (Named.Refused f) =
    let z : length (numbered_fault f).values ≡ 0 = ap length (fault_no_values f) in
    rw (z, fault_other f) (ap (λ (x : Fault). Named.Refused x) (case_told f))
named_told Named.Nobody = refl
named_told (Named.Several n) = refl
named_told (Named.Is stop) = refl

pub named_one : OneToOne numbered_named
named_one = told_back numbered_named named_back named_told
