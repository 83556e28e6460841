-- `fault::is_none` meets its contract: `Fault::None` alone has number 0.
use mathlib.Core.Path.{◌≡◌, refl, sym}
use mathlib.Core.Bool.{false}
use mathlib.Core.List.{[], ◌∷◌}
use denote.Enum.Declared.{tag_of}
use borrow.Enum.Refused.{opened}
use types.Run.{OneOf, miss}
use lib.Dec.{eqb}
use Rattle.file.proofs.OneResult.{no_answer}
use Rattle.fault.specs.Answers.{numbered_fault}
use Rattle.fault.specs.declared.Fault.{Fault}
use Rattle.fault.specs.contracts.Fault.{the_type}
use Rattle.fault.proofs.is_none.Goals as goal

-- a fault of any other case has another number
some : (f : Fault) → OneOf (1 ∷ 2 ∷ 3 ∷ 4 ∷ 5 ∷ 6 ∷ 7 ∷ 8 ∷ 9 ∷ []) (tag_of the_type f) → false ≡ eqb (numbered_fault f).number 0
unfolding numbered_fault
some Fault.None k = absurd (miss (1 ∷ 2 ∷ 3 ∷ 4 ∷ 5 ∷ 6 ∷ 7 ∷ 8 ∷ 9 ∷ []) 0 tt k)
some (Fault.File why) k = sym (no_answer why)
some (Fault.Version k f) _ = refl
some (Fault.Unkind file k f) _ = refl
some (Fault.Broken file k) _ = refl
some (Fault.Used file k) _ = refl
some (Fault.Dangling file k f) _ = refl
some (Fault.Misplaced file k f) _ = refl
some (Fault.Days k) _ = refl
some (Fault.Stops k) _ = refl

pub returns-in-None : goal.returns-in-None
unfolding numbered_fault
returns-in-None c = rw c.in-None.is

pub returns-in_default : goal.returns-in_default
returns-in_default c = some c.args.f (opened c.in_default.in_default-own.keys2)
