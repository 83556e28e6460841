-- `numbered_sales` tells all answers apart: a refusal has no values, and can be told back from its number and place.
use Rattle.std.specs.Prelude.{◌≡◌, refl, List, ℕ, eqb, get_or, length}
use Rattle.std.proofs.Common.{ap}
use Rattle.laws.specs.Numbered.{Numbered}
use Rattle.laws.specs.Settled.{OneToOne, told_back}
use Rattle.laws.specs.Tests.{pick}
use Rattle.fault.proofs.OneResult.{case_of, case_told, fault_no_values}
use Rattle.asking.specs.declared.Sales.{Sales}
use Rattle.asking.specs.Answers.{numbered_sales}

-- the answer of this number, place and values
sales_back : Numbered → Sales
sales_back a = pick (eqb (length a.values) 0) (Sales.Refused (case_of a)) (Sales.Answered (get_or a.values 0 0))

sales_told : (r : Sales) → sales_back (numbered_sales r) ≡ r
unfolding numbered_sales sales_back
sales_told (Sales.Refused f) = rw (ap (λ (vs : List ℕ). length vs) (fault_no_values f), case_told f)
sales_told (Sales.Answered n) = refl

pub sales_one : OneToOne numbered_sales
sales_one = told_back numbered_sales sales_back sales_told
