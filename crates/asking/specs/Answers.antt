-- What comes back of many questions, as document 01 numbers it.
use Rattle.std.specs.Prelude.{[], ◌∷◌}
use Rattle.laws.specs.Numbered.{Numbered, answered}
use Rattle.fault.specs.Answers.{numbered_fault}
use Rattle.asking.specs.declared.Sales.{Sales}

-- document 01's number and values for each case of the answer
unfoldable pub numbered_sales : Sales → Numbered
numbered_sales (Sales.Refused f) = numbered_fault f
numbered_sales (Sales.Answered n) = answered (n ∷ [])
