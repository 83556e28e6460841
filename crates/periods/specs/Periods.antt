-- What a time code asks of a day (document 01, "Days"): odd and even weeks, periods, as functions of plain values.
use Rattle.std.specs.Prelude.{ℕ, Bool, true, not, eqb}
use Rattle.laws.specs.Tests.{pick, one_of}
use Rattle.dates.specs.Dates.{within}
use Rattle.weeks.specs.Weeks.{odd_week}

-- what a record of type t asks of the week of day d: 5 and 7 an odd one, 6 and 8 an even one, any other type nothing
unfoldable pub parity_fits : ℕ → ℕ → Bool
parity_fits t d =
    pick (one_of (eqb t 5) (eqb t 7)) (odd_week d)
    (pick (one_of (eqb t 6) (eqb t 8)) (not (odd_week d))
    true)

-- the period from day `from` to day `to`, both counted, holds day d; with no to-date (`given` false) it is the one day `from`
unfoldable pub period_holds : ℕ → Bool → ℕ → ℕ → Bool
period_holds from given to d = pick given (within from d to) (eqb from d)
