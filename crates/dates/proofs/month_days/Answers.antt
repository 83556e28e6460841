-- `month_days` meets its contract: February by `leap_year`'s answer, the other months from the table, which has the definition's numbers.
use mathlib.Core.Path.{sym}
use Rattle.dates.specs.Dates.{months, month_days}
use Rattle.dates.proofs.Real.{other_month, past_december}
use Rattle.dates.proofs.month_days.Goals as goal
use Rattle.dates.proofs.month_days.Goals.{else-month-eq2-via-then-month-eq2+else-leap_year, else-month-eq2-via-else-month-eq2}

pub returns-then-leap_year : goal.returns-then-leap_year
unfolding month_days months
returns-then-leap_year c = rw (c.if-month-eq2.true, ← c.leap_year.ensures, c.if-leap_year.true)

pub returns-then-month-lt13 : goal.returns-then-month-lt13
unfolding month_days months
returns-then-month-lt13 c =
    elim c.else-month-eq2.branch [
      | else-month-eq2-via-then-month-eq2+else-leap_year w ↦ rw (w.if-month-eq2.true, ← w.leap_year.ensures, w.if-leap_year.false)
      | else-month-eq2-via-else-month-eq2 w ↦ sym (other_month _ _ w.if-month-eq2.false)
    ]

pub returns-else-month-lt13 : goal.returns-else-month-lt13
returns-else-month-lt13 c = sym (past_december _ _ c.if-month-lt13.false)
