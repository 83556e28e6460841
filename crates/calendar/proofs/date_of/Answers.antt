-- `date_of` meets its promise: year, month and day are found one after the other, as the definition finds them.
use mathlib.Core.Path.{◌≡◌, ◌∙◌, sym}
use Prim.Native.Nat.{ℕ, ◌+◌, ◌-◌, ◌≤◌}
use native.Mathlib.Omega.{arith}
use borrow.Author.Tests.{leb-true}
use Rattle.dates.specs.Dates.{months_days, new_year, month_of, year_of, day_of}
use Rattle.dates.proofs.Real.{month_at, month_high, month_before}
use Rattle.calendar.specs.Answers.{numbered_date, date_answer}
use Rattle.calendar.proofs.date_of.Goals as goal

pub overflow_sub-month : goal.overflow_sub-month
overflow_sub-month c = omega arith

pub months_days-requires : goal.months_days-requires
months_days-requires c = let n = c.args.number in
    let e = month_at n _ _ c.year_of-year.ensures c.since_new_year-left.ensures in
    omega (arith, c.month_in-month.ensures, month_high n)

begun : (n y m left s : ℕ) → y ≡ year_of n → left ≡ n - new_year n → m ≡ month_of n → s ≡ months_days y (m - 1) → s ≤ left
begun n y m left s e f g h = rw (h, e, f, g) (month_before n)

day_is : (n y m left s : ℕ) → y ≡ year_of n → left ≡ n - new_year n → m ≡ month_of n → s ≡ months_days y (m - 1) → left - s + 1 ≡ day_of n
unfolding day_of
day_is n y m left s e f g h = rw (h, e, f, g) (omega arith)

pub overflow_sub-result : goal.overflow_sub-result
overflow_sub-result c = let n = c.args.number in
    let y = c.year_of-year.ensures in
    let l = c.since_new_year-left.ensures in
    begun n _ _ _ _ y l (c.month_in-month.ensures ∙ month_at n _ _ y l) c.months_days.ensures

pub overflow_add-result : goal.overflow_add-result
overflow_add-result c = let d = leb-true c.args.number 73048 (sym c.is_day.ensures ∙ c.if-is_day.true) in
    omega (arith, c.since_new_year-left.ensures)

pub returns-then-is_day : goal.returns-then-is_day
unfolding numbered_date date_answer
returns-then-is_day c = let n = c.args.number in
    let y = c.year_of-year.ensures in
    let l = c.since_new_year-left.ensures in
    let m = c.month_in-month.ensures ∙ month_at n _ _ y l in
    rw (← c.is_day.ensures, c.if-is_day.true, day_is n _ _ _ _ y l m c.months_days.ensures, m, y)

pub returns-else-is_day : goal.returns-else-is_day
unfolding numbered_date date_answer
returns-else-is_day c = rw (← c.is_day.ensures, c.if-is_day.false)
