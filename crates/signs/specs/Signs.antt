-- What fits a day (document 01, "Days"): holidays and day signs, as functions of plain values.
use Rattle.std.specs.Prelude.{ℕ, ◌+◌, Bool, false, not, List, [], ◌∷◌, eqb, leb}
use Rattle.laws.specs.Tests.{pick, both, one_of}
use Rattle.dates.specs.Dates.{within}
use Rattle.weeks.specs.Weeks.{weekday}

-- day d is in the list of holidays; any list is taken
unfoldable pub is_holiday : List ℕ → ℕ → Bool
is_holiday [] d = false
is_holiday (h ∷ hs) d = one_of (eqb h d) (is_holiday hs d)

-- the byte is a day sign: `X` (88), `+` (43), `1` to `7` (49 to 55)
unfoldable pub is_day_sign : ℕ → Bool
is_day_sign sign = one_of (eqb sign 88) (one_of (eqb sign 43) (within 49 sign 55))

-- Monday to Friday and no holiday
unfoldable pub is_workday : ℕ → List ℕ → Bool
is_workday d holidays = both (leb (weekday d) 5) (not (is_holiday holidays d))

-- Sunday or holiday
unfoldable pub is_restday : ℕ → List ℕ → Bool
is_restday d holidays = one_of (eqb (weekday d) 7) (is_holiday holidays d)

-- the day sign fits day d: `X` a workday, `+` a restday, `1` to `7` that weekday, holiday or not. Any other byte fits no day
unfoldable pub sign_fits : ℕ → ℕ → List ℕ → Bool
sign_fits sign d holidays =
    pick (eqb sign 88) (is_workday d holidays)
    (pick (eqb sign 43) (is_restday d holidays)
    (eqb sign (48 + weekday d)))
