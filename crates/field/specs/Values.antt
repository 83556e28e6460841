-- Document 01, "Fields": what digits are worth, dates and times.
use Rattle.std.specs.Prelude.{ℕ, ◌+◌, ◌-◌, ◌*◌, List, [], ◌∷◌, Bool, true, false, not, eqb, leb, length, take, drop}
use Rattle.laws.specs.Tests.{both, one_of}
use Rattle.dates.specs.Dates.{within, is_date, day_number}
use Rattle.file.specs.Format.{Text}

-- empty, and given
abbrev pub is_empty : Text → Bool
is_empty t = eqb (length t) 0

abbrev pub given : Text → Bool
given t = not (is_empty t)

-- the text is this one byte
unfoldable pub is_byte : ℕ → Text → Bool
is_byte b [] = false
is_byte b (x ∷ []) = eqb x b
is_byte b (x ∷ y ∷ t) = false

-- the text is one byte, among these
unfoldable pub among : List ℕ → Text → Bool
among [] t = false
among (b ∷ bs) t = one_of (is_byte b t) (among bs t)

-- its length is one of a to b
abbrev pub sized : ℕ → ℕ → Text → Bool
sized a b t = within a (length t) b

unfoldable pub is_digit : ℕ → Bool
is_digit b = within 48 b 57

unfoldable pub all_digits : Text → Bool
all_digits [] = true
all_digits (b ∷ t) = both (is_digit b) (all_digits t)

-- a to b digits
abbrev pub is_digits : ℕ → ℕ → Text → Bool
is_digits a b t = both (sized a b t) (all_digits t)

-- the value of digits, after those that are worth v
unfoldable pub value_from : ℕ → Text → ℕ
value_from v [] = v
value_from v (b ∷ t) = value_from (v * 10 + (b - 48)) t

abbrev pub value : Text → ℕ
value t = value_from 0 t

-- DDMMRRRR
abbrev pub day_part : Text → ℕ
day_part t = value (take 2 t)

abbrev pub month_part : Text → ℕ
month_part t = value (take 2 (drop 2 t))

abbrev pub year_part : Text → ℕ
year_part t = value (drop 4 t)

-- a real Gregorian date of 1900-2099
unfoldable pub is_date_text : Text → Bool
is_date_text t = both (is_digits 8 8 t) (is_date (day_part t) (month_part t) (year_part t))

-- its day number
unfoldable pub day_of_text : Text → ℕ
day_of_text t = day_number (day_part t) (month_part t) (year_part t)

-- HHMM, 0000-2359: a time
abbrev pub hour_part : Text → ℕ
hour_part t = value (take 2 t)

abbrev pub minute_part : Text → ℕ
minute_part t = value (drop 2 t)

unfoldable pub is_time : Text → Bool
is_time t = both (is_digits 4 4 t) (both (leb (hour_part t) 23) (leb (minute_part t) 59))

-- its minute of the day
unfoldable pub minute_of : Text → ℕ
minute_of t = hour_part t * 60 + minute_part t
