-- Document 01, "Days": a trip's time codes (its Caskody records), refusal 10, and when a trip runs.
use Rattle.std.specs.Prelude.{ℕ, ◌-◌, List, [], ◌∷◌, Bool, false, not, eqb}
use Rattle.laws.specs.Tests.{pick, both, one_of}
use Rattle.dates.specs.Dates.{within}
use Rattle.signs.specs.Signs.{is_day_sign, sign_fits}
use Rattle.periods.specs.Periods.{parity_fits, period_holds}
use Rattle.file.specs.Format.{Text, Fields}
use Rattle.field.specs.Values.{given, day_of_text}
use Rattle.field.specs.Names.{mark, code_type, code_from, code_to, valid_from, valid_to}
use Rattle.field.specs.Rules.{asks}
use Rattle.keys.specs.Keys.{same}
use Rattle.link.specs.Signs.{first_byte}
use Rattle.trail.specs.Lists.{some}

-- the type of a time code, 1 to 8; 0 if it has none
unfoldable pub type_of : Fields → ℕ
type_of r = first_byte (code_type r) - 48

-- one of these time codes has type t
unfoldable pub has_type : ℕ → List Fields → Bool
has_type t codes = some (λ r. eqb (type_of r) t) codes

-- the period of a time code holds day d; a period with no to-date is one day, and so a type 2 or type 3 record's is its date. One without a
-- from-date holds no day
unfoldable pub holds_day : ℕ → Fields → Bool
holds_day d r = both (given (code_from r)) (period_holds (day_of_text (code_from r)) (given (code_to r)) (day_of_text (code_to r)) d)

-- one of these time codes has type t and holds day d
unfoldable pub holds : ℕ → ℕ → List Fields → Bool
holds t d codes = some (λ r. both (eqb (type_of r) t) (holds_day d r)) codes

-- REFUSAL 10, in document 01's order.
-- of these time codes, one that has a type bears another mark than m; marks are compared as texts
unfoldable pub other_mark : Text → List Fields → Bool
other_mark m codes = some (λ r. both (not (eqb (type_of r) 0)) (not (same (mark r) m))) codes

-- two of the typed ones bear two different marks: one of them bears another than the first typed one
unfoldable pub two_marks : List Fields → Bool
two_marks [] = false
two_marks (r ∷ codes) = pick (eqb (type_of r) 0) (two_marks codes) (other_mark (mark r) codes)

-- two different types out of 5, 6, 7, 8
unfoldable pub two_weeks : List Fields → Bool
two_weeks codes =
    one_of (both (has_type 5 codes) (one_of (has_type 6 codes) (one_of (has_type 7 codes) (has_type 8 codes))))
    (one_of (both (has_type 6 codes) (one_of (has_type 7 codes) (has_type 8 codes)))
    (both (has_type 7 codes) (has_type 8 codes)))

-- type 1 with 7 or 8
unfoldable pub one_with_weeks : List Fields → Bool
one_with_weeks codes = both (has_type 1 codes) (one_of (has_type 7 codes) (has_type 8 codes))

-- another type than 3
unfoldable pub beside_three : List Fields → Bool
beside_three codes =
    one_of (has_type 1 codes)
    (one_of (has_type 2 codes)
    (one_of (has_type 4 codes)
    (one_of (has_type 5 codes)
    (one_of (has_type 6 codes)
    (one_of (has_type 7 codes) (has_type 8 codes))))))

-- one of these signs is a day sign; signs that say nothing of days may stand beside type 3
unfoldable pub has_day_sign : List ℕ → Bool
has_day_sign signs = some (λ x. is_day_sign x) signs

-- type 3 with another type or with a day sign
unfoldable pub three_with_other : List ℕ → List Fields → Bool
three_with_other signs codes = both (has_type 3 codes) (one_of (beside_three codes) (has_day_sign signs))

-- a trip with these signs and these time codes isn't refused with 10
unfoldable pub days_fit : List ℕ → List Fields → Bool
days_fit signs codes =
    not (one_of (two_marks codes) (one_of (two_weeks codes) (one_of (one_with_weeks codes) (three_with_other signs codes))))

-- WHEN A TRIP RUNS.
-- it has no day sign or one that fits d
unfoldable pub signs_allow : List ℕ → ℕ → List ℕ → Bool
signs_allow signs d holidays = one_of (not (has_day_sign signs)) (some (λ x. sign_fits x d holidays) signs)

-- for t 5 or 6: it has no record of type t, or the week of d is as type t asks
unfoldable pub week_allows : ℕ → ℕ → List Fields → Bool
week_allows t d codes = asks (has_type t codes) (parity_fits t d)

-- for t 7 or 8: the same, and one such period holds d besides
unfoldable pub week_allows_in : ℕ → ℕ → List Fields → Bool
week_allows_in t d codes = asks (has_type t codes) (both (parity_fits t d) (holds t d codes))

-- what 5 to 8 ask of the week of d
unfoldable pub weeks_allow : List Fields → ℕ → Bool
weeks_allow codes d = both (week_allows 5 d codes) (both (week_allows 6 d codes) (both (week_allows_in 7 d codes) (week_allows_in 8 d codes)))

-- all of these hold: it has no day sign or one that fits d; it has no type 1 record or one whose period holds d; the week is as 5 to 8 ask
unfoldable pub all_allow : List ℕ → List Fields → ℕ → List ℕ → Bool
all_allow signs codes d holidays =
    both (signs_allow signs d holidays) (both (asks (has_type 1 codes) (holds 1 d codes)) (weeks_allow codes d))

-- where it has type 3 records, d is one of their dates; otherwise no type 4 period holds d, and either d is a type 2 date, or all of those hold
unfoldable pub codes_allow : List ℕ → List Fields → ℕ → List ℕ → Bool
codes_allow signs codes d holidays =
    pick (has_type 3 codes)
    (holds 3 d codes)
    (both (not (holds 4 d codes)) (one_of (holds 2 d codes) (all_allow signs codes d holidays)))

-- d is within a line's validity, both ends counted; of an accepted batch every trip's line has a record, and its two dates are dates
unfoldable pub is_valid : Fields → ℕ → Bool
is_valid line d = within (day_of_text (valid_from line)) d (day_of_text (valid_to line))
