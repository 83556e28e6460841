-- What is known of a date's text before its rules are asked, and by what dates are compared.
use Rattle.std.specs.Prelude.{ℕ, ◌+◌, ◌*◌, ◌≡◌, true}
use Rattle.laws.specs.Tests.{one_of}
use Rattle.file.specs.Format.{Text}
use Rattle.field.specs.Values.{is_empty, is_date_text, day_part, month_part, year_part}

-- the text is empty or a date
abbrev pub DateOrNone : Text → Type 0
DateOrNone t = one_of (is_empty t) (is_date_text t) ≡ true

-- a date's digits as one number, by which dates stand in the order of their days (`ranks_order` in proofs/DateLaws.antt)
abbrev pub rank : ℕ → ℕ → ℕ → ℕ
rank d m y = y * 10000 + m * 100 + d

abbrev pub ranked : Text → ℕ
ranked t = rank (day_part t) (month_part t) (year_part t)
