-- The twelve facts hold. All but P11 are closed: both sides compute to one value, the number of a day by counting years and months from 1900 on. P11 is
-- about any two records: with their types and the one mark put in, its two sides compute as well, since a text is the same as itself.
use mathlib.Core.Path.{refl}
use Rattle.dates.specs.Dates.{leap, year_days, months, month_days, is_date, years_days, months_days, day_number, last_begun, year_of, new_year}
use Rattle.weeks.specs.Weeks.{weekday, monday_of, thursday_of, thursdays, week_of, odd_week}
use Rattle.calendar.specs.Answers.{day_answer, weekday_answer, week_answer}
use Rattle.file.specs.Bytes.{ends, undefined, permitted_byte}
use Rattle.file.specs.Files.{field_counts, fields_of}
use Rattle.file.specs.Reading.{in_text, after_text, step_in, run, finished_in, spans, outcome_in}
use Rattle.file.specs.Answers.{asked, counted, located, span_of, stretch_in}
use Rattle.field.specs.Kinds.{linky, zasspoje, kinds, kind_of, admits}
use Rattle.field.specs.Names.{mark}
use Rattle.field.specs.Values.{is_byte, among, is_digit, all_digits, value_from, is_date_text, is_time}
use Rattle.keys.proofs.KeyLaws.{same_self}
use Rattle.link.specs.Signs.{first_byte}
use Rattle.trail.specs.Lists.{some}
use Rattle.trip.specs.Days.{type_of, has_type, other_mark, two_marks, two_weeks, one_with_weeks, three_with_other, days_fit}
use Rattle.facts.specs.Facts.{Facts}

pub facts : Facts
unfolding
    asked counted located span_of stretch_in fields_of field_counts run step_in in_text after_text finished_in spans outcome_in permitted_byte undefined ends
    day_answer weekday_answer week_answer is_date months month_days leap year_days years_days months_days day_number last_begun year_of new_year
    weekday monday_of thursday_of thursdays week_of odd_week
    kind_of kinds linky zasspoje admits is_byte among is_digit all_digits value_from is_date_text is_time
    type_of first_byte days_fit two_marks other_mark two_weeks one_with_weeks three_with_other has_type some
facts = record {
  p1 = refl;
  p2 = refl;
  p3 = refl;
  p4 = refl;
  p5 = (refl, refl, refl);
  p6 = refl;
  p7 = (refl, refl, refl, refl, refl);
  p8 = (refl, refl);
  p9 = (refl, refl, refl, refl);
  p10 = (refl, refl, refl, refl);
  p11 =
      λ signs p q m a.
      let s = same_self (mark q) in (
        (λ b. (rw (a, b, m, s), rw (a, b, m, s))),
        (λ b. (rw (a, b, m, s), rw (a, b, m, s))),
      );
  p12 = (refl, refl, refl, refl, refl, refl);
}
