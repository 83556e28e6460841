-- Document 01, "Small facts to prove": P1 to P12, one table, about the very definitions that the promises cite.
-- `facts` (proofs/Table.antt): all twelve hold.
use Rattle.std.specs.Prelude.{ℕ, ◌≡◌, List, [], ◌∷◌, true, false}
use Rattle.laws.specs.Numbered.{answered, refused, refused_at}
use Rattle.calendar.specs.Answers.{day_answer, weekday_answer, week_answer}
use Rattle.file.specs.Format.{Fields}
use Rattle.file.specs.Answers.{counted_of, stretch_of, text_of}
use Rattle.field.specs.Kinds.{kind_of, admits}
use Rattle.field.specs.Names.{mark, code_type}
use Rattle.field.specs.declared.Kind.{Kind}
use Rattle.trip.specs.Days.{days_fit}

pub record Facts : Type 0 where
  -- P1 an empty Udaje: no records
  pub p1 : counted_of 9 [] ≡ answered (0 ∷ [])
  -- P2 VerzeJDF `"1.8";` CR LF: one
  pub p2 : counted_of 1 (34 ∷ 49 ∷ 46 ∷ 56 ∷ 34 ∷ 59 ∷ 13 ∷ 10 ∷ []) ≡ answered (1 ∷ [])
  -- P3 the same without LF: 3 at 7
  pub p3 : counted_of 1 (34 ∷ 49 ∷ 46 ∷ 56 ∷ 34 ∷ 59 ∷ 13 ∷ []) ≡ refused_at 3 1 7
  -- P4 `"1.8",`: 2 at 5
  pub p4 : counted_of 1 (34 ∷ 49 ∷ 46 ∷ 56 ∷ 34 ∷ 44 ∷ []) ≡ refused_at 2 1 5
  -- P5 `""";` CR LF: one, its text a single quote. That stands at 1, its size is 1
  pub p5 : (counted_of 1 (34 ∷ 34 ∷ 34 ∷ 59 ∷ 13 ∷ 10 ∷ []) ≡ answered (1 ∷ []))
      × (stretch_of 1 (34 ∷ 34 ∷ 34 ∷ 59 ∷ 13 ∷ 10 ∷ []) 1 1 ≡ answered (1 ∷ 1 ∷ []))
      × (text_of 1 (34 ∷ 34 ∷ 34 ∷ 59 ∷ 13 ∷ 10 ∷ []) 1 1 ≡ 34 ∷ [])
  -- P6 Udaje `"000123";`: 2 at 8
  pub p6 : counted_of 9 (34 ∷ 48 ∷ 48 ∷ 48 ∷ 49 ∷ 50 ∷ 51 ∷ 34 ∷ 59 ∷ []) ≡ refused_at 2 9 8
  -- P7 29022000 is a date, 29021900 isn't: as the text of a field, such as Linky's field 9, and as day, month and year
  pub p7 : (kind_of 5 9 ≡ Kind.Date)
      × (admits Kind.Date (50 ∷ 57 ∷ 48 ∷ 50 ∷ 50 ∷ 48 ∷ 48 ∷ 48 ∷ []) ≡ true)
      × (admits Kind.Date (50 ∷ 57 ∷ 48 ∷ 50 ∷ 49 ∷ 57 ∷ 48 ∷ 48 ∷ []) ≡ false)
      × (day_answer 29 2 2000 ≡ answered (36583 ∷ []))
      × (day_answer 29 2 1900 ≡ refused 12)
  -- P8 10 June 2001 is day 37050, a Sunday
  pub p8 : (day_answer 10 6 2001 ≡ answered (37050 ∷ []))
      × (weekday_answer 37050 ≡ answered (7 ∷ []))
  -- P9 30 December 2001 is in week 52, the next day in week 1. An answer has the week, and 1 for an odd one
  pub p9 : (day_answer 30 12 2001 ≡ answered (37253 ∷ []))
      × (week_answer 37253 ≡ answered (52 ∷ 0 ∷ []))
      × (day_answer 31 12 2001 ≡ answered (37254 ∷ []))
      × (week_answer 37254 ≡ answered (1 ∷ 1 ∷ []))
  -- P10 1 January 2005 is in week 53, 3 January in week 1: odd follows odd
  pub p10 : (day_answer 1 1 2005 ≡ answered (38351 ∷ []))
      × (week_answer 38351 ≡ answered (53 ∷ 1 ∷ []))
      × (day_answer 3 1 2005 ≡ answered (38353 ∷ []))
      × (week_answer 38353 ≡ answered (1 ∷ 1 ∷ []))
  -- P11 types 1 and 5 go together, 1 and 7 don't: two time codes of one mark, in either order, whatever else they hold and whatever the trip's signs
  pub p11 : (signs : List ℕ) (p q : Fields) → mark p ≡ mark q → code_type p ≡ 49 ∷ []
      → (code_type q ≡ 53 ∷ [] → (days_fit signs (p ∷ q ∷ []) ≡ true) × (days_fit signs (q ∷ p ∷ []) ≡ true))
      × (code_type q ≡ 55 ∷ [] → (days_fit signs (p ∷ q ∷ []) ≡ false) × (days_fit signs (q ∷ p ∷ []) ≡ false))
  -- P12 times 0000 and 2359 stand, 2360 and 2400 don't: in Zasspoje's fields 9 and 10
  pub p12 : (kind_of 8 9 ≡ Kind.Time)
      × (kind_of 8 10 ≡ Kind.Time)
      × (admits Kind.Time (48 ∷ 48 ∷ 48 ∷ 48 ∷ []) ≡ true)
      × (admits Kind.Time (50 ∷ 51 ∷ 53 ∷ 57 ∷ []) ≡ true)
      × (admits Kind.Time (50 ∷ 51 ∷ 54 ∷ 48 ∷ []) ≡ false)
      × (admits Kind.Time (50 ∷ 52 ∷ 48 ∷ 48 ∷ []) ≡ false)
