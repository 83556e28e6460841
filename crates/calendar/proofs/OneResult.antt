-- Each answer's numbering tells all cases apart, so that the promise of each call allows one result only (the table in the crate `determined`).
use Rattle.std.specs.Prelude.{◌≡◌, refl, Bool, true, false, [], ◌∷◌, Some, None}
use Rattle.std.proofs.Common.{ap, arith}
use Rattle.laws.specs.Tests.{bit}
use Rattle.laws.specs.Numbered.{Numbered}
use Rattle.laws.specs.Settled.{OneToOne}
use Rattle.calendar.specs.declared.Date.{Date}
use Rattle.calendar.specs.declared.Week.{Week}
use Rattle.calendar.specs.Answers.{numbered_day, numbered_date, numbered_weekday, numbered_week, numbered_whether}

-- an answer is no refusal; equal answers have equal values
apart : {P : Type 0} (a b : Numbered) → a ≡ b → a.number ≡ 0 → b.number ≡ 12 → P
apart a b e p q = let z : a.number ≡ b.number = ap (λ (r : Numbered). r.number) e in absurd (omega arith)

apart' : {P : Type 0} (a b : Numbered) → a ≡ b → a.number ≡ 12 → b.number ≡ 0 → P
apart' a b e p q = let z : a.number ≡ b.number = ap (λ (r : Numbered). r.number) e in absurd (omega arith)

values : (a b : Numbered) → a ≡ b → a.values ≡ b.values
values a b e = ap (λ (r : Numbered). r.values) e

bits : (s t : Bool) → bit s ≡ bit t → s ≡ t
bits true true e = refl
bits true false e = absurd (omega arith)
bits false true e = absurd (omega arith)
bits false false e = refl

pub day_one : OneToOne numbered_day
unfolding numbered_day
day_one (Some n) (Some m) e = let v : n ∷ [] ≡ m ∷ [] = values _ _ e in cc
day_one (Some n) None e = apart _ _ e refl refl
day_one None (Some m) e = apart' _ _ e refl refl
day_one None None e = refl

date_same : (s t : Date) → s.day ≡ t.day → s.month ≡ t.month → s.year ≡ t.year → s ≡ t
date_same s t d m y = λ i. record { day = d i; month = m i; year = y i }

pub date_one : OneToOne numbered_date
unfolding numbered_date
date_one (Some s) (Some t) e =
    let v : s.day ∷ s.month ∷ s.year ∷ [] ≡ t.day ∷ t.month ∷ t.year ∷ [] = values _ _ e in
    ap Some (date_same s t (cc) (cc) (cc))
date_one (Some s) None e = apart _ _ e refl refl
date_one None (Some t) e = apart' _ _ e refl refl
date_one None None e = refl

pub weekday_one : OneToOne numbered_weekday
unfolding numbered_weekday
weekday_one (Some n) (Some m) e = let v : n ∷ [] ≡ m ∷ [] = values _ _ e in cc
weekday_one (Some n) None e = apart _ _ e refl refl
weekday_one None (Some m) e = apart' _ _ e refl refl
weekday_one None None e = refl

week_same : (s t : Week) → s.number ≡ t.number → s.odd ≡ t.odd → s ≡ t
week_same s t n o = λ i. record { number = n i; odd = o i }

pub week_one : OneToOne numbered_week
unfolding numbered_week
week_one (Some s) (Some t) e =
    let v : s.number ∷ bit s.odd ∷ [] ≡ t.number ∷ bit t.odd ∷ [] = values _ _ e in
    ap Some (week_same s t (cc) (bits s.odd t.odd (cc)))
week_one (Some s) None e = apart _ _ e refl refl
week_one None (Some t) e = apart' _ _ e refl refl
week_one None None e = refl

pub whether_one : OneToOne numbered_whether
unfolding numbered_whether
whether_one (Some s) (Some t) e =
    let v : bit s ∷ [] ≡ bit t ∷ [] = values _ _ e in
    ap Some (bits s t (cc))
whether_one (Some s) None e = apart _ _ e refl refl
whether_one None (Some t) e = apart' _ _ e refl refl
whether_one None None e = refl
