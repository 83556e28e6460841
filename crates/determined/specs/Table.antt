-- One row for each public call: any two results that its promise allows are equal. A row is stated on the predicate that the call's contract cites.
-- `determined` (proofs/Rows.antt): all rows hold, by one law.
use Rattle.std.specs.Prelude.{ℕ, List, Result}
use Rattle.laws.specs.Settled.{Settled}
use Rattle.calendar.specs.Answers.{DayIs, DateIs, WeekdayIs, WeekIs, HolidayIs, FitsIs}
use Rattle.file.specs.Answers.{RecordsIs, StretchIs, PartIs}
use Rattle.file.specs.Format.{Text}
use Rattle.file.specs.Writing.{WriteIs}
use Rattle.file.specs.declared.Refusal.{Refusal}
use Rattle.thirteen.specs.Batch.{Batch}
use Rattle.fields.specs.Check.{CheckedIs}
use Rattle.batch.specs.Verdicts.{VerdictIs}
use Rattle.counter.specs.Numbers.{RunsIs}
use Rattle.calls.specs.Numbers.{StopIs}
use Rattle.selling.specs.Answers.{SaleIs}
use Rattle.selling.specs.Sales.{SalesIs}
use Rattle.asking.specs.declared.Sales.{Sales}
use Rattle.naming.specs.Names.{NameIs}
use Rattle.arrange.specs.Hint.{HintIs}
use Rattle.arrange.specs.declared.Arranged.{Arranged}
use Rattle.fileresults.specs.Results.{RecordsGives, StretchGives, WriteGives}
use Rattle.dayresults.specs.Results.{DayGives, DateGives, WeekdayGives}
use Rattle.signresults.specs.Results.{WeekGives, HolidayGives, FitsGives}
use Rattle.fieldsresults.specs.Results.{FieldsGives}
use Rattle.hintresults.specs.Results.{HintGives}
use Rattle.gives.specs.Gives.{CheckGives, SaleGives, SalesGives, StopGives}
use Rattle.gives.specs.TripGives.{RunsGives, TripStopGives}
use Rattle.version.specs.Version.{VersionGives}

pub record Determined : Type 0 where
  -- the calendar
  pub day_of : (d m y : ℕ) → Settled (DayIs d m y)
  pub date_of : (n : ℕ) → Settled (DateIs n)
  pub weekday_of : (n : ℕ) → Settled (WeekdayIs n)
  pub week_of : (n : ℕ) → Settled (WeekIs n)
  pub holiday : (n : ℕ) (holidays : List ℕ) → Settled (HolidayIs n holidays)
  pub fits : (sign n : ℕ) (holidays : List ℕ) → Settled (FitsIs sign n holidays)
  -- the reader; of a part of the file, its bytes
  pub records : (file : ℕ) (s : List ℕ) → Settled (RecordsIs file s)
  pub stretch_settled : (file : ℕ) (s : List ℕ) (r f : ℕ) → Settled (StretchIs file s r f)
  pub stretch_part : (file : ℕ) (s : List ℕ) (r f : ℕ) → Settled (PartIs file s r f)
  -- the writer: its answer, and what the lent buffer holds afterwards
  pub write : (file f : ℕ) (t : Text) (d : List ℕ) (place : ℕ) → Settled (λ (r : Result ℕ Refusal × List ℕ). WriteIs file f t d place r.0 r.1)
  -- the checks of one file and of a batch
  pub check_fields : (file : ℕ) (s : List ℕ) → Settled (CheckedIs file s)
  pub check : (b : Batch) → Settled (VerdictIs b)
  -- the questions
  pub runs : (b : Batch) (line trip d : ℕ) (holidays : List ℕ) → Settled (RunsIs b line trip d holidays)
  pub trip_stop : (b : Batch) (line trip n : ℕ) → Settled (StopIs b line trip n)
  pub may_sell : (b : Batch) (line trip day month year from to : ℕ) (holidays : List ℕ) → Settled (SaleIs b line trip day month year from to holidays)
  -- many sale questions: the answer, and what the lent list holds afterwards
  pub many_sales : (b : Batch) (holidays asked list : List ℕ) → Settled (λ (r : Sales × List ℕ). SalesIs b holidays asked list r.0 r.1)
  pub stop_named : (b : Batch) (town part place : Text) → Settled (NameIs b town part place)
  -- the maker of the hint: the answer, and what the lent list holds afterwards
  pub arrange : (b : Batch) (list : List ℕ) → Settled (λ (r : Arranged × List ℕ). HintIs b list r.0 r.1)
  -- the same calls for C; a hinted one promises what the plain one does, whatever list it is lent
  pub slovdrim_day : (d m y : ℕ) → Settled (DayGives d m y)
  pub slovdrim_date : (n : ℕ) → Settled (DateGives n)
  pub slovdrim_weekday : (n : ℕ) → Settled (WeekdayGives n)
  pub slovdrim_week : (n : ℕ) → Settled (WeekGives n)
  pub slovdrim_holiday : (n : ℕ) (holidays : List ℕ) → Settled (HolidayGives n holidays)
  pub slovdrim_fits : (sign n : ℕ) (holidays : List ℕ) → Settled (FitsGives sign n holidays)
  pub slovdrim_records : (file : ℕ) (s : List ℕ) → Settled (RecordsGives file s)
  pub slovdrim_stretch : (file : ℕ) (s : List ℕ) (row f : ℕ) → Settled (StretchGives file s row f)
  pub slovdrim_write : (file f : ℕ) (t : Text) (d : List ℕ) (place : ℕ) → Settled (WriteGives file f t d place)
  pub slovdrim_fields : (file : ℕ) (s : List ℕ) → Settled (FieldsGives file s)
  pub slovdrim_check : (b : Batch) → Settled (CheckGives b)
  pub slovdrim_check_hinted : (b : Batch) → Settled (CheckGives b)
  pub slovdrim_runs : (b : Batch) (line trip d : ℕ) (holidays : List ℕ) → Settled (RunsGives b line trip d holidays)
  pub slovdrim_trip_stop : (b : Batch) (line trip n : ℕ) → Settled (TripStopGives b line trip n)
  pub slovdrim_sale : (b : Batch) (line trip day month year from to : ℕ) (holidays : List ℕ) → Settled (SaleGives b line trip day month year from to holidays)
  pub slovdrim_sale_hinted : (b : Batch) (line trip day month year from to : ℕ) (holidays : List ℕ) → Settled (SaleGives b line trip day month year from to holidays)
  pub slovdrim_sales : (b : Batch) (holidays asked list : List ℕ) → Settled (SalesGives b holidays asked list)
  pub slovdrim_stop : (b : Batch) (town part place : Text) → Settled (StopGives b town part place)
  pub slovdrim_stop_hinted : (b : Batch) (town part place : Text) → Settled (StopGives b town part place)
  pub slovdrim_order : (b : Batch) (list : List ℕ) → Settled (HintGives b list)
  pub slovdrim_version : Settled VersionGives
