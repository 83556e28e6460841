-- Each numbering tells all answers apart, so that each call allows one result only (the table in the crate `determined`).
use Rattle.std.specs.Prelude.{◌≡◌, refl, List, ℕ, eqb, length, get_or}
use Rattle.std.proofs.Common.{ap, ◌∙◌}
use Rattle.laws.specs.Numbered.{Numbered}
use Rattle.laws.specs.Settled.{OneToOne, told_back}
use Rattle.laws.specs.Tests.{pick}
use Rattle.fault.specs.Answers.{numbered_fault}
use Rattle.fault.proofs.OneResult.{case_of, case_told, fault_no_values, fault_another}
use Rattle.fault.specs.declared.Fault.{Fault}
use Rattle.boarding.specs.Answers.{numbered_sold}
use Rattle.boarding.specs.declared.Sold.{Sold}
use Rattle.outcome.specs.Answers.{numbered_verdict, numbered_runs, halt_numbers, numbered_stop, numbered_sale}
use Rattle.outcome.specs.declared.Halt.{Halt}
use Rattle.outcome.specs.declared.Running.{Running}
use Rattle.outcome.specs.declared.Sale.{Sale}
use Rattle.outcome.specs.declared.Stop.{Stop}
use Rattle.outcome.specs.declared.Verdict.{Verdict}

-- THE CHECK. An accepted batch has four values, and a fault has none.
verdict_back : Numbered → Verdict
verdict_back a =
    pick (eqb (length a.values) 0)
    (Verdict.Refused (case_of a))
    (Verdict.Accepted (record { stops = get_or a.values 0 0; lines = get_or a.values 1 0; trips = get_or a.values 2 0; trip_stops = get_or a.values 3 0 }))

chosen : (n : ℕ) → n ≡ 0 → (x y : Verdict) → pick (eqb n 0) x y ≡ x
chosen n e x y = rw e

verdict_told : (v : Verdict) → verdict_back (numbered_verdict v) ≡ v
unfolding numbered_verdict verdict_back
verdict_told (Verdict.Accepted c) = refl
verdict_told (Verdict.Refused f) =
    chosen (length (numbered_fault f).values) (ap (λ (vs : List ℕ). length vs) (fault_no_values f)) _ _ ∙ ap (λ (x : Fault). Verdict.Refused x) (case_told f)

pub verdict_one : OneToOne numbered_verdict
verdict_one = told_back numbered_verdict verdict_back verdict_told

-- WHETHER A TRIP RUNS. A batch's fault has neither the numbers 12 and 13 nor values, and can be told back from its number and place.
running_back : Numbered → Running
running_back a =
    pick (eqb a.number 12) Running.NoDay
    (pick (eqb a.number 13) Running.NoTrip
    (pick (eqb (length a.values) 0) (Running.Refused (case_of a))
    (pick (eqb (get_or a.values 0 0) 1) Running.Yes Running.Not)))

running_told : (r : Running) → running_back (numbered_runs r) ≡ r
unfolding numbered_runs running_back
running_told (Running.Refused f) = rw (fault_another f 12 refl, fault_another f 13 refl, ap (λ (vs : List ℕ). length vs) (fault_no_values f), case_told f)
running_told Running.NoDay = refl
running_told Running.NoTrip = refl
running_told Running.Yes = refl
running_told Running.Not = refl

pub runs_one : OneToOne numbered_runs
runs_one = told_back numbered_runs running_back running_told

-- A TRIP'S STOP. A fault, among them 20, has neither the number 13 nor values, and can be told back from its number and place; a stop from its values.
halt_back : List ℕ → Halt
halt_back l = record {
  tariff = get_or l 0 0;
  stop = get_or l 1 0;
  arrives = get_or l 2 0;
  arrival = get_or l 3 0;
  departs = get_or l 4 0;
  departure = get_or l 5 0;
  signs = get_or l 6 0;
  last = get_or l 7 0;
  stops = get_or l 8 0;
}

-- the answer of this number, place and values
stop_back : Numbered → Stop
stop_back a =
    pick (eqb a.number 13) Stop.NoTrip
    (pick (eqb (length a.values) 0) (Stop.Refused (case_of a))
    (Stop.Is (halt_back a.values)))

stop_told : (r : Stop) → stop_back (numbered_stop r) ≡ r
unfolding numbered_stop halt_numbers halt_back stop_back
stop_told (Stop.Refused f) = rw (fault_another f 13 refl, ap (λ (vs : List ℕ). length vs) (fault_no_values f), case_told f)
stop_told Stop.NoTrip = refl
stop_told (Stop.Is h) = refl

pub stop_one : OneToOne numbered_stop
stop_one = told_back numbered_stop stop_back stop_told

-- A SALE. A batch's fault has neither the numbers 12 to 19 nor values, and can be told back from its number and place.
sale_back : Numbered → Sale
sale_back a =
    pick (eqb a.number 12) (Sale.Told Sold.NoDate)
    (pick (eqb a.number 13) (Sale.Told Sold.NoTrip)
    (pick (eqb a.number 14) (Sale.Told Sold.NoStop)
    (pick (eqb a.number 15) (Sale.Told Sold.NotThatDay)
    (pick (eqb a.number 16) (Sale.Told Sold.NotBefore)
    (pick (eqb a.number 17) (Sale.Told Sold.NoBoarding)
    (pick (eqb a.number 18) (Sale.Told Sold.NoLeaving)
    (pick (eqb a.number 19) (Sale.Told Sold.OneSection)
    (pick (eqb (length a.values) 0) (Sale.Refused (case_of a))
    (Sale.Told (Sold.At (get_or a.values 0 0) (get_or a.values 1 0)))))))))))

sale_told : (r : Sale) → sale_back (numbered_sale r) ≡ r
unfolding numbered_sale numbered_sold sale_back
sale_told (Sale.Refused f) =
    rw (fault_another f 12 refl, fault_another f 13 refl, fault_another f 14 refl, fault_another f 15 refl, fault_another f 16 refl, fault_another f 17 refl, fault_another f 18 refl, fault_another f 19 refl, ap (λ (vs : List ℕ). length vs) (fault_no_values f), case_told f)
sale_told (Sale.Told Sold.NoDate) = refl
sale_told (Sale.Told Sold.NoTrip) = refl
sale_told (Sale.Told Sold.NoStop) = refl
sale_told (Sale.Told Sold.NotThatDay) = refl
sale_told (Sale.Told Sold.NotBefore) = refl
sale_told (Sale.Told Sold.NoBoarding) = refl
sale_told (Sale.Told Sold.NoLeaving) = refl
sale_told (Sale.Told Sold.OneSection) = refl
sale_told (Sale.Told (Sold.At departure arrival)) = refl

pub sale_one : OneToOne numbered_sale
sale_one = told_back numbered_sale sale_back sale_told
