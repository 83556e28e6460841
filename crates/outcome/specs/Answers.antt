-- Document 01's number, place and values for each case of what the calls on a batch come back with.
use Rattle.std.specs.Prelude.{ℕ, List, [], ◌∷◌}
use Rattle.laws.specs.Numbered.{Numbered, answered, refused}
use Rattle.fault.specs.Answers.{numbered_fault}
use Rattle.boarding.specs.Answers.{numbered_sold}
use Rattle.outcome.specs.declared.Halt.{Halt}
use Rattle.outcome.specs.declared.Running.{Running}
use Rattle.outcome.specs.declared.Sale.{Sale}
use Rattle.outcome.specs.declared.Stop.{Stop}
use Rattle.outcome.specs.declared.Verdict.{Verdict}

-- the check
unfoldable pub numbered_verdict : Verdict → Numbered
numbered_verdict (Verdict.Accepted c) = answered (c.stops ∷ c.lines ∷ c.trips ∷ c.trip_stops ∷ [])
numbered_verdict (Verdict.Refused fault) = numbered_fault fault

-- whether a trip runs
unfoldable pub numbered_runs : Running → Numbered
numbered_runs (Running.Refused f) = numbered_fault f
numbered_runs Running.NoDay = refused 12
numbered_runs Running.NoTrip = refused 13
numbered_runs Running.Yes = answered (1 ∷ [])
numbered_runs Running.Not = answered (0 ∷ [])

-- a trip's stop: the numbers of an answer, in order
unfoldable pub halt_numbers : Halt → List ℕ
halt_numbers h =
    h.tariff ∷ h.stop ∷ h.arrives ∷ h.arrival ∷ h.departs ∷ h.departure ∷ h.signs ∷ h.last ∷ h.stops ∷ []

-- 20 has no case of its own: it is the fault `NoSuch`, so that no two cases have one number, place and values
unfoldable pub numbered_stop : Stop → Numbered
numbered_stop (Stop.Refused f) = numbered_fault f
numbered_stop Stop.NoTrip = refused 13
numbered_stop (Stop.Is h) = answered (halt_numbers h)

-- a sale
unfoldable pub numbered_sale : Sale → Numbered
numbered_sale (Sale.Refused f) = numbered_fault f
numbered_sale (Sale.Told s) = numbered_sold s
