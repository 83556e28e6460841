-- The answer to a sale on a batch that stands: 12 to 19, or the two minutes.
use Rattle.std.specs.Prelude.{[], ◌∷◌}
use Rattle.laws.specs.Numbered.{Numbered, answered, refused}
use Rattle.boarding.specs.declared.Sold.{Sold}

-- document 01's number and values for each case of the answer on a batch that stands
unfoldable pub numbered_sold : Sold → Numbered
numbered_sold Sold.NoDate = refused 12
numbered_sold Sold.NoTrip = refused 13
numbered_sold Sold.NoStop = refused 14
numbered_sold Sold.NotThatDay = refused 15
numbered_sold Sold.NotBefore = refused 16
numbered_sold Sold.NoBoarding = refused 17
numbered_sold Sold.NoLeaving = refused 18
numbered_sold Sold.OneSection = refused 19
numbered_sold (Sold.At departure arrival) = answered (departure ∷ arrival ∷ [])
