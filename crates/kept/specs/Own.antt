-- The records of a trip, that of record r of Spoje, among those of the batch, and their travel order.
use Rattle.std.specs.Prelude.{ℕ, ◌≤◌, ◌<◌, ◌%◌, ◌≡◌, eqb, length}
use Rattle.laws.specs.Tests.{pick}
use Rattle.file.specs.Format.{Fields}
use Rattle.field.specs.Names.{field}
use Rattle.thirteen.specs.Batch.{Batch}
use Rattle.link.specs.Met.{Stands, number, Sign}

-- q is a record of this file with its line and number
abbrev pub OfTrip : Batch → ℕ → Fields → Fields → Type 0
OfTrip b file r q = Stands b file q × (number 1 q ≡ number 1 r) × (number 2 q ≡ number 2 r)

-- Caskody, and Zasspoje
abbrev pub TimeCode : Batch → Fields → Fields → Type 0
TimeCode b r q = OfTrip b 10 r q

abbrev pub TripStop : Batch → Fields → Fields → Type 0
TripStop b r q = OfTrip b 8 r q

-- x is the sign of one of its codes, fields 3-12
abbrev pub TripSign : Batch → Fields → ℕ → Type 0
TripSign b r x = (f : ℕ) × (3 ≤ f) × (f ≤ 12) × (length (field f r) ≡ 0 → ⊥) × Sign b (number f r) x

-- travel order is rising tariff number for an odd trip number, falling for an even one: p is passed before q
abbrev pub Ahead : ℕ → Fields → Fields → Type 0
Ahead trip p q = pick (eqb (trip % 2) 1) (number 3 p < number 3 q) (number 3 q < number 3 p)
