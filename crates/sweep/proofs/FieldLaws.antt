-- Udaje and Mistenky have a line and a number first.
use mathlib.Core.Path.{refl}
use Rattle.field.specs.Kinds.{kind_of, kinds, udaje, mistenky}
use Rattle.onward.specs.Onward.{LineFirst}

pub first_9 : LineFirst 9
unfolding kind_of kinds udaje
first_9 = record { first = refl; second = refl }

pub first_13 : LineFirst 13
unfolding kind_of kinds mistenky
first_13 = record { first = refl; second = refl }
