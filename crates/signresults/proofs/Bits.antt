-- A bool as a number is the definitions' bit.
use Rattle.std.specs.Prelude.{◌≡◌, refl, Bool, true, false}
use Rattle.std.specs.Int.{from_bool}
use Rattle.laws.specs.Tests.{bit}

pub byte_bit : (t : Bool) → from_bool t ≡ bit t
byte_bit true = refl
byte_bit false = refl
