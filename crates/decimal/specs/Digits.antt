-- A number in decimal without leading zeros, as bytes. Its equations stand as laws: `digits_small` for a number below ten, `digits_big` for another.
use Rattle.std.specs.Prelude.{ℕ, zero, suc, ◌+◌, ◌/◌, ◌%◌, List, [], ◌∷◌, ◌++◌, ltb}
use Rattle.laws.specs.Tests.{pick}

-- the digits of n, by at most `steps` steps. The `let` waits: what it binds is not computed where n has one digit
unfoldable pub digits_by : ℕ → ℕ → List ℕ
digits_by zero n = []
digits_by (suc steps) n =
    let more = digits_by steps (n / 10) ++ ((48 + n % 10) ∷ []) in
    pick (ltb n 10) ((48 + n) ∷ []) more

-- n has at most n + 1 digits
unfoldable pub digits_of : ℕ → List ℕ
digits_of n = digits_by (suc n) n
