-- How many LFs bytes have.
use Rattle.std.specs.Prelude.{ℕ, suc, List, [], ◌∷◌, eqb}
use Rattle.laws.specs.Tests.{pick}
use Rattle.file.specs.Bytes.{LF}

unfoldable pub feeds : List ℕ → ℕ
feeds [] = 0
feeds (b ∷ l) = pick (eqb b LF) (suc (feeds l)) (feeds l)
