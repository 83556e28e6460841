-- Document 01, "The check program and the desk host": the one line that the check program writes, as bytes with its LF.
use Rattle.std.specs.Prelude.{ℕ, List, [], ◌∷◌, leb}
use Rattle.laws.specs.Tests.{pick}
use Rattle.thirteen.specs.Batch.{Batch}
use Rattle.together.specs.Lengths.{bytes_together}
use Rattle.verdictline.specs.VerdictLine.{verdict_line}
use Rattle.batch.specs.Verdicts.{verdict_of}

-- `TOO LARGE` and LF
unfoldable pub too_large : List ℕ
too_large = 84 ∷ 79 ∷ 79 ∷ 32 ∷ 76 ∷ 65 ∷ 82 ∷ 71 ∷ 69 ∷ 10 ∷ []

-- the line of the check program: 61,440 bytes together at most
unfoldable pub program_line : Batch → List ℕ
program_line b = pick (leb (bytes_together b) 61440) (verdict_line (verdict_of b)) too_large
