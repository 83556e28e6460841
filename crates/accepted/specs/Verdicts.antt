-- A verdict is Accepted.
use Rattle.outcome.specs.declared.Verdict.{Verdict}

unfoldable pub IsAccepted : Verdict → Type 0
IsAccepted (Verdict.Accepted counts) = Unit
IsAccepted (Verdict.Refused fault) = ⊥
