-- `extent::maybe_number_end` meets its contract: no text at all, or a number.
use Rattle.std.specs.Prelude.{ℕ, List, Option, Some, None, IfSome}
use Rattle.field.specs.declared.Kind.{Kind}
use Rattle.extent.specs.Extent.{TextTo}
use Rattle.extent.proofs.TextLaws.{maybe_number, no_text, no_number}
use Rattle.extent.proofs.maybe_number_end.Goals as goal

pub returns-then-stands : goal.returns-then-stands
returns-then-stands c = no_text _ c.args.s.now c.args.at (no_number c.args.a c.args.b) c.requires

-- a number is a number that may be left out
maybe : (a b : ℕ) (s : List ℕ) (at : ℕ) (found : Option ℕ) → IfSome found (λ end. TextTo (Kind.Digits a b) s at end) → IfSome found (λ end. TextTo (Kind.MaybeDigits a b) s at end)
maybe a b s at (Some end) t = maybe_number a b s at end t
maybe a b s at None t = t

pub returns-else-stands : goal.returns-else-stands
returns-else-stands c =
    let a = c.args in
    maybe a.a a.b a.s.now a.at c.number_end.result c.number_end.ensures
