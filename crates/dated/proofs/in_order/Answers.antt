-- `dated::in_order` meets its contract: with a from-date, what is asked is what a to-date that closes it asks.
use mathlib.Core.Path.{◌∙◌, sym}
use native.Mathlib.Omega.{arith}
use Rattle.std.proofs.lemmas.Bool.{eqb-false}
use Rattle.field.specs.Rules.{in_order}
use Rattle.dated.proofs.RuleLaws.{order_given}
use Rattle.dated.proofs.in_order.Goals as goal

pub returns-then-is_empty : goal.returns-then-is_empty
unfolding in_order
returns-then-is_empty c = grind arith

pub returns-else-is_empty : goal.returns-else-is_empty
returns-else-is_empty c = c.closes_in_order.ensures ∙ order_given _ _ (eqb-false _ _ (sym c.if-is_empty.ensures))
