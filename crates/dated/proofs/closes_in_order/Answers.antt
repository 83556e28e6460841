-- `dated::closes_in_order` meets its contract: with no to-date nothing is asked, and what is given is a date, so its rank will do.
use mathlib.Core.Path.{◌≡◌, sym}
use native.Mathlib.Omega.{arith}
use lib.ListN.{length}
use Rattle.std.proofs.lemmas.Bool.{eqb-false}
use Rattle.field.specs.Rules.{closes}
use Rattle.dated.proofs.RuleLaws.{is_given}
use Rattle.dated.proofs.DateLaws.{closes_ranked}
use Rattle.dated.proofs.closes_in_order.Goals as goal

pub returns-then-is_empty : goal.returns-then-is_empty
unfolding closes
returns-then-is_empty c = grind arith

pub returns-then-not-is_empty : goal.returns-then-not-is_empty
returns-then-not-is_empty c =
    let from : length c.args.from.now ≡ 0 → ⊥ = eqb-false _ _ (sym c.if-not-is_empty.ensures) in
    let to : length c.args.to.now ≡ 0 → ⊥ = eqb-false _ _ (sym c.if-is_empty.ensures) in
    rw (c.rank_of.ensures, c.rank_of-then-not-is_empty.ensures)
    (closes_ranked _ _ from to (is_given _ c.requires.0 from) (is_given _ c.requires.1 to))

pub returns-else-not-is_empty : goal.returns-else-not-is_empty
unfolding closes
returns-else-not-is_empty c = grind arith
