-- `daysigns::has_day_sign` meets its contract. The loop's invariant: whether one of the signs that are left is a day sign is whether one of all is.
use mathlib.Core.Path.{refl, sym, ◌∙◌}
use native.Mathlib.Omega.{arith}
use Rattle.signs.specs.Signs.{is_day_sign}
use Rattle.trip.specs.Days.{has_day_sign}
use Rattle.daysigns.proofs.SignLaws.{trip_code, sign_here, sign_past, sign_end, zero_no_sign}
use Rattle.daysigns.proofs.has_day_sign.Goals as goal

pub code_sign-requires : goal.code_sign-requires
code_sign-requires c =
    let p = c.requires in
    (p.0, trip_code c.loop-i.i (omega arith) (omega arith), p.1)

pub returns-then-is_day_sign : goal.returns-then-is_day_sign
unfolding has_day_sign
returns-then-is_day_sign c =
    sym (sign_here (λ x. is_day_sign x) zero_no_sign _ _ c.loop-i.i (omega arith) _ c.code_sign.ensures (sym c.is_day_sign.ensures ∙ c.if-is_day_sign.true))
    ∙ c.loop-i.invariant

pub loop-i-preserved : goal.loop-i-preserved
loop-i-preserved c =
    sym (sign_past (λ x. is_day_sign x) zero_no_sign _ _ c.loop-i.i (omega arith) _ c.code_sign.ensures (sym c.is_day_sign.ensures ∙ c.if-is_day_sign.false))
    ∙ c.loop-i.invariant

pub returns : goal.returns
unfolding has_day_sign
returns c =
    sym (sign_end (λ x. is_day_sign x) zero_no_sign _ _ c.loop-i.i (omega arith)) ∙ c.loop-i.invariant
