-- `daysigns::signs_allow` meets its contract. The loop's invariant: whether one of the signs that are left fits day d is whether one of all does.
use mathlib.Core.Path.{refl, sym, ◌∙◌}
use native.Mathlib.Omega.{arith}
use Rattle.signs.specs.Signs.{sign_fits}
use Rattle.daysigns.proofs.SignLaws.{trip_code, sign_here, sign_past, sign_end, zero_fits_none, signs_one, signs_none}
use Rattle.daysigns.proofs.signs_allow.Goals as goal

pub code_sign-sign-requires : goal.code_sign-sign-requires
code_sign-sign-requires c =
    let p = c.requires in
    (p.0, trip_code c.loop-i.i (omega arith) (omega arith), p.1)

pub returns-then-sign_fits : goal.returns-then-sign_fits
returns-then-sign_fits c =
    let d = c.args.d in
    let holidays = c.args.holidays.now in
    let e = sign_here (λ x. sign_fits x d holidays) (zero_fits_none d holidays) _ _ c.loop-i.i (omega arith) _ c.code_sign-sign.ensures (sym c.sign_fits.ensures ∙ c.if-sign_fits.true) in
    signs_one _ d holidays (sym c.loop-i.invariant ∙ e)

pub loop-i-preserved : goal.loop-i-preserved
loop-i-preserved c =
    let d = c.args.d in
    let holidays = c.args.holidays.now in
    sym (sign_past (λ x. sign_fits x d holidays) (zero_fits_none d holidays) _ _ c.loop-i.i (omega arith) _ c.code_sign-sign.ensures (sym c.sign_fits.ensures ∙ c.if-sign_fits.false))
    ∙ c.loop-i.invariant

pub returns : goal.returns
returns c =
    let d = c.args.d in
    let holidays = c.args.holidays.now in
    let e = sign_end (λ x. sign_fits x d holidays) (zero_fits_none d holidays) _ _ c.loop-i.i (omega arith) in
    signs_none _ d holidays (sym c.loop-i.invariant ∙ e) _ c.has_day_sign.ensures
