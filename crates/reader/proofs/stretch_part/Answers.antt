-- `reader::stretch_part` meets its contract: the part is the stretch, which is inside the file.
use mathlib.Core.Path.{◌≡◌, sym, ap, ◌∙◌}
use mathlib.Core.List.{[], ◌∷◌}
use Prim.Native.Nat.{ℕ, ◌+◌, ◌-◌}
use native.Mathlib.Omega.{arith}
use lib.ListN.{take, drop}
use Rattle.laws.specs.Numbered.{Numbered}
use Rattle.file.specs.Answers.{numbered_stretch, stretch_of, stretch_in}
use Rattle.file.proofs.AnswerLaws.{refusal_values}
use Rattle.reader.proofs.stretch_part.Goals as goal

pub returns-in-Ok : goal.returns-in-Ok
unfolding numbered_stretch stretch_in
returns-in-Ok c =
    let a = c.args in
    let start = c.in-Ok.part.start in
    let size = c.in-Ok.part.size in
    let v : start ∷ size ∷ [] ≡ (stretch_of a.file a.s.now a.r a.f).values =
    ap (λ (z : Numbered). z.values) (c.in-Ok.ensures.0) in
    let e : start + size - start ≡ size = omega arith in
    ap (λ (n : ℕ). take n (drop start a.s.now)) e ∙ ap (stretch_in a.s.now) v

pub returns-in-Err : goal.returns-in-Err
unfolding numbered_stretch stretch_in
returns-in-Err c =
    let a = c.args in
    let v : [] ≡ (stretch_of a.file a.s.now a.r a.f).values =
    sym (refusal_values _) ∙ ap (λ (z : Numbered). z.values) (c.in-Err.ensures.0) in
    rw (← v)
