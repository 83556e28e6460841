-- `quotes::plain_end` meets its contract. The loop's invariant: `i` is within s, and the plain bytes from `at` on end where those from `i` on end.
use mathlib.Core.Path.{◌≡◌, sym, ◌∙◌}
use Prim.Native.Nat.{◌+◌}
use native.Mathlib.Omega.{arith}
use Rattle.file.proofs.TextLaws.{run_plain, run_stops, run_end, class_plain, class_other}
use Rattle.quotes.proofs.plain_end.Goals as goal
use Rattle.quotes.proofs.plain_end.Goals.{else-i-s-via-then-i-s+else-class_of-eq46, else-i-s-via-else-i-s}

pub returns-then-class_of-ne46 : goal.returns-then-class_of-ne46
returns-then-class_of-ne46 c =
    let n = class_other _ (λ z. c.if-class_of-ne46.true (c.class_of.ensures ∙ z)) in
    record { place = omega (arith, c.loop-i.invariant.1, run_stops c.args.s.now c.loop-i.i (omega arith) n); near = omega arith }

pub returns-then-class_of-ne46-2 : goal.returns-then-class_of-ne46-2
returns-then-class_of-ne46-2 c =
    let m = class_plain _ (sym c.class_of.ensures ∙ c.if-class_of-ne46.false) in
    let n = class_other _ (λ z. c.if-class_of-ne46-2.true (c.class_of-in-loop-i.ensures ∙ z)) in
    record { place = omega (arith, c.loop-i.invariant.1, run_plain c.args.s.now c.loop-i.i (omega arith) m, run_stops c.args.s.now (c.loop-i.i + 1) (omega arith) n); near = omega arith }

pub loop-i-preserved : goal.loop-i-preserved
loop-i-preserved c =
    let m = class_plain _ (sym c.class_of.ensures ∙ c.if-class_of-ne46.false) in
    let n = class_plain _ (sym c.class_of-in-loop-i.ensures ∙ c.if-class_of-ne46-2.false) in
    let e : c.loop-i.i + 1 + 1 ≡ c.loop-i.i + 2 = omega arith in
    (omega arith, omega (arith, c.loop-i.invariant.1, run_plain c.args.s.now c.loop-i.i (omega arith) m, rw e at (run_plain c.args.s.now (c.loop-i.i + 1) (omega arith) n)))

pub returns-then-class_of-eq46 : goal.returns-then-class_of-eq46
returns-then-class_of-eq46 c =
    let n = class_plain _ (sym c.class_of-then-i-s.ensures ∙ c.if-class_of-eq46.true) in
    record { place = omega (arith, c.loop-i.invariant.1, run_plain c.args.s.now c.loop-i.i (omega arith) n, run_end c.args.s.now (c.loop-i.i + 1) (omega arith)); near = omega arith }

pub returns-else-i-s : goal.returns-else-i-s
returns-else-i-s c =
    elim c.else-i-s.branch [
      | else-i-s-via-then-i-s+else-class_of-eq46 w ↦
          let n = class_other _ (λ z. w.if-class_of-eq46.false (w.class_of-then-i-s.ensures ∙ z)) in
          record { place = omega (arith, c.loop-i.invariant.1, run_stops c.args.s.now c.loop-i.i (omega arith) n); near = omega arith }
      | else-i-s-via-else-i-s w ↦ record { place = omega (arith, c.loop-i.invariant.1, run_end c.args.s.now c.loop-i.i (omega arith)); near = omega arith }
    ]
