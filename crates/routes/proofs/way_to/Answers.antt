-- `routes::way_to` meets its contract: what the passes over the file and its part of the list have shown.
use mathlib.Core.Path.{◌≡◌, ◌∙◌}
use mathlib.Core.List.{List}
use Prim.Native.Nat.{ℕ, ◌+◌, ◌-◌, ◌≤◌}
use native.Mathlib.Omega.{arith}
use lib.ListN.{length, drop, length-drop}
use lib.Seq.{length-take-le}
use Rattle.ordered.proofs.OrderedLaws.{rises_flag}
use Rattle.lookup.specs.Ways.{part_of}
use Rattle.routes.proofs.RouteLaws.{way_rising, way_none, way_index, way_apart}
use Rattle.routes.proofs.way_to.Goals as goal

pub returns-then-rising : goal.returns-then-rising
returns-then-rising c =
    let a = c.args in
    let up = rises_flag a.file a.s.now _ c.rising.ensures c.if-rising.true in
    (way_rising a.file a.s.now a.order.now c.requires.0 up, c.requires.1)

pub returns-then-n-order : goal.returns-then-n-order
returns-then-n-order c =
    let a = c.args in
    (way_none a.file a.s.now a.order.now c.requires.0, omega arith)

-- as many entries as the file has records
part_size : (order : List ℕ) (from n : ℕ) → from + n ≤ length order → length (part_of order from (from + n)) ≡ n
part_size order from n h =
    let e : from + n - from ≡ n = omega arith in
    rw e (length-take-le n (drop from order) (simp length-drop (omega arith)))

pub look_at-kind-requires : goal.look_at-kind-requires
look_at-kind-requires c =
    let n = c.count-n in
    (c.requires.0, part_size c.args.order.now c.args.from n.result (omega arith) ∙ n.ensures)

pub returns-then-kind-eq0 : goal.returns-then-kind-eq0
returns-then-kind-eq0 c =
    let a = c.args in
    (way_none a.file a.s.now a.order.now c.requires.0, omega arith)

pub returns-then-kind-eq1 : goal.returns-then-kind-eq1
returns-then-kind-eq1 c =
    let a = c.args in
    let n = c.count-n.result in
    let l = c.look_at-kind.ensures in
    (way_index a.file a.s.now a.order.now c.requires.0 a.from (a.from + n) (omega arith) (omega arith) (l.index (omega arith)), omega arith)

pub returns : goal.returns
returns c =
    let a = c.args in
    let n = c.count-n.result in
    let l = c.look_at-kind.ensures in
    (way_apart a.file a.s.now a.order.now c.requires.0 a.from (a.from + n) (omega arith) (omega arith) (l.index (omega arith)) (l.apart (omega arith)), omega arith)
