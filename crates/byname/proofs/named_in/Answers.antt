-- `byname::named_in` meets its contract. The loop's invariant: what is counted from the record at `at` on is what is counted in all.
use mathlib.Core.Path.{refl, sym, ap, ◌∙◌}
use mathlib.Core.List.{List}
use Prim.Native.Nat.{ℕ, ◌-◌}
use native.Mathlib.Omega.{arith}
use Rattle.file.specs.Files.{fields_of, field_counts}
use Rattle.file.specs.Format.{Text, Fields}
use Rattle.field.specs.Values.{value}
use Rattle.walk.proofs.WalkLaws.{none_left}
use Rattle.lines.proofs.LineLaws.{place_start, cut_next}
use Rattle.keys.specs.KeyFiles.{PlaceIn}
use Rattle.rules.specs.Texts.{texts, Kinded}
use Rattle.amiss.proofs.RecordLaws.{number_part, number_text}
use Rattle.coded.proofs.LeftLaws.{left_here, left_kinded}
use Rattle.byname.proofs.CountLaws.{stop_key, count_here, count_other, count_end}
use Rattle.byname.proofs.named_in.Goals as goal

pub loop-at-init : goal.loop-at-init
loop-at-init c =
    (omega arith, place_start (fields_of 2) c.args.f2.now c.requires.key.legal, refl)

pub cut-next-requires : goal.cut-next-requires
unfolding fields_of field_counts
cut-next-requires c =
    let a = c.args in
    left_here 2 a.f2.now a.paths.order.now a.paths.ways.now c.requires _ c.loop-at.invariant.1 c.loop-at-test.true

pub value_of-requires : goal.value_of-requires
unfolding fields_of field_counts
value_of-requires c =
    let file : List ℕ =
    c.args.f2.now in
    let kinded : Kinded 2 file c.cut-next.new.places =
    let a = c.args in
    left_kinded 2 file a.paths.order.now a.paths.ways.now c.requires _ c.loop-at.invariant.1 c.loop-at-test.true c.cut-next.ensures in
    let n = number_part kinded 1 c.part.ensures stop_key in
    (n.digits, n.most)

pub overflow_add-found : goal.overflow_add-found
overflow_add-found c =
    let x = c.cut-next.ensures in
    omega (arith, c.loop-at.invariant.0, x.far, x.near)

-- a stop of the name: its number is that of the first, if there was none before
pub loop-at-preserved-then-is_named : goal.loop-at-preserved-then-is_named
unfolding fields_of field_counts
loop-at-preserved-then-is_named c =
    let file : List ℕ =
    c.args.f2.now in
    let kinded : Kinded 2 file c.cut-next.new.places =
    let a = c.args in
    left_kinded 2 file a.paths.order.now a.paths.ways.now c.requires _ c.loop-at.invariant.1 c.loop-at-test.true c.cut-next.ensures in
    let next_place : PlaceIn 2 file c.cut-next.result =
    (cut_next 12 file _ _ _ _ c.loop-at.invariant.1 c.cut-next.ensures).place in
    let stop : Fields =
    texts 2 file c.cut-next.new.places in
    let a = c.args in
    let x = c.cut-next.ensures in
    let n = number_text kinded 1 c.part.ensures stop_key in (
      omega (arith, c.loop-at.invariant.0, x.far),
      next_place,
      count_here a.town.now a.part.now a.place.now c.loop-at.found c.loop-at.first {r = stop} x.rest c.is_named.ensures c.if-is_named.true
          (c.value_of.ensures ∙ ap (λ (y : Text). value y) (sym n)) c.first_of-first.ensures
          ∙ c.loop-at.invariant.2,
    )

-- another stop
pub loop-at-preserved : goal.loop-at-preserved
unfolding fields_of field_counts
loop-at-preserved c =
    let file : List ℕ =
    c.args.f2.now in
    let next_place : PlaceIn 2 file c.cut-next.result =
    (cut_next 12 file _ _ _ _ c.loop-at.invariant.1 c.cut-next.ensures).place in
    let stop : Fields =
    texts 2 file c.cut-next.new.places in
    let a = c.args in
    let x = c.cut-next.ensures in (
      omega (arith, c.loop-at.invariant.0, x.far),
      next_place,
      count_other a.town.now a.part.now a.place.now c.loop-at.found c.loop-at.first {r = stop} x.rest c.is_named.ensures c.if-is_named.false ∙ c.loop-at.invariant.2,
    )

pub returns : goal.returns
returns c =
    let a = c.args in
    c.settled_by.ensures
    ∙ count_end a.town.now a.part.now a.place.now c.loop-at.found c.loop-at.first _ (none_left (fields_of 2) a.f2.now c.loop-at.at c.loop-at-test.false)
    ∙ c.loop-at.invariant.2

pub is_named-requires : goal.is_named-requires
unfolding fields_of field_counts
is_named-requires c =
    let file : List ℕ =
    c.args.f2.now in
    let kinded : Kinded 2 file c.cut-next.new.places =
    let a = c.args in
    left_kinded 2 file a.paths.order.now a.paths.ways.now c.requires _ c.loop-at.invariant.1 c.loop-at-test.true c.cut-next.ensures in
    kinded

pub part-requires : goal.part-requires
unfolding fields_of field_counts
part-requires c =
    let file : List ℕ =
    c.args.f2.now in
    let kinded : Kinded 2 file c.cut-next.new.places =
    let a = c.args in
    left_kinded 2 file a.paths.order.now a.paths.ways.now c.requires _ c.loop-at.invariant.1 c.loop-at-test.true c.cut-next.ensures in
    kinded.parted 0 (omega arith)

pub loop-at-smaller-then-is_named : goal.loop-at-smaller-then-is_named
loop-at-smaller-then-is_named c = let x = c.cut-next.ensures in omega (arith, x.far, x.near)
