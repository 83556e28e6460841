-- `keys::key_at` meets its contract: number after number, each read where the text of its field starts.
use native.Mathlib.Omega.{arith}
use lib.ListN.{get_or}
use mathlib.Core.List.{[]}
use Prim.Native.Nat.{◌+◌, ◌≤◌}
use Rattle.keys.specs.Ranks.{record_at}
use Rattle.keys.proofs.TableLaws.{keyed_two, keyed_nine, keyed_three}
use Rattle.keys.proofs.ReadLaws.{here_most, first_here, first_small, first_room, key_one, second_here, second_small, second_room, key_two, third_here, key_three}
use Rattle.keys.proofs.key_at.Goals as goal
use Rattle.keys.proofs.key_at.Goals.{then-file-lt8-via-then-file-lt8, then-file-lt8-via-else-file-lt8+then-file-eq9}

pub number_at-a-requires : goal.number_at-a-requires
number_at-a-requires c =
    let a = c.args in
    let h = first_here a.file a.s.now a.at c.requires in
    (omega (arith, h.room), here_most a.s.now (a.at + 1) (get_or (record_at a.file a.s.now a.at) 0 []) h)

pub returns-then-file-lt6 : goal.returns-then-file-lt6
returns-then-file-lt6 c =
    let a = c.args in
    let n = c.number_at-a in
    key_one a.file a.s.now a.at c.requires n.result.value n.result.end n.ensures (omega arith)

pub overflow_add-a : goal.overflow_add-a
overflow_add-a c =
    let a = c.args in
    let n = c.number_at-a in
    omega (arith, first_room a.file a.s.now a.at c.requires n.result.value n.result.end n.ensures)

pub number_at-b-requires : goal.number_at-b-requires
number_at-b-requires c =
    let a = c.args in
    let n = c.number_at-a in
    let h = second_here a.file a.s.now a.at c.requires n.result.value n.result.end n.ensures (omega arith) in
    (omega (arith, h.room), here_most a.s.now (n.result.end + 3) (get_or (record_at a.file a.s.now a.at) 1 []) h)

pub overflow_mul-hi : goal.overflow_mul-hi
overflow_mul-hi c =
    let n = c.number_at-a in
    let a = c.args in
    omega (arith, first_small a.file a.s.now a.at c.requires n.result.value n.result.end n.ensures)

pub overflow_add-hi : goal.overflow_add-hi
overflow_add-hi c =
    let m = c.number_at-b in
    let n = c.number_at-a in
    let a = c.args in
    let more : 6 ≤ a.file = omega arith in
    omega (
      arith,
      first_small a.file a.s.now a.at c.requires n.result.value n.result.end n.ensures,
      second_small a.file a.s.now a.at c.requires n.result.value n.result.end n.ensures more m.result.value m.result.end m.ensures,
    )

pub returns-then-file-lt8 : goal.returns-then-file-lt8
returns-then-file-lt8 c =
    let m = c.number_at-b in
    let n = c.number_at-a in
    let a = c.args in
    let more : 6 ≤ a.file = omega arith in
    key_two a.file a.s.now a.at c.requires n.result.value n.result.end n.ensures more m.result.value m.result.end m.ensures
    (elim c.then-file-lt8.branch [ then-file-lt8-via-then-file-lt8 w ↦ keyed_two a.file more (omega arith) | then-file-lt8-via-else-file-lt8+then-file-eq9 w ↦ keyed_nine a.file (omega arith) ])

pub overflow_add-b : goal.overflow_add-b
overflow_add-b c =
    let m = c.number_at-b in
    let n = c.number_at-a in
    let a = c.args in
    let more : 6 ≤ a.file = omega arith in
    omega (arith, second_room a.file a.s.now a.at c.requires n.result.value n.result.end n.ensures more m.result.value m.result.end m.ensures)

pub number_at-c-requires : goal.number_at-c-requires
number_at-c-requires c =
    let m = c.number_at-b in
    let n = c.number_at-a in
    let a = c.args in
    let more : 6 ≤ a.file = omega arith in
    let all = keyed_three a.file (omega arith) c.requires.keyed.1 (λ e. omega arith) in
    let h = third_here a.file a.s.now a.at c.requires n.result.value n.result.end n.ensures more m.result.value m.result.end m.ensures all in
    (omega (arith, h.room), here_most a.s.now (m.result.end + 3) (get_or (record_at a.file a.s.now a.at) 2 []) h)

pub returns : goal.returns
returns c =
    let m = c.number_at-b in
    let n = c.number_at-a in
    let a = c.args in
    let more : 6 ≤ a.file = omega arith in
    let all = keyed_three a.file (omega arith) c.requires.keyed.1 (λ e. omega arith) in
    key_three a.file a.s.now a.at c.requires n.result.value n.result.end n.ensures more m.result.value m.result.end m.ensures all
    c.number_at-c.result.value c.number_at-c.result.end c.number_at-c.ensures
