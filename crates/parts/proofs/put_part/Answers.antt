-- `parts::put_part` meets its contract. A part with places in it is that of a file whose keys don't rise, so it is as long as the file has records.
use mathlib.Core.Path.{◌≡◌, ◌∙◌}
use mathlib.Core.Bool.{false}
use Prim.Native.Nat.{◌+◌, ◌-◌, ◌≤◌}
use native.Mathlib.Omega.{arith}
use lib.ListN.{length}
use Rattle.file.specs.Files.{fields_of}
use Rattle.file.specs.Records.{records_in}
use Rattle.lines.specs.Order.{is_rising}
use Rattle.keys.specs.Ranks.{rank_of}
use Rattle.parts.specs.Parts.{part_of}
use Rattle.parts.proofs.PartLaws.{part_kept, part_there, part_many, part_laid, mid_size}
use Rattle.parts.proofs.put_part.Goals as goal

pub returns-then-size-eq0 : goal.returns-then-size-eq0
returns-then-size-eq0 c =
    let a = c.args in
    let z : length (part_of a.file a.s.now) ≡ 0 = omega (arith, c.size_of-size.ensures, c.if-size-eq0) in
    (part_kept a.file a.s.now a.list.now a.at z, omega (arith, z))

pub put_file-requires : goal.put_file-requires
put_file-requires c =
    let unsorted : let a = c.args in
    is_rising (rank_of a.file) (records_in (fields_of a.file) a.s.now) ≡ false =
    let a = c.args in
    part_there a.file a.s.now (omega (arith, c.size_of-size.ensures, c.if-size-eq0)) in
    let a = c.args in
    let m = c.size_of-size.result in
    let z : a.at + m - a.at ≡ m = omega arith in
    let room : a.at + (a.at + m - a.at) ≤ length a.list.now = omega (arith, c.requires.2, c.size_of-size.ensures) in
    (c.requires.0, c.requires.1, mid_size a.list.now a.at (a.at + m - a.at) room ∙ z ∙ c.size_of-size.ensures ∙ part_many a.file a.s.now unsorted)

pub returns : goal.returns
returns c =
    let unsorted : let a = c.args in
    is_rising (rank_of a.file) (records_in (fields_of a.file) a.s.now) ≡ false =
    let a = c.args in
    part_there a.file a.s.now (omega (arith, c.size_of-size.ensures, c.if-size-eq0)) in
    let a = c.args in
    let m = c.size_of-size.result in
    let z : a.at + m - a.at ≡ length (part_of a.file a.s.now) = omega (arith, c.size_of-size.ensures) in
    (part_laid a.file a.s.now a.list.now a.at (a.at + m - a.at) unsorted c.put_file.ensures z, omega (arith, c.size_of-size.ensures))
