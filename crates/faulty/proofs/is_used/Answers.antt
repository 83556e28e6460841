-- `faulty::is_used` meets its contract: no record of a file without keys, or whose keys are all different, has an earlier one's key.
use native.Mathlib.Omega.{arith}
use Rattle.faulty.proofs.StageLaws.{used_keyless, used_known, used_found, way_here, serves_part}
use Rattle.faulty.proofs.is_used.Goals as goal

pub returns-then-file-gt10 : goal.returns-then-file-gt10
returns-then-file-gt10 c =
    used_keyless _ _ _ _ _ c.requires c.if-file-gt10.true

pub returns-then-how-eq1 : goal.returns-then-how-eq1
returns-then-how-eq1 c =
    used_known _ _ _ _ _ c.requires c.if-file-gt10.false c.then-how-eq1.either

pub index_of-requires : goal.index_of-requires
index_of-requires c =
    let w = way_here _ _ _ _ _ c.requires c.if-file-gt10.false in
    (omega (arith, c.if-file-gt10.false), c.requires.size, w.ends, w.near)

pub used_before-requires : goal.used_before-requires
used_before-requires c =
    (serves_part _ _ _ _ _ c.requires c.if-file-gt10.false _ c.index_of.ensures, c.requires.place, c.requires.more)

pub returns : goal.returns
returns c =
    used_found _ _ _ _ _ c.requires c.if-file-gt10.false _ c.used_before.ensures
