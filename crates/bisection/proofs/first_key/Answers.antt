-- `bisection::first_key` asks for a key only where there is a record.
use native.Mathlib.Omega.{arith}
use Rattle.keys.proofs.KeyFileLaws.{key_here}
use Rattle.bisection.proofs.SoughtLaws.{start}
use Rattle.bisection.proofs.first_key.Goals as goal

pub key_at-requires : goal.key_at-requires
key_at-requires c =
    let a = c.args in
    key_here a.file a.s.now 0 c.requires.0 (start a.file a.s.now c.requires.0) (omega (arith, c.requires.1))
