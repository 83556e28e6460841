-- `seek::entry_key` meets its contract: a record starts at each entry of an index.
use native.Mathlib.Omega.{arith}
use lib.ListN.{get_or}
use Rattle.keys.proofs.KeyFileLaws.{key_here}
use Rattle.seek.proofs.entry_key.Goals as goal

pub key_at-requires : goal.key_at-requires
key_at-requires c =
    let a = c.args in
    let w = c.requires.1.start a.i c.requires.2 in
    key_here a.file a.s.now (get_or a.order.now a.i 0) c.requires.0 w.place w.within

pub overflow_cast-order : goal.overflow_cast-order
overflow_cast-order c = omega (arith, c.type_inv.order c.args.i)
