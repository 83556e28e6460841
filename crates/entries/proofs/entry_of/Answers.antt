-- `entries::entry_of` asks what it may: a record starts at the place, and a list that isn't empty is an index.
use mathlib.Core.Path.{◌≡◌, sym}
use native.Mathlib.Omega.{arith}
use lib.ListN.{length}
use borrow.Author.Tests.{eqb-false}
use Rattle.keys.proofs.KeyFileLaws.{key_here}
use Rattle.entries.proofs.entry_of.Goals as goal

pub key_at-requires : goal.key_at-requires
key_at-requires c = let p = c.requires in key_here _ _ _ p.0 p.2 p.3

pub lower-requires : goal.lower-requires
lower-requires c =
    let some : length c.args.part.now ≡ 0 → ⊥ = eqb-false _ _ (sym c.if-is_empty.ensures) in
    let p = c.requires in
    (p.0, p.1 (omega arith), c.key_at.ensures.low)
