-- `tally::line_feeds` meets its contract. The loop's invariant: `n` and the LFs from there on are all.
use mathlib.Core.Path.{◌≡◌}
use Prim.Native.Nat.{◌+◌}
use lib.ListN.{drop}
use Rattle.tally.specs.Feeds.{feeds}
use Rattle.tally.proofs.line_feeds.Given as goal

abbrev pub invariant-loop-b : goal.invariant-loop-b
invariant-loop-b l = l.n + feeds (drop l.b-index l.s) ≡ feeds l.s
