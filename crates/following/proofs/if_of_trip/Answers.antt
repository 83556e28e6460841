-- `following::if_of_trip` meets its contract: the key's first two numbers are the trip's, or they are not.
use mathlib.Core.Path.{sym}
use native.Mathlib.Omega.{arith}
use Rattle.keys.proofs.KeyFileLaws.{key_here}
use Rattle.find.proofs.TripLaws.{trip_end, trip_here, trip_other}
use Rattle.following.proofs.if_of_trip.Goals as goal
use Rattle.following.proofs.if_of_trip.Goals.{else-at-s-via-then-at-s+else-key_at-line, else-at-s-via-else-at-s}

pub returns-then-key_at-line : goal.returns-then-key_at-line
returns-then-key_at-line c =
    let k = c.key_at in
    let a = c.args in
    let q = c.requires in
    sym (trip_here a.file a.line a.trip a.s.now a.at q.0 q.1 q.4 q.2 (omega arith) k.result k.ensures c.if-key_at-line.true)

pub returns : goal.returns
returns c =
    let a = c.args in
    let q = c.requires in
    elim c.else-at-s.branch [
      | else-at-s-via-then-at-s+else-key_at-line w ↦
          let k = w.key_at in
          sym (trip_other a.file a.line a.trip a.s.now a.at q.0 q.1 q.4 q.2 (omega arith) k.result k.ensures w.if-key_at-line.false)
      | else-at-s-via-else-at-s w ↦ sym (trip_end a.file a.line a.trip a.s.now a.at w.if-at-s.false)
    ]

pub key_at-requires : goal.key_at-requires
key_at-requires c = key_here _ _ _ c.requires.0 c.requires.2 c.if-at-s.true
