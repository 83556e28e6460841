-- `previous::number_if_of_trip` meets its contract: the key's first two numbers are the trip's, or they are not.
use Rattle.keys.proofs.KeyFileLaws.{key_here}
use Rattle.previous.proofs.PreviousLaws.{number_here, number_other}
use Rattle.previous.proofs.number_if_of_trip.Goals as goal

pub returns-then-k-line : goal.returns-then-k-line
returns-then-k-line c =
    let k = c.key_at-k in
    let a = c.args in
    let q = c.requires in
    number_here a.file a.line a.trip 0 a.s.now q.0 q.1 a.at q.5 q.2 q.3 k.result k.ensures c.if-k-line.true

pub returns : goal.returns
returns c =
    let k = c.key_at-k in
    let a = c.args in
    let q = c.requires in
    number_other a.file a.line a.trip 0 a.s.now q.0 q.1 a.at q.5 q.2 q.3 k.result k.ensures c.if-k-line.false

pub key_at-k-requires : goal.key_at-k-requires
key_at-k-requires c = let p = c.requires in key_here _ _ _ p.0 p.2 p.3
