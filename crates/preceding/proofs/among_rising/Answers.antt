-- `preceding::among_rising` meets its contract: the line before the first record that isn't below the trip's x has the greatest key below it.
use mathlib.Core.Path.{refl, ap, ◌∙◌}
use Prim.Native.Nat.{ℕ, ◌<◌}
use native.Mathlib.Omega.{arith}
use Rattle.file.specs.Files.{fields_of}
use Rattle.file.specs.Records.{records_in}
use Rattle.lines.specs.Order.{first_from}
use Rattle.lines.proofs.OrderLaws.{from_place}
use Rattle.keys.specs.Ranks.{rank_of}
use Rattle.previous.proofs.LineBackLaws.{ended}
use Rattle.previous.proofs.PreviousLaws.{previous_nothing, rising_trails, rising_first, number_none, trails_number, trails_place}
use Rattle.preceding.proofs.among_rising.Goals as goal

pub returns-then-at-eq0 : goal.returns-then-at-eq0
returns-then-at-eq0 c =
    let m = c.first_from-at in
    let k = c.key_of in
    let a = c.args in
    let s = a.s.now in
    let rs = records_in (fields_of a.file) s in
    let e = m.ensures ∙ ap (λ (y : ℕ). first_from (rank_of a.file) y 0 rs) k.ensures.rank in
    let f = rising_first a.file _ s m.result c.requires.0 c.requires.2 e c.if-at-eq0.true in
    previous_nothing a.file a.line a.trip a.x rs 0 (number_none a.file a.line a.trip a.x s c.requires.0 c.requires.1 f) refl

pub line_before-before-requires : goal.line_before-before-requires
line_before-before-requires c =
    let m = c.first_from-at in
    let a = c.args in
    let n = fields_of a.file in
    let s = a.s.now in
    let ne = c.if-at-eq0.false in
    let q = from_place n (rank_of a.file) s _ m.result c.requires.0.legal m.ensures in
    let h : 0 < m.result = omega arith in
    (h, q.near, ended n s m.result c.requires.0.legal q h)

pub number_if_of_trip-requires : goal.number_if_of_trip-requires
number_if_of_trip-requires c =
    let b = c.line_before-before in
    let m = c.first_from-at in
    let a = c.args in
    let t = rising_trails a.file _ a.s.now m.result c.requires.0 c.requires.2 m.ensures b.result b.ensures in
    (c.requires.0, c.requires.1, t.place, t.within, c.requires.4, c.requires.5)

pub returns-then-number_if_of_trip-eq0 : goal.returns-then-number_if_of_trip-eq0
returns-then-number_if_of_trip-eq0 c =
    let n = c.number_if_of_trip in
    let b = c.line_before-before in
    let m = c.first_from-at in
    let k = c.key_of in
    let a = c.args in
    let s = a.s.now in
    let rs = records_in (fields_of a.file) s in
    let e = m.ensures ∙ ap (λ (y : ℕ). first_from (rank_of a.file) y 0 rs) k.ensures.rank in
    let t = rising_trails a.file _ s m.result c.requires.0 c.requires.2 e b.result b.ensures in
    let z = trails_number a.file a.line a.trip a.x s c.requires.0 c.requires.1 b.result c.requires.5 c.requires.6 t in
    previous_nothing a.file a.line a.trip a.x rs n.result (n.ensures ∙ z) c.if-number_if_of_trip-eq0.true

pub returns : goal.returns
returns c =
    let n = c.number_if_of_trip in
    let b = c.line_before-before in
    let m = c.first_from-at in
    let k = c.key_of in
    let a = c.args in
    let s = a.s.now in
    let rs = records_in (fields_of a.file) s in
    let ne = c.if-number_if_of_trip-eq0.false in
    let e = m.ensures ∙ ap (λ (y : ℕ). first_from (rank_of a.file) y 0 rs) k.ensures.rank in
    let t = rising_trails a.file _ s m.result c.requires.0 c.requires.2 e b.result b.ensures in
    trails_place a.file a.line a.trip a.x s c.requires.0 c.requires.1 b.result c.requires.5 c.requires.6 t c.requires.4 c.requires.2 (λ v. ne (n.ensures ∙ v))

pub key_of-requires : goal.key_of-requires
key_of-requires c = let p = c.requires in (p.4, p.5, p.6)

pub first_from-at-requires : goal.first_from-at-requires
first_from-at-requires c = let p = c.requires in (p.0, p.2, p.3, c.key_of.ensures.low)
