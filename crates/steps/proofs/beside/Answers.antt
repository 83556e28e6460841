-- `steps::beside` meets its contract: upward the line behind is the next record, downward the line before is the previous one.
use mathlib.Core.Path.{◌∙◌}
use Prim.Native.Nat.{◌<◌}
use native.Mathlib.Omega.{arith}
use Rattle.file.specs.Files.{fields_of}
use Rattle.lines.proofs.LineLaws.{next_line}
use Rattle.previous.proofs.LineBackLaws.{ended, before_place}
use Rattle.trail.specs.Trail.{step_of}
use Rattle.entries.proofs.StepLaws.{line_up, line_down, line_first}
use Rattle.steps.proofs.beside.Goals as goal

pub if_of_trip-requires : goal.if_of_trip-requires
if_of_trip-requires c =
    let a = c.args in
    let p = c.requires in
    (p.0, p.1, (next_line (fields_of a.file) a.s.now a.at p.3 p.4 a.next p.5).place, p.7, p.8)

pub returns-then-up : goal.returns-then-up
unfolding step_of
returns-then-up c =
    let a = c.args in
    let p = c.requires in
    c.if_of_trip.ensures
    ∙ line_up a.file a.line a.trip a.s.now p.0 p.1 p.7 p.8 p.2 a.at p.3 p.4 p.6 a.next p.5
    ∙ rw c.if-up.true

pub returns-then-at-eq0 : goal.returns-then-at-eq0
unfolding step_of
returns-then-at-eq0 c =
    let a = c.args in
    let p = c.requires in
    line_first a.file a.line a.trip a.s.now p.0 p.1 p.7 p.8 p.2 a.at p.3 p.4 p.6 c.if-at-eq0.true
    ∙ rw c.if-up.false

pub line_before-requires : goal.line_before-requires
line_before-requires c =
    let a = c.args in
    let p = c.requires in
    let ne = c.if-at-eq0.false in
    let h : 0 < a.at = omega arith in
    (h, p.3.near, ended (fields_of a.file) a.s.now a.at p.0.legal p.3 h)

pub if_of_trip-requires-2 : goal.if_of_trip-requires-2
if_of_trip-requires-2 c =
    let a = c.args in
    let p = c.requires in
    let l = c.line_before in
    (p.0, p.1, before_place (fields_of a.file) a.s.now a.at l.result p.0.legal p.3.near l.ensures, p.7, p.8)

pub returns : goal.returns
unfolding step_of
returns c =
    let a = c.args in
    let p = c.requires in
    let l = c.line_before in
    c.if_of_trip-2.ensures
    ∙ line_down a.file a.line a.trip a.s.now p.0 p.1 p.7 p.8 p.2 a.at p.3 p.4 p.6 l.result l.ensures
    ∙ rw c.if-up.false
