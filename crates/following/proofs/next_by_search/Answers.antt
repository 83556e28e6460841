-- `following::next_by_search` meets its contract: of the records with the least number the first.
use mathlib.Core.Path.{sym, ◌∙◌}
use mathlib.Core.List.{[], ◌∷◌}
use Prim.Native.Nat.{◌<◌}
use native.Mathlib.Omega.{arith}
use Rattle.file.specs.Files.{fields_of}
use Rattle.file.specs.Records.{records_in}
use Rattle.keys.specs.Keys.{none}
use Rattle.find.proofs.FindLaws.{rank_three, small_three, by_key}
use Rattle.find.proofs.TripLaws.{next_most, next_nothing, next_found}
use Rattle.following.proofs.next_by_search.Goals as goal

pub returns-then-y-eq1000000000 : goal.returns-then-y-eq1000000000
returns-then-y-eq1000000000 c =
    let a = c.args in
    let y = c.least_third-y in
    sym (next_nothing a.file a.line a.trip a.x (records_in (fields_of a.file) a.s.now) (sym y.ensures ∙ c.if-y-eq1000000000.true))

pub by_search-requires : goal.by_search-requires
by_search-requires c =
    let a = c.args in
    let y = c.least_third-y in
    let m = next_most a.file a.line a.trip a.x (records_in (fields_of a.file) a.s.now) in
    let ne = c.if-y-eq1000000000.false in
    (c.requires.0, omega (arith, m, y.ensures, ne))

pub returns : goal.returns
returns c =
    let a = c.args in
    let f = c.requires.0 in
    let y = c.least_third-y in
    let rs = records_in (fields_of a.file) a.s.now in
    let m = next_most a.file a.line a.trip a.x rs in
    let ne = c.if-y-eq1000000000.false in
    let h : y.result < none = omega (arith, m, y.ensures, ne) in
    let small = small_three a.line a.trip y.result c.requires.2 c.requires.3 h in
    c.by_search.ensures
    ∙ by_key a.file (a.line ∷ a.trip ∷ y.result ∷ []) _ _ f.keyed f.keys small (sym c.requires.1) (rank_three a.line a.trip y.result)
    ∙ sym (next_found a.file a.line a.trip a.x rs y.result y.ensures ne)
