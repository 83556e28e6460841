-- `parts::put_file` meets its contract: a record starts at each place of the list, so it is put in order.
use mathlib.Core.Path.{sym, ap, subst, ◌∙◌}
use mathlib.Core.List.{List}
use Prim.Native.Nat.{ℕ}
use Rattle.ranked.specs.Ranked.{in_order}
use Rattle.placed.specs.Places.{key_rank, Places}
use Rattle.parts.specs.Parts.{starts_in_order}
use Rattle.parts.proofs.PartLaws.{starts_places}
use Rattle.parts.proofs.put_file.Goals as goal

pub sort-requires : goal.sort-requires
sort-requires c =
    let a = c.args in
    (c.requires.0, subst (λ (l : List ℕ). Places a.file a.s.now l) (sym c.put_starts.ensures) (starts_places a.file a.s.now c.requires.0))

pub returns : goal.returns
unfolding starts_in_order
returns c =
    let a = c.args in
    c.sort.ensures ∙ ap (in_order (key_rank a.file a.s.now)) c.put_starts.ensures
