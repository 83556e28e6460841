-- `running::allowed_on` meets its contract: the walk leaves which types there are and which hold day d.
use Rattle.running.proofs.RunningLaws.{left_flags, left_seen, held_flags, left_held}
use Rattle.running.proofs.allowed_on.Goals as goal

pub codes_allow-requires : goal.codes_allow-requires
codes_allow-requires c =
    let p = c.requires in
    (left_flags _ _ c.held_on.ensures.0, held_flags _ _ _ c.held_on.ensures.1, p.5)

pub returns : goal.returns
returns c =
    c.codes_allow.ensures _ _ _ (left_seen _ _ c.held_on.ensures.0) (left_held _ _ _ c.held_on.ensures.1) c.signs_allow-allowed.ensures
