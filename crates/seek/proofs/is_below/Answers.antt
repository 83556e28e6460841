-- `seek::is_below` meets its contract: the key at the entry is compared.
use Rattle.keys.specs.Ranks.{rank_key}
use Rattle.seek.proofs.SeekLaws.{below_by_key}
use Rattle.seek.proofs.is_below.Goals as goal

pub returns : goal.returns
returns c =
    below_by_key (rank_key c.args.x) c.entry_key.ensures c.less.ensures
