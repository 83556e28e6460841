-- `filefaults::is_version` meets its contract: bytes that are equal are the same.
use mathlib.Core.Path.{◌∙◌}
use Rattle.filefaults.specs.Faults.{is_version}
use Rattle.filefaults.proofs.VersionLaws.{bytes_same}
use Rattle.filefaults.proofs.is_version.Goals as goal

pub returns : goal.returns
unfolding is_version
returns c = rw c.as_slice.ensures at (c.eq.ensures ∙ bytes_same c.args.t.now c.as_slice.result.now)
