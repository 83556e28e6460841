-- `scanner::stands` meets its contract: a place within the file has a byte, and no place past it has one.
use mathlib.Core.Path.{sym}
use lib.ListN.{length}
use borrow.Author.Tests.{le-ltb}
use Rattle.laws.specs.Tests.{never}
use Rattle.file.proofs.FieldLaws.{starts_at, starts_past}
use Rattle.scanner.proofs.stands.Goals as goal

pub returns-then-at-s : goal.returns-then-at-s
returns-then-at-s c = (sym (starts_at _ _ _ c.if-at-s.true), λ _. c.if-at-s.true)

pub returns-else-at-s : goal.returns-else-at-s
returns-else-at-s c = rw (le-ltb c.args.at (length c.args.s.now) c.if-at-s.false) (sym (starts_past _ _ _ c.if-at-s.false), λ e. never e)
