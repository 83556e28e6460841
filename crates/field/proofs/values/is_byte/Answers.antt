-- `field::values::is_byte` meets its contract: a text of one byte is seen from that byte.
use Rattle.std.proofs.Common.{sym, ne_eqb}
use Rattle.field.proofs.ValueLaws.{byte_other, byte_one}
use Rattle.field.proofs.values.is_byte.Goals as goal

pub returns-then-t-eq1 : goal.returns-then-t-eq1
returns-then-t-eq1 c = sym (byte_one _ _ c.if-t-eq1.true)

pub returns-else-t-eq1 : goal.returns-else-t-eq1
returns-else-t-eq1 c = rw (ne_eqb _ _ c.if-t-eq1.false) (sym (byte_other _ _ c.if-t-eq1.false))
