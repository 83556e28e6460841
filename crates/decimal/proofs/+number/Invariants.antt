-- `decimal::number` calls itself on the number divided by ten: the number itself is what falls.
use Rattle.decimal.proofs.+number.Given as goal

abbrev pub decreases-number : goal.decreases-number
decreases-number l = l.n
