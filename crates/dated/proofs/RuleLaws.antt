-- Laws of the rules on dates and marks: what a call says that was tried, a date that is given.
use mathlib.Core.Path.{◌≡◌, sym, ◌∙◌}
use mathlib.Core.Bool.{Bool, true, false, not}
use lib.ListN.{length}
use borrow.Author.Tests.{ne_eqb, not-true, not-false}
use Rattle.file.specs.Format.{Text}
use Rattle.field.specs.Values.{is_date_text}
use Rattle.field.specs.Rules.{in_order, closes}
use Rattle.dated.specs.Dates.{DateOrNone}

-- what a call that was tried with `!` says of its definition
pub fails : {r x : Bool} → r ≡ x → not r ≡ true → x ≡ false
fails {r} e h = sym e ∙ not-true r h

pub holds : {r x : Bool} → r ≡ x → not r ≡ false → x ≡ true
holds {r} e h = sym e ∙ not-false r h

-- what is given where a date may stand is a date
pub is_given : (t : Text) → DateOrNone t → (length t ≡ 0 → ⊥) → is_date_text t ≡ true
is_given t d h = rw (ne_eqb (length t) 0 h) at d

-- from a date that is given, what closes is what is in order
pub order_given : (from to : Text) → (length from ≡ 0 → ⊥) → closes from to ≡ in_order from to
unfolding closes in_order
order_given from to h = rw (ne_eqb (length from) 0 h)
