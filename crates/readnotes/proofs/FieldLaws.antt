-- The kinds of fields that stand behind one another: a line and a number first, and codes.
use mathlib.Core.Path.{refl}
use mathlib.Core.List.{[], ◌∷◌}
use Prim.Native.Nat.{◌+◌}
use native.Mathlib.Omega.{arith}
use Rattle.field.specs.Kinds.{code, maybe_text, kind_of, kinds, caskody, altdop}
use Rattle.field.specs.declared.Kind.{Kind}
use Rattle.kinds.proofs.KindLaws.{run}
use Rattle.onward.specs.Onward.{Codes, LineFirst}

pub first_10 : LineFirst 10
unfolding kind_of kinds caskody
first_10 = record { first = refl; second = refl }

pub first_11 : LineFirst 11
unfolding kind_of kinds altdop
first_11 = record { first = refl; second = refl }

pub codes_11 : Codes 11 3 9
unfolding kind_of kinds altdop
codes_11 i l m = run (Kind.None ∷ altdop) (Kind.WeekType ∷ maybe_text 254 ∷ Kind.MaybeDate ∷ Kind.MaybeDate ∷ []) 4 6 code Kind.None (i + 1) refl (omega arith) (omega arith)
