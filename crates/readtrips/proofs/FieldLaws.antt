-- The kinds of fields that stand behind one another: a line and a number first, and codes.
use mathlib.Core.Path.{refl}
use mathlib.Core.List.{[], ◌∷◌}
use Prim.Native.Nat.{◌+◌}
use native.Mathlib.Omega.{arith}
use Rattle.field.specs.Kinds.{code, kind_of, kinds, zastavky, spoje, zaslinky, zasspoje}
use Rattle.field.specs.declared.Kind.{Kind}
use Rattle.kinds.proofs.KindLaws.{run}
use Rattle.onward.specs.Onward.{Codes, LineFirst}

pub first_6 : LineFirst 6
unfolding kind_of kinds spoje
first_6 = record { first = refl; second = refl }

pub first_7 : LineFirst 7
unfolding kind_of kinds zaslinky
first_7 = record { first = refl; second = refl }

pub first_8 : LineFirst 8
unfolding kind_of kinds zasspoje
first_8 = record { first = refl; second = refl }

pub codes_2 : Codes 2 6 12
unfolding kind_of kinds zastavky
codes_2 i l m = run (Kind.None ∷ zastavky) [] 7 6 code Kind.None (i + 1) refl (omega arith) (omega arith)

pub codes_6 : Codes 6 2 12
unfolding kind_of kinds spoje
codes_6 i l m = run (Kind.None ∷ spoje) [] 3 10 code Kind.None (i + 1) refl (omega arith) (omega arith)

pub codes_7 : Codes 7 4 7
unfolding kind_of kinds zaslinky
codes_7 i l m = run (Kind.None ∷ zaslinky) [] 5 3 code Kind.None (i + 1) refl (omega arith) (omega arith)

pub codes_8 : Codes 8 5 7
unfolding kind_of kinds zasspoje
codes_8 i l m = run (Kind.None ∷ zasspoje) (Kind.MaybeDigits 1 9 ∷ Kind.Time ∷ Kind.Time ∷ []) 6 2 code Kind.None (i + 1) refl (omega arith) (omega arith)
