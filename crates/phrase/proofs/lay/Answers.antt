-- `phrase::lay` meets its contract: the part that is lent comes back as the text.
use mathlib.Core.Path.{◌≡◌, refl}
use mathlib.Core.List.{List}
use Prim.Native.Nat.{ℕ}
use native.Mathlib.Omega.{arith}
use lib.ListN.{length}
use Rattle.std.proofs.Common.{drop-drop}
use borrow.Rule.Slice.PartMut.{put_mid}
use Rattle.laws.specs.Splice.{splice}
use Rattle.phrase.proofs.lay.Goals as goal

laid : (d t : List ℕ) (at k : ℕ) → k ≡ length t → put_mid at k d t ≡ splice d at t
unfolding splice
laid d t at k e = rw e (simp drop-drop)

pub returns : goal.returns
returns c = (rw c.copy_from_slice.ensures.after (laid _ _ _ _ (omega arith)), refl)
