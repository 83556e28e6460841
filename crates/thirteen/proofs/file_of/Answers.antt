-- `thirteen::file_of` meets its contract: a number that no arm names has no file.
use mathlib.Core.Path.{◌≡◌, refl, sym}
use mathlib.Core.List.{[], ◌∷◌}
use Prim.Native.Nat.{ℕ, zero, suc, ◌≤◌}
use native.Mathlib.Omega.{arith}
use lib.ListN.{length, get_or-eq_default}
use Rattle.thirteen.specs.Batch.{Batch, file_in}
use Rattle.thirteen.specs.Lent.{batch_of}
use Rattle.thirteen.proofs.file_of.Goals as goal

-- a number past the last has no file, and neither has 0
no_file : (b : Batch) (file : ℕ) → (1 ≤ file → length ([] ∷ b) ≤ file) → file_in b file ≡ []
unfolding file_in
no_file b zero past = refl
no_file b (suc k) past = get_or-eq_default ([] ∷ b) [] (past (omega arith))

pub returns-in_default : goal.returns-in_default
returns-in_default c = sym (no_file (batch_of c.args.files.now) c.args.file (λ some. omega arith))
