-- `answering::answer_all` meets its contract. The loop's invariant speaks of what is left: the answers that are left, laid over the list as it is,
-- give the list that is wanted.
use mathlib.Core.Path.{◌≡◌}
use mathlib.Core.List.{List}
use Prim.Native.Nat.{ℕ, ◌+◌, ◌*◌, ◌≤◌}
use lib.ListN.{length, drop}
use Rattle.laws.specs.Splice.{splice}
use Rattle.file.specs.Files.{fields_of}
use Rattle.file.specs.Records.{records_in}
use Rattle.asking.specs.Rows.{Ask, rows, questions}
use Rattle.answering.specs.Plainly.{plainly}
use Rattle.answering.proofs.answer_all.Given as goal

-- how a question is answered on these files
abbrev pub asking : List ℕ → List ℕ → List ℕ → List ℕ → List ℕ → List ℕ → List ℕ → Ask
asking f3 f5 f6 f7 f8 f10 holidays =
    plainly (records_in (fields_of 3) f3) (records_in (fields_of 5) f5) (records_in (fields_of 6) f6) (records_in (fields_of 7) f7) (records_in (fields_of 8) f8) (records_in (fields_of 10) f10) holidays

abbrev pub invariant-loop-k : goal.invariant-loop-k
invariant-loop-k l = (l.at + 3 * questions (drop (7 * l.k) l.asked) ≤ length l.list)
    × (length l.list ≡ length l.initial.list)
    × (splice l.list l.at (rows (asking l.f3 l.f5 l.f6 l.f7 l.f8 l.f10 l.holidays) (drop (7 * l.k) l.asked)) ≡ splice l.initial.list 0 (rows (asking l.f3 l.f5 l.f6 l.f7 l.f8 l.f10 l.holidays) l.asked))
