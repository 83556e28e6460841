-- The hint of a batch: for each keyed file whose keys don't rise by themselves, where its records start, in order of key and place, one file
-- behind the other. It is what the calls that take a hint look for; no answer of theirs depends on it.
use Rattle.std.specs.Prelude.{ℕ, ◌≡◌, List, [], ◌∷◌, eqb, leb, length}
use Rattle.laws.specs.Tests.{pick}
use Rattle.laws.specs.Numbered.{Numbered, answered, refused}
use Rattle.laws.specs.Splice.{splice}
use Rattle.thirteen.specs.Batch.{Batch, or_else}
use Rattle.fault.specs.Answers.{numbered_fault}
use Rattle.filestages.specs.Order.{first_fault, file_stages}
use Rattle.parts.specs.Parts.{hint_of}
use Rattle.arrange.specs.declared.Arranged.{Arranged}

-- what comes back: how many places were written; what is wrong with a file by itself, 1 to 6, so that keys are numbers; then 22 if there is no room
unfoldable pub hint_answer : Batch → ℕ → Numbered
hint_answer b room = or_else (first_fault (file_stages b)) (pick (leb (length (hint_of b)) room) (answered (length (hint_of b) ∷ [])) (refused 22))

-- what the lent list holds afterwards: the hint from its start on, the rest kept; all of it kept with a refusal
unfoldable pub hint_list : Batch → List ℕ → List ℕ
hint_list b list = pick (eqb (hint_answer b (length list)).number 0) (splice list 0 (hint_of b)) list

-- document 01's number and values for each case of the answer
unfoldable pub numbered_hint : Arranged → Numbered
numbered_hint (Arranged.Refused f) = numbered_fault f
numbered_hint (Arranged.Wrote n) = answered (n ∷ [])

-- the promise: the answer, and what the list holds
abbrev pub HintIs : Batch → List ℕ → Arranged → List ℕ → Type 0
HintIs b list r after = (numbered_hint r ≡ hint_answer b (length list)) × (after ≡ hint_list b list)
