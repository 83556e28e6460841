-- A question as the code reads it off the list.
use Rattle.std.specs.Prelude.{ℕ, ◌+◌, List, get_or}
use Rattle.question.specs.declared.Question.{Question}

-- the seven numbers from place i on
abbrev pub asked_at : List ℕ → ℕ → Question
asked_at s i =
    record {
      line = get_or s i 0;
      trip = get_or s (i + 1) 0;
      day = get_or s (i + 2) 0;
      month = get_or s (i + 3) 0;
      year = get_or s (i + 4) 0;
      from = get_or s (i + 5) 0;
      to = get_or s (i + 6) 0;
    }
