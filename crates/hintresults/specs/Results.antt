-- What C is handed of the hint's maker: number, place, and how many places were written, 0 with a refusal.
use Rattle.std.specs.Prelude.{◌≡◌, List, ℕ, length}
use Rattle.laws.specs.Numbered.{Numbered}
use Rattle.thirteen.specs.Batch.{Batch}
use Rattle.fileresults.specs.Results.{value}
use Rattle.arrange.specs.Hint.{hint_answer, hint_list}
use Rattle.hintresults.specs.declared.HintResult.{HintResult}

unfoldable pub hint_result : Numbered → HintResult
hint_result a = record {
  number = a.number;
  file = a.in_file;
  «record» = a.in_record;
  field = a.in_field;
  offset = a.at_offset;
  written = value a 0;
}

-- what the exported call gives: the result, and what the lent list holds afterwards
abbrev pub HintGives : Batch → List ℕ → HintResult × List ℕ → Type 0
HintGives b list r = (r.0 ≡ hint_result (hint_answer b (length list))) × (r.1 ≡ hint_list b list)
