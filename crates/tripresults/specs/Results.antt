-- What C is handed of a question's answer: its number, its place, and its values in order, 0 where there is none.
use Rattle.std.specs.Prelude.{ℕ}
use Rattle.laws.specs.Numbered.{Numbered}
use Rattle.fileresults.specs.Results.{value}
use Rattle.tripresults.specs.declared.RunsResult.{RunsResult}
use Rattle.tripresults.specs.declared.TripStopResult.{TripStopResult}

unfoldable pub runs_result : Numbered → RunsResult
runs_result a = record { number = a.number; file = a.in_file; «record» = a.in_record; field = a.in_field; offset = a.at_offset; runs = value a 0 }

-- with no place
abbrev pub plain_runs_result : ℕ → ℕ → RunsResult
plain_runs_result number runs = record { number = number; file = 0; «record» = 0; field = 0; offset = 0; runs = runs }

unfoldable pub stop_result : Numbered → TripStopResult
stop_result a = record {
  number = a.number;
  file = a.in_file;
  «record» = a.in_record;
  field = a.in_field;
  offset = a.at_offset;
  tariff = value a 0;
  stop = value a 1;
  arrives = value a 2;
  arrival = value a 3;
  departs = value a 4;
  departure = value a 5;
  signs = value a 6;
  last = value a 7;
  stops = value a 8;
}

-- with no values
abbrev pub plain_stop_result : ℕ → ℕ → ℕ → ℕ → ℕ → TripStopResult
plain_stop_result number file row column offset = record {
  number = number;
  file = file;
  «record» = row;
  field = column;
  offset = offset;
  tariff = 0;
  stop = 0;
  arrives = 0;
  arrival = 0;
  departs = 0;
  departure = 0;
  signs = 0;
  last = 0;
  stops = 0;
}
