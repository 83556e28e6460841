-- What C is handed of the counter's answers: number, place, and values in order, 0 where there is none.
use Rattle.std.specs.Prelude.{ℕ}
use Rattle.laws.specs.Numbered.{Numbered}
use Rattle.fileresults.specs.Results.{value}
use Rattle.saleresults.specs.declared.SaleResult.{SaleResult}
use Rattle.saleresults.specs.declared.SalesResult.{SalesResult}
use Rattle.saleresults.specs.declared.StopResult.{StopResult}

unfoldable pub sale_result : Numbered → SaleResult
sale_result a = record {
  number = a.number;
  file = a.in_file;
  «record» = a.in_record;
  field = a.in_field;
  offset = a.at_offset;
  departure = value a 0;
  arrival = value a 1;
}

-- with no place
abbrev pub plain_sale_result : ℕ → ℕ → ℕ → SaleResult
plain_sale_result number departure arrival = record { number = number; file = 0; «record» = 0; field = 0; offset = 0; departure = departure; arrival = arrival }

unfoldable pub sales_result : Numbered → SalesResult
sales_result a = record {
  number = a.number;
  file = a.in_file;
  «record» = a.in_record;
  field = a.in_field;
  offset = a.at_offset;
  answered = value a 0;
}

-- a stop's number, or with 24 how many have the name: the one value that there is
unfoldable pub stop_result : Numbered → StopResult
stop_result a = record {
  number = a.number;
  file = a.in_file;
  «record» = a.in_record;
  field = a.in_field;
  offset = a.at_offset;
  value = value a 0;
}

-- with no place
abbrev pub plain_stop_result : ℕ → ℕ → StopResult
plain_stop_result number n = record { number = number; file = 0; «record» = 0; field = 0; offset = 0; value = n }
