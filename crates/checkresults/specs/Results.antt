-- What C is handed of a check: its number and its place, and the counts of an accepted batch, 0 where there is none.
use Rattle.laws.specs.Numbered.{Numbered}
use Rattle.fileresults.specs.Results.{value}
use Rattle.checkresults.specs.declared.CheckResult.{CheckResult}
use Rattle.checkresults.specs.declared.FieldsResult.{FieldsResult}

unfoldable pub fields_result : Numbered → FieldsResult
fields_result a = record { number = a.number; file = a.in_file; «record» = a.in_record; field = a.in_field; offset = a.at_offset }

unfoldable pub check_result : Numbered → CheckResult
check_result a = record {
  number = a.number;
  file = a.in_file;
  «record» = a.in_record;
  field = a.in_field;
  offset = a.at_offset;
  stops = value a 0;
  lines = value a 1;
  trips = value a 2;
  trip_stops = value a 3;
}
