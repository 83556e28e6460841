-- A refused question hands on the batch's own refusal, and no value.
use mathlib.Core.Path.{◌≡◌}
use Rattle.fault.specs.Answers.{numbered_fault}
use Rattle.fault.proofs.OneResult.{fault_no_values}
use Rattle.fault.specs.declared.Fault.{Fault}
use Rattle.checkresults.specs.Results.{fields_result}
use Rattle.checkresults.specs.declared.FieldsResult.{FieldsResult}
use Rattle.saleresults.specs.Results.{sale_result, sales_result, stop_result}
use Rattle.saleresults.specs.declared.SaleResult.{SaleResult}
use Rattle.saleresults.specs.declared.SalesResult.{SalesResult}
use Rattle.saleresults.specs.declared.StopResult.{StopResult}

abbrev pub sale_at : FieldsResult → SaleResult
sale_at p = record { number = p.number; file = p.file; «record» = p.«record»; field = p.field; offset = p.offset; departure = 0; arrival = 0 }

pub refused_sale : (f : Fault) → sale_at (fields_result (numbered_fault f)) ≡ sale_result (numbered_fault f)
unfolding fields_result sale_result
refused_sale f = rw (fault_no_values f)

abbrev pub sales_at : FieldsResult → SalesResult
sales_at p = record { number = p.number; file = p.file; «record» = p.«record»; field = p.field; offset = p.offset; answered = 0 }

pub refused_sales : (f : Fault) → sales_at (fields_result (numbered_fault f)) ≡ sales_result (numbered_fault f)
unfolding fields_result sales_result
refused_sales f = rw (fault_no_values f)

abbrev pub stop_at : FieldsResult → StopResult
stop_at p = record { number = p.number; file = p.file; «record» = p.«record»; field = p.field; offset = p.offset; value = 0 }

pub refused_stop : (f : Fault) → stop_at (fields_result (numbered_fault f)) ≡ stop_result (numbered_fault f)
unfolding fields_result stop_result
refused_stop f = rw (fault_no_values f)
