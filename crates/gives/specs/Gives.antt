-- What the exported check and questions on a batch give, for C; of the questions about trips, TripGives.antt, of the hint's maker, the crate
-- `hintresults`.
use Rattle.std.specs.Prelude.{ℕ, ◌≡◌, List, length}
use Rattle.file.specs.Format.{Text}
use Rattle.thirteen.specs.Batch.{Batch}
use Rattle.batch.specs.Verdicts.{verdict_of}
use Rattle.selling.specs.Answers.{sale_answer}
use Rattle.selling.specs.Sales.{sales_answer, sales_list}
use Rattle.naming.specs.Names.{name_answer}
use Rattle.checkresults.specs.Results.{check_result}
use Rattle.checkresults.specs.declared.CheckResult.{CheckResult}
use Rattle.saleresults.specs.Results.{sale_result, sales_result, stop_result}
use Rattle.saleresults.specs.declared.SaleResult.{SaleResult}
use Rattle.saleresults.specs.declared.SalesResult.{SalesResult}
use Rattle.saleresults.specs.declared.StopResult.{StopResult}

-- the first fault of a batch, or its counts
abbrev pub CheckGives : Batch → CheckResult → Type 0
CheckGives b r = r ≡ check_result (verdict_of b)

-- the sale question
abbrev pub SaleGives : Batch → ℕ → ℕ → ℕ → ℕ → ℕ → ℕ → ℕ → List ℕ → SaleResult → Type 0
SaleGives b line trip day month year from to holidays r = r ≡ sale_result (sale_answer b line trip day month year from to holidays)

-- many of them: the result, and what the lent list holds afterwards
abbrev pub SalesGives : Batch → List ℕ → List ℕ → List ℕ → SalesResult × List ℕ → Type 0
SalesGives b holidays asked list r = (r.0 ≡ sales_result (sales_answer b asked (length list))) × (r.1 ≡ sales_list b holidays asked list)

-- a stop by its name
abbrev pub StopGives : Batch → Text → Text → Text → StopResult → Type 0
StopGives b town part place r = r ≡ stop_result (name_answer b town part place)
