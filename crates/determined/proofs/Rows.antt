-- Each row holds by `settled` of laws: the promise is an equation with a numbering that tells all cases of the answer apart. A part's bytes and a
-- buffer's are given as they are.
use lib.ListN.{length}
use Rattle.laws.specs.Settled.{settled, settled_self, settled_both}
use Rattle.calendar.specs.Answers.{numbered_day, numbered_date, numbered_weekday, numbered_week, numbered_whether, day_answer, date_answer, weekday_answer, week_answer, holiday_answer, fits_answer}
use Rattle.calendar.proofs.OneResult.{day_one, date_one, weekday_one, week_one, whether_one}
use Rattle.file.specs.Answers.{numbered_counted, numbered_stretch, numbered_written, counted_of, stretch_of, text_of}
use Rattle.file.proofs.OneResult.{counted_one, stretch_one, written_one}
use Rattle.file.specs.Writing.{written_of, buffer_of}
use Rattle.fields.specs.Check.{numbered_checked, checked_of}
use Rattle.fields.proofs.OneResult.{checked_one}
use Rattle.batch.specs.Verdicts.{verdict_of}
use Rattle.counter.specs.Answers.{runs_answer}
use Rattle.calls.specs.Answers.{stop_answer}
use Rattle.selling.specs.Answers.{sale_answer}
use Rattle.outcome.specs.Answers.{numbered_verdict, numbered_runs, numbered_stop, numbered_sale}
use Rattle.outcome.proofs.OneResult.{verdict_one, runs_one, stop_one, sale_one}
use Rattle.asking.specs.Answers.{numbered_sales}
use Rattle.selling.specs.Sales.{sales_answer, sales_list}
use Rattle.asking.proofs.OneResult.{sales_one}
use Rattle.named.specs.Names.{numbered_named}
use Rattle.naming.specs.Names.{name_answer}
use Rattle.named.proofs.OneResult.{named_one}
use Rattle.arrange.specs.Hint.{numbered_hint, hint_answer, hint_list}
use Rattle.arrange.proofs.OneResult.{hint_one}
use Rattle.fileresults.specs.Results.{write_result}
use Rattle.saleresults.specs.Results.{sales_result}
use Rattle.hintresults.specs.Results.{hint_result}
use Rattle.determined.specs.Table.{Determined}

pub determined : Determined
determined = record {
  day_of = λ d m y. settled numbered_day day_one (day_answer d m y);
  date_of = λ n. settled numbered_date date_one (date_answer n);
  weekday_of = λ n. settled numbered_weekday weekday_one (weekday_answer n);
  week_of = λ n. settled numbered_week week_one (week_answer n);
  holiday = λ n holidays. settled numbered_whether whether_one (holiday_answer n holidays);
  fits = λ sign n holidays. settled numbered_whether whether_one (fits_answer sign n holidays);
  records = λ file s. settled numbered_counted counted_one (counted_of file s);
  stretch_settled = λ file s r f. settled numbered_stretch stretch_one (stretch_of file s r f);
  stretch_part = λ file s r f. settled_self (text_of file s r f);
  write = λ file f t d place. settled_both _ _ (settled numbered_written written_one (written_of file f t (length d) place)) (settled_self (buffer_of file f t d place));
  check_fields = λ file s. settled numbered_checked checked_one (checked_of file s);
  check = λ b. settled numbered_verdict verdict_one (verdict_of b);
  runs = λ b line trip d holidays. settled numbered_runs runs_one (runs_answer b line trip d holidays);
  trip_stop = λ b line trip n. settled numbered_stop stop_one (stop_answer b line trip n);
  may_sell = λ b line trip day month year from to holidays. settled numbered_sale sale_one (sale_answer b line trip day month year from to holidays);
  many_sales = λ b holidays asked list. settled_both _ _ (settled numbered_sales sales_one (sales_answer b asked (length list))) (settled_self (sales_list b holidays asked list));
  stop_named = λ b town part place. settled numbered_named named_one (name_answer b town part place);
  arrange = λ b list. settled_both _ _ (settled numbered_hint hint_one (hint_answer b (length list))) (settled_self (hint_list b list));
  slovdrim_day = λ d m y. settled_self _;
  slovdrim_date = λ n. settled_self _;
  slovdrim_weekday = λ n. settled_self _;
  slovdrim_week = λ n. settled_self _;
  slovdrim_holiday = λ n holidays. settled_self _;
  slovdrim_fits = λ sign n holidays. settled_self _;
  slovdrim_records = λ file s. settled_self _;
  slovdrim_stretch = λ file s row f. settled_self _;
  slovdrim_write = λ file f t d place. settled_both _ _ (settled_self (write_result (written_of file f t (length d) place))) (settled_self (buffer_of file f t d place));
  slovdrim_fields = λ file s. settled_self _;
  slovdrim_check = λ b. settled_self _;
  slovdrim_check_hinted = λ b. settled_self _;
  slovdrim_runs = λ b line trip d holidays. settled_self _;
  slovdrim_trip_stop = λ b line trip n. settled_self _;
  slovdrim_sale = λ b line trip day month year from to holidays. settled_self _;
  slovdrim_sale_hinted = λ b line trip day month year from to holidays. settled_self _;
  slovdrim_sales = λ b holidays asked list. settled_both _ _ (settled_self (sales_result (sales_answer b asked (length list)))) (settled_self (sales_list b holidays asked list));
  slovdrim_stop = λ b town part place. settled_self _;
  slovdrim_stop_hinted = λ b town part place. settled_self _;
  slovdrim_order = λ b list. settled_both _ _ (settled_self (hint_result (hint_answer b (length list)))) (settled_self (hint_list b list));
  slovdrim_version = settled_self _;
}
