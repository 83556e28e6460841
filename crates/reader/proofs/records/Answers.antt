-- `reader::records` meets its contract: the refusals in their order, then what the reading came to.
use mathlib.Core.Path.{◌≡◌, sym, ap, ◌∙◌}
use mathlib.Core.Bool.{true}
use Prim.Native.Nat.{ℕ}
use native.Mathlib.Omega.{arith}
use Rattle.file.specs.Answers.{numbered, numbered_counted, counted}
use Rattle.file.specs.Files.{is_file, fields_of}
use Rattle.file.specs.Reading.{reading}
use Rattle.file.proofs.AnswerLaws.{file_some, file_none, asked_none, asked_long, asked_read}
use Rattle.reader.proofs.records.Goals as goal

pub returns-then-n-eq0 : goal.returns-then-n-eq0
unfolding numbered_counted numbered
returns-then-n-eq0 c =
    let a = c.args in
    asked_none (counted a.file) a.file a.s.now (file_none a.file (sym c.fields_of-n.ensures ∙ c.if-n-eq0.true))

pub returns-then-s-gt-LONGEST : goal.returns-then-s-gt-LONGEST
unfolding numbered_counted numbered
returns-then-s-gt-LONGEST c =
    let is_file_lem : is_file c.args.file ≡ true =
    file_some c.args.file (let e = c.fields_of-n.ensures in let h = c.if-n-eq0.false in omega arith) in
    let a = c.args in
    asked_long (counted a.file) a.file a.s.now is_file_lem c.if-s-gt-LONGEST.true

pub returns-in-Whole : goal.returns-in-Whole
unfolding numbered_counted numbered counted
returns-in-Whole c =
    let is_file_lem : is_file c.args.file ≡ true =
    file_some c.args.file (let e = c.fields_of-n.ensures in let h = c.if-n-eq0.false in omega arith) in
    let reads : c.read.result ≡ reading (fields_of c.args.file) c.args.s.now =
    let a = c.args in
    c.read.ensures ∙ ap (λ (n : ℕ). reading n a.s.now) c.fields_of-n.ensures in
    let a = c.args in
    asked_read (counted a.file) a.file a.s.now is_file_lem c.if-s-gt-LONGEST.false _ (sym c.in-Whole.is ∙ reads)

pub returns-in-Unfit : goal.returns-in-Unfit
unfolding numbered_counted numbered counted
returns-in-Unfit c =
    let is_file_lem : is_file c.args.file ≡ true =
    file_some c.args.file (let e = c.fields_of-n.ensures in let h = c.if-n-eq0.false in omega arith) in
    let reads : c.read.result ≡ reading (fields_of c.args.file) c.args.s.now =
    let a = c.args in
    c.read.ensures ∙ ap (λ (n : ℕ). reading n a.s.now) c.fields_of-n.ensures in
    let a = c.args in
    asked_read (counted a.file) a.file a.s.now is_file_lem c.if-s-gt-LONGEST.false _ (sym c.in-Unfit.is ∙ reads)

pub returns-in-CutShort : goal.returns-in-CutShort
unfolding numbered_counted numbered counted
returns-in-CutShort c =
    let is_file_lem : is_file c.args.file ≡ true =
    file_some c.args.file (let e = c.fields_of-n.ensures in let h = c.if-n-eq0.false in omega arith) in
    let reads : c.read.result ≡ reading (fields_of c.args.file) c.args.s.now =
    let a = c.args in
    c.read.ensures ∙ ap (λ (n : ℕ). reading n a.s.now) c.fields_of-n.ensures in
    let a = c.args in
    asked_read (counted a.file) a.file a.s.now is_file_lem c.if-s-gt-LONGEST.false _ (sym c.in-CutShort.is ∙ reads)

pub read-requires : goal.read-requires
read-requires c = let h = c.if-n-eq0.false in omega arith
