-- `flaw::amiss_at` meets its contract: what is wrong with a field is what its link asks for; each link's fields are numbers, or a code.
use mathlib.Core.Path.{refl, sym, ◌∙◌}
use native.Mathlib.Omega.{arith}
use Rattle.file.specs.Format.{Fields}
use Rattle.thirteen.specs.Batch.{Batch}
use Rattle.thirteen.specs.Lent.{batch_of}
use Rattle.keys.specs.Keys.{key_fields, key_table}
use Rattle.rules.specs.Texts.{texts}
use Rattle.link.proofs.KindOfLinks.{line_numeric, stop_numeric, carrier_numeric, trip_numeric, trip_or_zero_numeric, line_stop_numeric, code_kind_lem}
use Rattle.amiss.proofs.AmissLaws.{free_amiss, line_amiss, stop_amiss, carrier_amiss, trip_amiss, seat_amiss, line_stop_amiss}
use Rattle.flaw.proofs.amiss_at.Goals as goal

pub one_amiss-requires : goal.one_amiss-requires
unfolding key_fields key_table
one_amiss-requires c =
    let a = c.args in
    let r = c.requires in
    (r, line_numeric a.file a.f (sym (sym c.in-Line.is ∙ c.link_of.ensures)), (omega arith, omega arith), refl)

pub stop_amiss-requires : goal.stop_amiss-requires
stop_amiss-requires c =
    let a = c.args in
    let r = c.requires in
    (r, stop_numeric a.file a.f (sym (sym c.in-Stop.is ∙ c.link_of.ensures)))

pub one_amiss-requires-in-Carrier : goal.one_amiss-requires-in-Carrier
unfolding key_fields key_table
one_amiss-requires-in-Carrier c =
    let a = c.args in
    let r = c.requires in
    (r, carrier_numeric a.file a.f (sym (sym c.in-Carrier.is ∙ c.link_of.ensures)), (omega arith, omega arith), refl)

pub two_amiss-requires : goal.two_amiss-requires
unfolding key_fields key_table
two_amiss-requires c =
    let a = c.args in
    let r = c.requires in
    let t = trip_numeric a.file a.f (sym (sym c.in-Trip.is ∙ c.link_of.ensures)) in
    (r, t.1, rw t.0 t.2, (omega arith, omega arith), refl)

pub seat_amiss-requires : goal.seat_amiss-requires
seat_amiss-requires c =
    let a = c.args in
    let r = c.requires in
    let t = trip_or_zero_numeric a.file a.f (sym (sym c.in-TripOrZero.is ∙ c.link_of.ensures)) in
    (r, t.1, t.2, t.0)

pub two_amiss-requires-in-LineStop : goal.two_amiss-requires-in-LineStop
unfolding key_fields key_table
two_amiss-requires-in-LineStop c =
    let a = c.args in
    let r = c.requires in
    let t = line_stop_numeric a.file a.f (sym (sym c.in-LineStop.is ∙ c.link_of.ensures)) in
    (r, t.2, rw t.1 t.3, (omega arith, omega arith), refl)

pub code_amiss-requires : goal.code_amiss-requires
code_amiss-requires c =
    let a = c.args in
    let r = c.requires in
    let k = sym (sym c.in-Code.is ∙ c.link_of.ensures) in
    (r, code_kind_lem a.file a.f k, k)

pub returns-in-Free : goal.returns-in-Free
returns-in-Free c =
    let files : Batch = batch_of c.args.files.now in
    let cutTexts : Fields =
    let a = c.args in texts a.file a.row.bytes.now a.row.places.now in
    let a = c.args in
    (free_amiss files a.file a.f cutTexts (sym c.in-Free.is ∙ c.link_of.ensures), c.requires.known.looks.lasts)

pub returns-in-Line : goal.returns-in-Line
returns-in-Line c =
    let files : Batch = batch_of c.args.files.now in
    let cutTexts : Fields =
    let a = c.args in texts a.file a.row.bytes.now a.row.places.now in
    let a = c.args in
    let k = sym c.in-Line.is ∙ c.link_of.ensures in
    (c.one_amiss.ensures.0 ∙ line_amiss files a.file a.f cutTexts k, c.one_amiss.ensures.1)

pub returns-in-Stop : goal.returns-in-Stop
returns-in-Stop c =
    let files : Batch = batch_of c.args.files.now in
    let cutTexts : Fields =
    let a = c.args in texts a.file a.row.bytes.now a.row.places.now in
    let a = c.args in
    let k = sym c.in-Stop.is ∙ c.link_of.ensures in
    (c.stop_amiss.ensures.0 ∙ stop_amiss files a.file a.f cutTexts k, c.stop_amiss.ensures.1)

pub returns-in-Carrier : goal.returns-in-Carrier
returns-in-Carrier c =
    let files : Batch = batch_of c.args.files.now in
    let cutTexts : Fields =
    let a = c.args in texts a.file a.row.bytes.now a.row.places.now in
    let a = c.args in
    let k = sym c.in-Carrier.is ∙ c.link_of.ensures in
    (c.one_amiss-in-Carrier.ensures.0 ∙ carrier_amiss files a.file a.f cutTexts k, c.one_amiss-in-Carrier.ensures.1)

pub returns-in-Trip : goal.returns-in-Trip
returns-in-Trip c =
    let files : Batch = batch_of c.args.files.now in
    let cutTexts : Fields =
    let a = c.args in texts a.file a.row.bytes.now a.row.places.now in
    let a = c.args in
    let k = sym c.in-Trip.is ∙ c.link_of.ensures in
    let t = trip_numeric a.file a.f (sym k) in
    (c.two_amiss.ensures.0 ∙ trip_amiss files a.file a.f cutTexts k t.0, c.two_amiss.ensures.1)

pub returns-in-TripOrZero : goal.returns-in-TripOrZero
returns-in-TripOrZero c =
    let files : Batch = batch_of c.args.files.now in
    let cutTexts : Fields =
    let a = c.args in texts a.file a.row.bytes.now a.row.places.now in
    let a = c.args in
    let k = sym c.in-TripOrZero.is ∙ c.link_of.ensures in
    (c.seat_amiss.ensures.0 ∙ seat_amiss files a.file a.f cutTexts k, c.seat_amiss.ensures.1)

pub returns-in-LineStop : goal.returns-in-LineStop
returns-in-LineStop c =
    let files : Batch = batch_of c.args.files.now in
    let cutTexts : Fields =
    let a = c.args in texts a.file a.row.bytes.now a.row.places.now in
    let a = c.args in
    let k = sym c.in-LineStop.is ∙ c.link_of.ensures in
    let t = line_stop_numeric a.file a.f (sym k) in (
      c.two_amiss-in-LineStop.ensures.0 ∙ line_stop_amiss files a.file a.f cutTexts k t.1,
      c.two_amiss-in-LineStop.ensures.1,
    )

pub returns-in-Code : goal.returns-in-Code
returns-in-Code c = c.code_amiss.ensures
