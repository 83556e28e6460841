-- `tags::link_tag` meets its contract: each link's fields are numbers, or a code.
use mathlib.Core.Path.{refl, sym, ◌∙◌}
use native.Mathlib.Omega.{arith}
use Rattle.file.specs.Format.{Fields}
use Rattle.rules.specs.Texts.{texts}
use Rattle.link.proofs.KindOfLinks.{line_numeric, stop_numeric, carrier_numeric, trip_numeric, trip_or_zero_numeric, line_stop_numeric, code_kind_lem}
use Rattle.tags.proofs.TagLaws.{free_tagged, line_tagged, stop_tagged, carrier_tagged, trip_tagged, line_stop_tagged}
use Rattle.tags.proofs.link_tag.Goals as goal

pub number_tag-requires : goal.number_tag-requires
number_tag-requires c =
    let a = c.args in
    (omega arith, omega arith, c.requires.1, line_numeric a.file a.f (sym (sym c.in-Line.is ∙ c.link_of.ensures)))

pub number_tag-requires-in-Stop : goal.number_tag-requires-in-Stop
number_tag-requires-in-Stop c =
    let a = c.args in
    (omega arith, omega arith, c.requires.1, stop_numeric a.file a.f (sym (sym c.in-Stop.is ∙ c.link_of.ensures)))

pub number_tag-requires-in-Carrier : goal.number_tag-requires-in-Carrier
number_tag-requires-in-Carrier c =
    let a = c.args in
    (omega arith, omega arith, c.requires.1, carrier_numeric a.file a.f (sym (sym c.in-Carrier.is ∙ c.link_of.ensures)))

pub number_tag-requires-in-Trip : goal.number_tag-requires-in-Trip
number_tag-requires-in-Trip c =
    let a = c.args in
    let t = trip_numeric a.file a.f (sym (sym c.in-Trip.is ∙ c.link_of.ensures)) in
    (omega arith, c.requires.2, c.requires.1, rw t.0 t.2)

pub seat_tag-requires : goal.seat_tag-requires
seat_tag-requires c =
    let a = c.args in
    let k = sym (sym c.in-TripOrZero.is ∙ c.link_of.ensures) in
    let t = trip_or_zero_numeric a.file a.f k in
    (c.requires.2, c.requires.3, c.requires.1, rw t.0 t.2, t.0, k)

pub number_tag-requires-in-LineStop : goal.number_tag-requires-in-LineStop
number_tag-requires-in-LineStop c =
    let a = c.args in
    let t = line_stop_numeric a.file a.f (sym (sym c.in-LineStop.is ∙ c.link_of.ensures)) in
    (omega arith, c.requires.2, c.requires.1, rw t.1 t.3)

pub code_tag-requires : goal.code_tag-requires
code_tag-requires c =
    let a = c.args in
    let k = sym (sym c.in-Code.is ∙ c.link_of.ensures) in
    (c.requires.0, c.requires.1, code_kind_lem a.file a.f k, k, c.requires.4)

pub returns-in-Free : goal.returns-in-Free
returns-in-Free c =
    let cutTexts : Fields =
    let a = c.args in texts a.file a.row.bytes.now a.row.places.now in
    let a = c.args in
    free_tagged a.file a.f cutTexts 0 refl (sym c.in-Free.is ∙ c.link_of.ensures)

pub returns-in-Line : goal.returns-in-Line
returns-in-Line c =
    let cutTexts : Fields =
    let a = c.args in texts a.file a.row.bytes.now a.row.places.now in
    let a = c.args in
    let x = c.number_tag.ensures in
    line_tagged a.file a.f cutTexts _ x.1 (sym c.in-Line.is ∙ c.link_of.ensures) x.0

pub returns-in-Stop : goal.returns-in-Stop
returns-in-Stop c =
    let cutTexts : Fields =
    let a = c.args in texts a.file a.row.bytes.now a.row.places.now in
    let a = c.args in
    let x = c.number_tag-in-Stop.ensures in
    stop_tagged a.file a.f cutTexts _ x.1 (sym c.in-Stop.is ∙ c.link_of.ensures) x.0

pub returns-in-Carrier : goal.returns-in-Carrier
returns-in-Carrier c =
    let cutTexts : Fields =
    let a = c.args in texts a.file a.row.bytes.now a.row.places.now in
    let a = c.args in
    let x = c.number_tag-in-Carrier.ensures in
    carrier_tagged a.file a.f cutTexts _ x.1 (sym c.in-Carrier.is ∙ c.link_of.ensures) x.0

pub returns-in-Trip : goal.returns-in-Trip
returns-in-Trip c =
    let cutTexts : Fields =
    let a = c.args in texts a.file a.row.bytes.now a.row.places.now in
    let a = c.args in
    let p = c.requires in
    let x = c.number_tag-in-Trip.ensures in
    let k = sym c.in-Trip.is ∙ c.link_of.ensures in
    trip_tagged a.file a.f cutTexts _ x.1 a.a p.3 p.2 k (trip_numeric a.file a.f (sym k)).0 x.0

pub returns-in-LineStop : goal.returns-in-LineStop
returns-in-LineStop c =
    let cutTexts : Fields =
    let a = c.args in texts a.file a.row.bytes.now a.row.places.now in
    let a = c.args in
    let p = c.requires in
    let x = c.number_tag-in-LineStop.ensures in
    let k = sym c.in-LineStop.is ∙ c.link_of.ensures in
    line_stop_tagged a.file a.f cutTexts _ x.1 a.a p.3 p.2 k (line_stop_numeric a.file a.f (sym k)).1 x.0

pub returns-in-TripOrZero : goal.returns-in-TripOrZero
returns-in-TripOrZero c = c.seat_tag.ensures

pub returns-in-Code : goal.returns-in-Code
returns-in-Code c = c.code_tag.ensures
