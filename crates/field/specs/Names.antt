-- The numbers of the files that have rules of their own, and of the fields that those rules name; fields count from 1.
use Rattle.std.specs.Prelude.{ℕ, ◌-◌, [], get_or}
use Rattle.file.specs.Format.{Text, Fields}

-- field f of a record
abbrev pub field : ℕ → Fields → Text
field f r = get_or r (f - 1) []

-- Zastavky: a stop's district and state
abbrev pub stops_file : ℕ
stops_file = 2

abbrev pub district : Fields → Text
district r = field 5 r

abbrev pub country : Fields → Text
country r = field 6 r

-- Dopravci: the kind of a firm, and a person's name
abbrev pub firms_file : ℕ
firms_file = 4

abbrev pub firm_kind : Fields → Text
firm_kind r = field 4 r

abbrev pub person_name : Fields → Text
person_name r = field 5 r

-- Linky: the licence's dates, and the timetable's
abbrev pub lines_file : ℕ
lines_file = 5

abbrev pub licence_from : Fields → Text
licence_from r = field 7 r

abbrev pub licence_to : Fields → Text
licence_to r = field 8 r

abbrev pub valid_from : Fields → Text
valid_from r = field 9 r

abbrev pub valid_to : Fields → Text
valid_to r = field 10 r

-- Zasspoje: kilometres, arrival and departure of a trip at a stop
abbrev pub trip_stops_file : ℕ
trip_stops_file = 8

abbrev pub kilometres : Fields → Text
kilometres r = field 8 r

abbrev pub arrival : Fields → Text
arrival r = field 9 r

abbrev pub departure : Fields → Text
departure r = field 10 r

-- Caskody: a time code's mark, type and dates
abbrev pub time_codes_file : ℕ
time_codes_file = 10

abbrev pub mark : Fields → Text
mark r = field 4 r

abbrev pub code_type : Fields → Text
code_type r = field 5 r

abbrev pub code_from : Fields → Text
code_from r = field 6 r

abbrev pub code_to : Fields → Text
code_to r = field 7 r

-- Altdop: an alternative carrier's codes, fields 4 to 9, type and dates
abbrev pub alternatives_file : ℕ
alternatives_file = 11

abbrev pub first_carrier_code : ℕ
first_carrier_code = 4

abbrev pub carrier_codes : ℕ
carrier_codes = 6

abbrev pub carrier_type : Fields → Text
carrier_type r = field 10 r

abbrev pub carrier_from : Fields → Text
carrier_from r = field 12 r

abbrev pub carrier_to : Fields → Text
carrier_to r = field 13 r
