-- Document 01, "Rules inside one record (refusal 6)", in its order. A record is tried for them only if all its fields are of their
-- kinds.
use Rattle.std.specs.Prelude.{ℕ, zero, suc, ◌+◌, [], ◌∷◌, Bool, true, false, not, eqb, leb}
use Rattle.laws.specs.Tests.{pick, both, one_of}
use Rattle.dates.specs.Dates.{within}
use Rattle.file.specs.Format.{Text, Fields}
use Rattle.field.specs.Values.{is_empty, given, is_byte, among, is_digits, value, day_of_text, is_time}
use Rattle.field.specs.Names.{field, stops_file, district, country, firms_file, firm_kind, person_name, lines_file, licence_from, licence_to, valid_from, valid_to, trip_stops_file, kilometres, arrival, departure, time_codes_file, mark, code_type, code_from, code_to, alternatives_file, first_carrier_code, carrier_codes, carrier_type, carrier_from, carrier_to}

-- a, where it holds, asks for b
abbrev pub asks : Bool → Bool → Bool
asks a b = one_of (not a) b

-- the state CZ
unfoldable pub is_cz : Text → Bool
is_cz [] = false
is_cz (a ∷ []) = false
is_cz (a ∷ b ∷ []) = both (eqb a 67) (eqb b 90)
is_cz (a ∷ b ∷ c ∷ t) = false

-- Zastavky: district given if state is CZ
unfoldable pub stop_rule : Fields → Bool
stop_rule r = asks (is_cz (country r)) (given (district r))

-- Dopravci: person's name given if kind is 2
unfoldable pub firm_rule : Fields → Bool
firm_rule r = asks (is_byte 50 (firm_kind r)) (given (person_name r))

-- a from-date not after its to-date, where both are given
unfoldable pub in_order : Text → Text → Bool
in_order from to = asks (both (given from) (given to)) (leb (day_of_text from) (day_of_text to))

-- Linky: each from-date not after its to-date, where both are given
unfoldable pub line_rule : Fields → Bool
line_rule r = both (in_order (licence_from r) (licence_to r)) (in_order (valid_from r) (valid_to r))

-- Caskody, Altdop: a to-date needs a from-date and isn't before it
unfoldable pub closes : Text → Text → Bool
closes from to = asks (given to) (both (given from) (leb (day_of_text from) (day_of_text to)))

-- two digits 10-79
unfoldable pub is_time_mark : Text → Bool
is_time_mark t = both (is_digits 2 2 t) (within 10 (value t) 79)

-- one of O m M [ p
unfoldable pub is_note_mark : Text → Bool
is_note_mark t = among (79 ∷ 109 ∷ 77 ∷ 91 ∷ 112 ∷ []) t

-- Caskody: with a type, the mark is two digits 10-79; without, it is one of those
unfoldable pub mark_rule : Fields → Bool
mark_rule r = pick (given (code_type r)) (is_time_mark (mark r)) (is_note_mark (mark r))

-- types 1 and 4 need a from-date; 2 and 3 need it and no to-date; 5 and 6 have neither; 7 and 8 have both
unfoldable pub dates_rule : Text → Text → Text → Bool
dates_rule type from to =
    both (asks (among (49 ∷ 52 ∷ []) type) (given from))
    (both (asks (among (50 ∷ 51 ∷ []) type) (both (given from) (is_empty to)))
    (both (asks (among (53 ∷ 54 ∷ []) type) (both (is_empty from) (is_empty to)))
    (asks (among (55 ∷ 56 ∷ []) type) (both (given from) (given to)))))

unfoldable pub time_code_rule : Fields → Bool
time_code_rule r = both (closes (code_from r) (code_to r)) (both (mark_rule r) (dates_rule (code_type r) (code_from r) (code_to r)))

-- one of the n fields from f on is given
unfoldable pub any_given : ℕ → ℕ → Fields → Bool
any_given zero f r = false
any_given (suc n) f r = one_of (given (field f r)) (any_given n (f + 1) r)

-- Altdop: at least one of code, type, from-date
unfoldable pub carrier_rule : Fields → Bool
carrier_rule r =
    both (closes (carrier_from r) (carrier_to r))
    (one_of (any_given carrier_codes first_carrier_code r) (one_of (given (carrier_type r)) (given (carrier_from r))))

-- Zasspoje: both empty, or a time in one with the other empty, or a time in both, or departure `|` with arrival empty or `|`, or
-- departure `<` with arrival empty or `<`
unfoldable pub times_rule : Text → Text → Bool
times_rule a d =
    one_of (both (is_empty a) (is_empty d))
    (one_of (both (is_time a) (is_empty d))
    (one_of (both (is_empty a) (is_time d))
    (one_of (both (is_time a) (is_time d))
    (one_of (both (is_byte 124 d) (one_of (is_empty a) (is_byte 124 a)))
    (both (is_byte 60 d) (one_of (is_empty a) (is_byte 60 a)))))))

-- there is a time or `|`
unfoldable pub time_or_bar : Text → Text → Bool
time_or_bar a d = one_of (one_of (is_time a) (is_time d)) (one_of (is_byte 124 a) (is_byte 124 d))

-- both hold, or neither does
abbrev pub alike : Bool → Bool → Bool
alike a b = pick a b (not b)

-- and kilometres are given exactly when there is a time or `|`
unfoldable pub trip_stop_rule : Fields → Bool
trip_stop_rule r = both (times_rule (arrival r) (departure r)) (alike (given (kilometres r)) (time_or_bar (arrival r) (departure r)))

-- a record of this file meets its rules; a file with no rules has records that all do
unfoldable pub meets : ℕ → Fields → Bool
meets file r =
    pick (eqb file stops_file) (stop_rule r)
    (pick (eqb file firms_file) (firm_rule r)
    (pick (eqb file lines_file) (line_rule r)
    (pick (eqb file trip_stops_file) (trip_stop_rule r)
    (pick (eqb file time_codes_file) (time_code_rule r)
    (pick (eqb file alternatives_file) (carrier_rule r)
    true)))))
