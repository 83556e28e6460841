-- Document 01, "Fields": the sign of a code number, and which signs are permitted in which place.
use Rattle.std.specs.Prelude.{ℕ, List, [], ◌∷◌, Bool, true, false, eqb, get_or}
use Rattle.laws.specs.Tests.{pick, both, one_of}
use Rattle.file.specs.Format.{Text, Fields}
use Rattle.field.specs.Values.{is_empty, value}
use Rattle.field.specs.Names.{field, trip_stops_file}
use Rattle.keys.specs.Keys.{key_of, same}
use Rattle.thirteen.specs.Batch.{Batch, records_of}
use Rattle.link.specs.declared.Link.{Link}

-- Pevnykod, and the sign of one of its records: field 2, a single byte
abbrev pub codes_file : ℕ
codes_file = 3

unfoldable pub first_byte : Text → ℕ
first_byte [] = 0
first_byte (b ∷ t) = b

-- the sign of a code number: that of the first record that has it; 0, which is no sign, where none has
unfoldable pub sign_in : List Fields → ℕ → ℕ
sign_in [] c = 0
sign_in (r ∷ rs) c = pick (same (key_of codes_file r) (c ∷ [])) (first_byte (field 2 r)) (sign_in rs c)

unfoldable pub sign_of : Batch → ℕ → ℕ
sign_of b c = sign_in (records_of b codes_file) c

-- permitted by place, from file 0 on: Zastavky  @ % W w x ~ } v ; Spoje  X + 1 2 3 4 5 6 7 R # @ % I { [ O s ; Zaslinky  ( ) x § $ ;
-- Zasspoje  ( ) x § ; Altdop  X + 1 2 3 4 5 6 7
unfoldable pub permitted_signs : List (List ℕ)
permitted_signs =
    []
    ∷ []
    ∷ (64 ∷ 37 ∷ 87 ∷ 119 ∷ 120 ∷ 126 ∷ 125 ∷ 118 ∷ [])
    ∷ []
    ∷ []
    ∷ []
    ∷ (88 ∷ 43 ∷ 49 ∷ 50 ∷ 51 ∷ 52 ∷ 53 ∷ 54 ∷ 55 ∷ 82 ∷ 35 ∷ 64 ∷ 37 ∷ 73 ∷ 123 ∷ 91 ∷ 79 ∷ 115 ∷ [])
    ∷ (40 ∷ 41 ∷ 120 ∷ 0xA7 ∷ 36 ∷ [])
    ∷ (40 ∷ 41 ∷ 120 ∷ 0xA7 ∷ [])
    ∷ []
    ∷ []
    ∷ (88 ∷ 43 ∷ 49 ∷ 50 ∷ 51 ∷ 52 ∷ 53 ∷ 54 ∷ 55 ∷ [])
    ∷ []
    ∷ []
    ∷ []

unfoldable pub is_in : ℕ → List ℕ → Bool
is_in x [] = false
is_in x (y ∷ ys) = one_of (eqb x y) (is_in x ys)

-- this sign may stand in this file's codes
unfoldable pub is_permitted : ℕ → ℕ → Bool
is_permitted file sign = is_in sign (get_or permitted_signs file [])

-- Zasspoje's two codes, fields 6 and 7
abbrev pub first_code : ℕ
first_code = 6

abbrev pub second_code : ℕ
second_code = 7

-- its second code has the sign of the first, if both are given
unfoldable pub same_sign : Batch → ℕ → ℕ → Fields → Bool
same_sign b file f r =
    pick (both (eqb file trip_stops_file) (eqb f second_code))
    (one_of (is_empty (field first_code r)) (eqb (sign_of b (value (field first_code r))) (sign_of b (value (field f r)))))
    true

-- the sign of the code in field f is permitted there; only a code that is given has a sign
unfoldable pub code_fits : Batch → ℕ → ℕ → Fields → Bool
code_fits b file f r = one_of (is_empty (field f r)) (both (is_permitted file (sign_of b (value (field f r)))) (same_sign b file f r))

unfoldable pub sign_stands : Batch → ℕ → Link → ℕ → Fields → Bool
sign_stands b file Link.Free f r = true
sign_stands b file Link.Line f r = true
sign_stands b file Link.Stop f r = true
sign_stands b file Link.Carrier f r = true
sign_stands b file Link.Trip f r = true
sign_stands b file Link.TripOrZero f r = true
sign_stands b file Link.LineStop f r = true
sign_stands b file Link.Code f r = code_fits b file f r
