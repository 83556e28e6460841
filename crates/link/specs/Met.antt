-- What a batch keeps once the stage of keys, links and signs finds nothing, row by row of document 01's table. `One of these records` is a
-- quantified statement, and no fault function is named.
use Rattle.std.specs.Prelude.{ℕ, ◌<◌, ◌≤◌, ◌≡◌, ◌⊎◌, List, [], ◌∷◌, get_or, length}
use Rattle.file.specs.Format.{Fields}
use Rattle.field.specs.Values.{value}
use Rattle.field.specs.Names.{field}
use Rattle.keys.specs.Keys.{key_of}
use Rattle.thirteen.specs.Batch.{Batch, records_of}
use Rattle.link.specs.Signs.{codes_file, first_byte, permitted_signs}

-- r is a record of this file
abbrev pub Stands : Batch → ℕ → Fields → Type 0
Stands b file r = (i : ℕ) × (i < length (records_of b file)) × (get_or (records_of b file) i [] ≡ r)

-- no two records of this file have one key
abbrev pub Distinct : Batch → ℕ → Type 0
Distinct b file =
    (i j : ℕ) → i < j → j < length (records_of b file) → key_of file (get_or (records_of b file) i []) ≡ key_of file (get_or (records_of b file) j []) → ⊥

-- a record of this file has these numbers as its key
abbrev pub Reaches : Batch → ℕ → List ℕ → Type 0
Reaches b file key = (q : Fields) × Stands b file q × (key_of file q ≡ key)

-- the number in field f
abbrev pub number : ℕ → Fields → ℕ
number f r = value (field f r)

-- document 01's table, column "key": the numbers of a record that are its key, file by file
pub record KeyColumn (r : Fields) : Type 0 where
  pub stop_key : key_of 2 r ≡ number 1 r ∷ []
  pub code_key : key_of 3 r ≡ number 1 r ∷ []
  pub carrier_key : key_of 4 r ≡ number 1 r ∷ []
  pub line_key : key_of 5 r ≡ number 1 r ∷ []
  pub trip_key : key_of 6 r ≡ number 1 r ∷ number 2 r ∷ []
  pub line_stop_key : key_of 7 r ≡ number 1 r ∷ number 2 r ∷ []
  pub trip_stop_key : key_of 8 r ≡ number 1 r ∷ number 2 r ∷ number 3 r ∷ []
  pub note_key : key_of 9 r ≡ number 1 r ∷ number 2 r ∷ []
  pub time_code_key : key_of 10 r ≡ number 1 r ∷ number 2 r ∷ number 3 r ∷ []

-- line, stop, carrier and code of field f; trip and line's stop of the fields that name them
abbrev pub ToLine : Batch → ℕ → Fields → Type 0
ToLine b f r = Reaches b 5 (number f r ∷ [])

abbrev pub ToStop : Batch → ℕ → Fields → Type 0
ToStop b f r = Reaches b 2 (number f r ∷ [])

abbrev pub ToCarrier : Batch → ℕ → Fields → Type 0
ToCarrier b f r = Reaches b 4 (number f r ∷ [])

abbrev pub ToTrip : Batch → Fields → Type 0
ToTrip b r = Reaches b 6 (number 1 r ∷ number 2 r ∷ [])

abbrev pub ToLineStop : Batch → Fields → Type 0
ToLineStop b r = Reaches b 7 (number 1 r ∷ number 3 r ∷ [])

-- codes: each is empty, or a record of Pevnykod has its number
abbrev pub ToCodes : Batch → ℕ → ℕ → Fields → Type 0
ToCodes b from to r = (f : ℕ) → from ≤ f → f ≤ to → (length (field f r) ≡ 0) ⊎ Reaches b 3 (number f r ∷ [])

-- every record of a file keeps this
abbrev pub Each : Batch → ℕ → (Fields → Type 0) → Type 0
Each b file keeps = (r : Fields) → Stands b file r → keeps r

-- document 01's table: keys and links
pub record Linking (b : Batch) : Type 0 where
  pub stops_key : Distinct b 2
  pub stops : Each b 2 (λ r. ToCodes b 7 12 r)
  pub codes_key : Distinct b 3
  pub carriers_key : Distinct b 4
  pub lines_key : Distinct b 5
  pub lines : Each b 5 (λ r. ToCarrier b 3 r)
  pub trips_key : Distinct b 6
  pub trips : Each b 6 (λ r. ToLine b 1 r × ToCodes b 3 12 r)
  pub line_stops_key : Distinct b 7
  pub line_stops : Each b 7 (λ r. ToLine b 1 r × ToStop b 4 r × ToCodes b 5 7 r)
  pub trip_stops_key : Distinct b 8
  pub stops_of_trips : Each b 8 (λ r. ToTrip b r × ToLineStop b r × ToStop b 4 r × ToCodes b 6 7 r)
  pub notes_key : Distinct b 9
  pub notes : Each b 9 (λ r. ToLine b 1 r)
  pub time_codes_key : Distinct b 10
  pub time_codes : Each b 10 (λ r. ToTrip b r)
  pub alternatives : Each b 11 (λ r. ToTrip b r × ToCarrier b 3 r × ToCodes b 4 9 r)
  pub other_names : Each b 12 (λ r. ToLine b 1 r)
  pub seats : Each b 13 (λ r. ToLine b 1 r × ((number 2 r ≡ 0) ⊎ ToTrip b r))

-- x is the sign of code number c: that of a record of Pevnykod that has the number. Where `codes_key` holds there is one such record at most.
abbrev pub Sign : Batch → ℕ → ℕ → Type 0
Sign b c x = (q : Fields) × Stands b codes_file q × (number 1 q ≡ c) × (first_byte (field 2 q) ≡ x)

-- x is one of the signs that are permitted in this file
abbrev pub PermittedIn : ℕ → ℕ → Type 0
PermittedIn file x = (k : ℕ) × (k < length (get_or permitted_signs file [])) × (get_or (get_or permitted_signs file []) k 0 ≡ x)

-- codes: each is empty, or its sign is permitted in this file
abbrev pub PermittedCodes : Batch → ℕ → ℕ → ℕ → Fields → Type 0
PermittedCodes b file from to r = (f : ℕ) → from ≤ f → f ≤ to → (length (field f r) ≡ 0) ⊎ ((x : ℕ) × Sign b (number f r) x × PermittedIn file x)

-- the codes of fields f and g, if both are given, have the same sign
abbrev pub OneSign : Batch → ℕ → ℕ → Fields → Type 0
OneSign b f g r =
    (length (field f r) ≡ 0) ⊎ ((length (field g r) ≡ 0) ⊎ ((x : ℕ) × Sign b (number f r) x × Sign b (number g r) x))

-- document 01's permitted signs
pub record Signed (b : Batch) : Type 0 where
  pub stop_signs : Each b 2 (λ r. PermittedCodes b 2 7 12 r)
  pub trip_signs : Each b 6 (λ r. PermittedCodes b 6 3 12 r)
  pub line_stop_signs : Each b 7 (λ r. PermittedCodes b 7 5 7 r)
  pub trip_stop_signs : Each b 8 (λ r. PermittedCodes b 8 6 7 r × OneSign b 6 7 r)
  pub carrier_signs : Each b 11 (λ r. PermittedCodes b 11 4 9 r)
