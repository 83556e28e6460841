-- What was read is written again field by field: each call of the writer at the place that the last one answered.
use Rattle.std.specs.Prelude.{ℕ, zero, suc, ◌+◌, ◌-◌, ◌≤◌, ◌≡◌, List, [], ◌∷◌, get_or, length}
use Rattle.laws.specs.Splice.{splice}
use Rattle.file.specs.Format.{Text, Fields}
use Rattle.file.specs.Files.{fields_of}
use Rattle.file.specs.Writing.{written_of, buffer_of}

-- a lent buffer, and the place at which the next field goes
pub record Buffer : Type 0 where
  pub bytes : List ℕ
  pub place : ℕ

abbrev pub buffer : List ℕ → ℕ → Buffer
buffer d place = record { bytes = d; place = place }

-- bs laid from the place on, no other byte changed, and the place after them
abbrev pub laid : List ℕ → Buffer → Buffer
laid bs w = buffer (splice w.bytes w.place bs) (w.place + length bs)

-- the place that a call answers; a refusal answers none
unfoldable pub place_in : List ℕ → ℕ
place_in [] = 0
place_in (place ∷ more) = place

-- one call of the writer: what it leaves in the buffer, and the place that it answers
unfoldable pub write_field : ℕ → ℕ → Text → Buffer → Buffer
write_field file f t w =
    buffer (buffer_of file f t w.bytes w.place) (place_in (written_of file f t (length w.bytes) w.place).values)

-- the texts of a record, the first as field f, the next as field f + 1
unfoldable pub write_fields : ℕ → ℕ → Fields → Buffer → Buffer
write_fields file f [] w = w
write_fields file f (t ∷ ts) w = write_fields file (suc f) ts (write_field file f t w)

-- record by record, each from field 1 on
unfoldable pub write_records : ℕ → List Fields → Buffer → Buffer
write_records file [] w = w
write_records file (r ∷ rs) w = write_records file rs (write_fields file 1 r w)

-- the same for m fields from field f on, the text of each given by its number
unfoldable pub rewrite_fields : ℕ → (ℕ → Text) → ℕ → ℕ → Buffer → Buffer
rewrite_fields file text zero f w = w
rewrite_fields file text (suc m) f w = rewrite_fields file text m (suc f) (write_field file f (text f) w)

-- and for k records from record r on, the text of each field given by the numbers of its record and of itself
unfoldable pub rewrite_records : ℕ → (ℕ → ℕ → Text) → ℕ → ℕ → Buffer → Buffer
rewrite_records file text zero r w = w
rewrite_records file text (suc k) r w = rewrite_records file text k (suc r) (rewrite_fields file (text r) (fields_of file) 1 w)

-- field f of record r; both count from 1
abbrev pub field_in : List Fields → ℕ → ℕ → Text
field_in rs r f = get_or (get_or rs (r - 1) []) (f - 1) []

-- `text` gives the texts of these records, which have n fields each
abbrev pub SameTexts : ℕ → (ℕ → ℕ → Text) → List Fields → Type 0
SameTexts n text rs = (r f : ℕ) → 1 ≤ r → r ≤ length rs → 1 ≤ f → f ≤ n → text r f ≡ field_in rs r f
