-- A stop's name, and the numbers of an answer about one: document 01, 23 and 24. The three name fields of Zastavky are 2, 3 and 4.
use Rattle.std.specs.Prelude.{ℕ, Bool, [], ◌∷◌}
use Rattle.laws.specs.Tests.{both}
use Rattle.laws.specs.Numbered.{Numbered, answered, refused}
use Rattle.file.specs.Format.{Text, Fields}
use Rattle.field.specs.Names.{field}
use Rattle.keys.specs.Keys.{same}
use Rattle.fault.specs.Answers.{numbered_fault}
use Rattle.named.specs.declared.Named.{Named}

-- a stop's three name fields equal these, byte for byte
unfoldable pub is_named : Text → Text → Text → Fields → Bool
is_named town part place r = both (same (field 2 r) town) (both (same (field 3 r) part) (same (field 4 r) place))

-- 24, with how many
abbrev pub several : ℕ → Numbered
several n = record { number = 24; in_file = 0; in_record = 0; in_field = 0; at_offset = 0; values = n ∷ [] }

-- document 01's number and values for each case of the answer
unfoldable pub numbered_named : Named → Numbered
numbered_named (Named.Refused f) = numbered_fault f
numbered_named Named.Nobody = refused 23
numbered_named (Named.Several n) = several n
numbered_named (Named.Is stop) = answered (stop ∷ [])
