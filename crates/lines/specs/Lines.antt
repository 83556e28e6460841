-- A legal file's records are its lines: LF can't stand in a text, so it stands at record ends alone.
use Rattle.std.specs.Prelude.{ℕ, suc, ◌+◌, ◌≤◌, ◌≡◌, List, [], ◌∷◌, ◌++◌, eqb, length, drop}
use Rattle.laws.specs.Tests.{pick}
use Rattle.file.specs.Bytes.{LF}
use Rattle.file.specs.Format.{Fields, written_record, written}
use Rattle.file.specs.Records.{records_in}
use Rattle.walk.specs.Walk.{LegalFrom}

-- how many bytes stand before the first LF, or in all
unfoldable pub lead : List ℕ → ℕ
lead [] = 0
lead (b ∷ l) = pick (eqb b LF) 0 (suc (lead l))

-- the place behind the next LF from m on
abbrev pub behind : List ℕ → ℕ → ℕ
behind s m = m + lead (drop m s) + 1

-- a record of s starts at `at`, or s ends there: whole records stand before it, and s is legal from there on
pub record Place (n : ℕ) (s : List ℕ) (at : ℕ) : Type 0 where
  pub past : List Fields
  pub whole : records_in n s ≡ past ++ records_in n (drop at s)
  pub size : length (written past) ≡ at
  pub legal : LegalFrom n s at
  pub near : at ≤ length s

-- the record that starts at `at`, and the place behind it
pub record Next (n : ℕ) (s : List ℕ) (at : ℕ) (first : Fields) (next : ℕ) : Type 0 where
  pub rest : records_in n (drop at s) ≡ first ∷ records_in n (drop next s)
  pub size : next ≡ at + length (written_record first)
  pub place : Place n s next
