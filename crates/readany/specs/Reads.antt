-- What is seen of a record that is read byte by byte: what the readers ensure. Of what they wave away nothing is said.
use Rattle.std.specs.Prelude.{ℕ, ◌+◌, ◌≤◌, ◌<◌, ◌≡◌, true, List, ◌++◌, length, drop}
use Rattle.file.specs.Bytes.{CR, LF, starts}
use Rattle.file.specs.Format.{written_record, PermittedTexts}
use Rattle.field.specs.Stage.{first_unkind}
use Rattle.walk.specs.Walk.{Parted, cut_record}

-- CR and LF stand at `at`, and `next` is behind them
pub record LineTo (s : List ℕ) (at next : ℕ) : Type 0 where
  pub first : starts CR (drop at s) ≡ true
  pub second : starts LF (drop (at + 1) s) ≡ true
  pub place : next ≡ at + 2
  pub near : next ≤ length s

-- a record was read from `at` to `next`: the bytes there are the writing of n permitted texts of their kinds, which stand where the places say
pub record ReadTo (file n : ℕ) (s : List ℕ) (at : ℕ) (places : List ℕ) (next : ℕ) : Type 0 where
  pub far : at < next
  pub near : next ≤ length s
  pub parted : Parted n s places
  pub bytes : drop at s ≡ written_record (cut_record n s places) ++ drop next s
  pub texts : PermittedTexts (cut_record n s places)
  pub kinds : first_unkind file 1 (cut_record n s places) ≡ 0
