-- What is known of a record before its rules are asked: it was cut, and all its fields are of their kinds.
use Rattle.std.specs.Prelude.{ℕ, ◌≡◌, List}
use Rattle.file.specs.Format.{Fields}
use Rattle.file.specs.Files.{fields_of}
use Rattle.field.specs.Stage.{first_unkind}
use Rattle.walk.specs.Walk.{Parted, cut_record}

-- the record of this file that its places cut
abbrev pub texts : ℕ → List ℕ → List ℕ → Fields
texts file s places = cut_record (fields_of file) s places

-- its texts stand in s, and none is of another kind than its field's
pub record Kinded (file : ℕ) (s places : List ℕ) : Type 0 where
  pub parted : Parted (fields_of file) s places
  pub kinds : first_unkind file 1 (texts file s places) ≡ 0
