-- What is seen of a record's fields, one behind another: what the steps from field to field ask and ensure.
use Rattle.std.specs.Prelude.{ℕ, ◌+◌, ◌-◌, ◌≤◌, ◌<◌, ◌≡◌, true, List, ◌∷◌, ◌++◌, ltb, length, drop}
use Rattle.laws.specs.Tests.{pick}
use Rattle.file.specs.Bytes.{quote, comma, semicolon, starts, permitted_text}
use Rattle.field.specs.Kinds.{code, line, number, kind_of, admits}
use Rattle.field.specs.declared.Kind.{Kind}
use Rattle.walk.specs.Walk.{start_of}
use Rattle.extent.specs.Extent.{between, TextTo}

-- behind a quote at `at` stands field f's text, up to `end`
pub record FieldTo (file f : ℕ) (s : List ℕ) (at end : ℕ) : Type 0 where
  pub opened : starts quote (drop at s) ≡ true
  pub text : TextTo (kind_of file f) s (at + 1) end

-- what follows a record's fields: a comma each, and a semicolon the last
abbrev pub follower : ℕ → ℕ → ℕ
follower f n = pick (ltb f n) comma semicolon

-- the text of field f stands from p on, and that of the next would from q on
pub record TextAt (file f : ℕ) (s : List ℕ) (p q : ℕ) : Type 0 where
  pub order : p + 3 ≤ q
  pub near : q ≤ length s + 2
  pub bytes : drop (p - 1) s ≡ quote ∷ (between s p (q - 3) ++ quote ∷ drop (q - 2) s)
  pub fits : permitted_text (between s p (q - 3)) ≡ true
  pub kind : admits (kind_of file f) (between s p (q - 3)) ≡ true

-- f fields of n were read, and the places say where their texts start and that of the next would
pub record Come (file n : ℕ) (s : List ℕ) (start : ℕ) (places : List ℕ) (f : ℕ) : Type 0 where
  pub room : length places ≡ 14
  pub first : start_of places 0 ≡ start + 1
  pub fields : (j : ℕ) → j < f → TextAt file (j + 1) s (start_of places j) (start_of places (j + 1))
  pub marks : (j : ℕ) → j < f → starts (follower (j + 1) n) (drop (start_of places (j + 1) - 2) s) ≡ true

-- they were, of the record at `start`, and what is behind them is due at `at`
pub record Due (file n : ℕ) (s : List ℕ) (start : ℕ) (places : List ℕ) (f at : ℕ) : Type 0 where
  pub come : Come file n s start places f
  pub here : start_of places f ≡ at + 1
  pub from : start ≤ at
  pub near : at ≤ length s
  pub few : n ≤ 13

-- field f + 1, which is due there, is of this kind
pub record Ahead (kind : Kind) (file n : ℕ) (s : List ℕ) (start : ℕ) (places : List ℕ) (f at : ℕ) : Type 0 where
  pub due : Due file n s start places f at
  pub more : f < n
  pub is : kind_of file (f + 1) ≡ kind

-- the fields behind f up to g are codes
abbrev pub Codes : ℕ → ℕ → ℕ → Type 0
Codes file f g = (i : ℕ) → f ≤ i → i < g → kind_of file (i + 1) ≡ code

-- the first two fields are a line and a number
pub record LineFirst (file : ℕ) : Type 0 where
  pub first : kind_of file 1 ≡ line
  pub second : kind_of file 2 ≡ number
