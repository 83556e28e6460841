-- How far a text of some kind reaches, by where it ends. Of what is waved away nothing is said.
use Rattle.std.specs.Prelude.{ℕ, suc, ◌-◌, ◌≤◌, ◌≡◌, true, List, [], ◌∷◌, length, take, drop}
use Rattle.laws.specs.Tests.{pick}
use Rattle.file.specs.Bytes.{permitted_text}
use Rattle.file.specs.Format.{Text}
use Rattle.field.specs.Kinds.{admits}
use Rattle.field.specs.Values.{is_digit}
use Rattle.field.specs.declared.Kind.{Kind}

-- how many digits stand before the first byte that is none
unfoldable pub digit_run : List ℕ → ℕ
digit_run [] = 0
digit_run (b ∷ l) = pick (is_digit b) (suc (digit_run l)) 0

-- the bytes from one place to another
abbrev pub between : List ℕ → ℕ → ℕ → Text
between s at end = take (end - at) (drop at s)

-- they are a permitted text of this kind
pub record TextTo (kind : Kind) (s : List ℕ) (at end : ℕ) : Type 0 where
  pub order : at ≤ end
  pub near : end ≤ length s
  pub fits : permitted_text (between s at end) ≡ true
  pub is : admits kind (between s at end) ≡ true
