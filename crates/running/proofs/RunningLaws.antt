-- A trip's days: what the passes over its time codes leave.
use mathlib.Core.Path.{◌≡◌, refl, sym, ◌∙◌}
use mathlib.Core.Bool.{Bool, true, false}
use mathlib.Core.List.{List, []}
use Prim.Native.Nat.{ℕ}
use native.Mathlib.Omega.{arith}
use lib.ListN.{get_or, replicate}
use Rattle.laws.specs.Tests.{bit}
use Rattle.file.specs.Format.{Fields}
use Rattle.trip.specs.Days.{has_type, three_with_other, days_fit}
use Rattle.codes.specs.Seen.{Flags, Seen, Held, seen_behind, held_behind}
use Rattle.codes.proofs.SeenLaws.{flags_new, flags_seen, flags_held, seen_all, held_all}

-- what the pass leaves
module _ (codes : List Fields) (seen : List ℕ) (e : seen ≡ seen_behind (replicate 9 0) codes) where
  pub left_flags : Flags seen
  left_flags = rw e (flags_seen (replicate 9 0) codes flags_new)

  pub left_seen : Seen codes seen
  left_seen = rw e (seen_all codes)

  -- where it saw no type 3, the signs aren't asked
  pub signs_free : (day : List ℕ) → get_or seen 3 0 ≡ 0 → days_fit [] codes ≡ days_fit day codes
  unfolding days_fit three_with_other
  signs_free day z = rw (no_three (has_type 3 codes) (sym z ∙ left_seen.types 3 (omega arith) (omega arith)))
    where
      no_three : (t : Bool) → ◌≡◌ {A = ℕ} 0 (bit t) → t ≡ false
      no_three true h = absurd (omega arith)
      no_three false h = refl

module _ (d : ℕ) (codes : List Fields) (held : List ℕ) (e : held ≡ held_behind d (replicate 9 0) codes) where
  pub held_flags : Flags held
  held_flags = rw e (flags_held d (replicate 9 0) codes flags_new)

  pub left_held : Held d codes held
  left_held = rw e (held_all d codes)
