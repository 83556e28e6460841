-- A walk goes the way that was made out for its file.
use mathlib.Core.Path.{◌≡◌, subst, sym}
use mathlib.Core.Bool.{Bool}
use mathlib.Core.List.{List}
use Prim.Native.Nat.{ℕ}
use lib.Dec.{eqb}
use lib.ListN.{length}
use Rattle.find.specs.Find.{Serves, Asks}
use Rattle.keys.specs.Keys.{key_fields}
use Rattle.keys.specs.KeyFiles.{PlaceIn}
use Rattle.lookup.specs.Ways.{Way, part_of, how_of, from_of, to_of}

-- what a search asks, by the way to its file
pub way_asks : (file : ℕ) (s order ways : List ℕ) (last count : ℕ) → Way file s order (how_of ways file) (from_of ways file) (to_of ways file) → PlaceIn file s last
    → length (key_fields file) ≡ count → (how : Bool) → how ≡ eqb (how_of ways file) 1 → (part : List ℕ) → part ≡ part_of order (from_of ways file) (to_of ways file)
    → Asks file s how part last count
way_asks file s order ways last count w p n how e part d =
    record {
      serves = subst (λ (x : Bool). Serves file s x part) (sym e) (subst (λ (x : List ℕ). Serves file s (eqb (how_of ways file) 1) x) (sym d) w.serves);
      place = p;
      numbers = n;
    }
