-- The link of a field as one number, its tag: what it asks for, and by which numbers.
use Rattle.std.specs.Prelude.{ℕ, ◌+◌, ◌*◌, ◌<◌, ◌≡◌, Bool, true, [], ◌∷◌, eqb, ltb}
use Rattle.laws.specs.Tests.{pick, both}
use Rattle.file.specs.Format.{Fields}
use Rattle.keys.specs.Keys.{has, none}
use Rattle.link.specs.Links.{link_of}
use Rattle.link.specs.Signs.{sign_of, is_permitted}
use Rattle.link.specs.Stage.{amiss}
use Rattle.link.specs.declared.Link.{Link}
use Rattle.thirteen.specs.Batch.{Batch, records_of}

-- a kind and two numbers below a thousand million as one number
abbrev pub tag : ℕ → ℕ → ℕ → ℕ
tag kind a x = kind * 1000000000000000000 + a * 1000000000 + x

-- there is such a code, and its sign may stand in this file
abbrev pub fitting : Batch → ℕ → ℕ → Bool
fitting b file x = both (has 3 (x ∷ []) (records_of b 3)) (is_permitted file (sign_of b x))

-- What is asked of a batch. Kind 0: nothing. 2, 4 and 5: that file has a record with the key x; 6 and 7: with the key a, x. 3: the code x may
-- stand in file a. 8: the code x, Zasspoje's second, may stand beside the code a, its first.
unfoldable pub fine : Batch → ℕ → ℕ → ℕ → Bool
fine b kind a x =
    pick (eqb kind 0)
    true
    (pick (eqb kind 3)
    (fitting b a x)
    (pick (eqb kind 8)
    (both (fitting b 8 x) (eqb (sign_of b a) (sign_of b x)))
    (pick (ltb kind 6) (has kind (x ∷ []) (records_of b kind)) (has kind (a ∷ x ∷ []) (records_of b kind)))))

-- t is the tag of field f: what it asks of any batch is so exactly if nothing is wrong with the field
pub record Tagged (file f : ℕ) (r : Fields) (t : ℕ) : Type 0 where
  pub kind : ℕ
  pub first : ℕ
  pub number : ℕ
  pub least : first < none
  pub small : number < none
  pub is : t ≡ tag kind first number
  pub means : (b : Batch) → fine b kind first number ≡ eqb (amiss b file r f) 0

-- no field before this one has a link in this file
abbrev pub FreeBefore : ℕ → ℕ → Type 0
FreeBefore file f = (i : ℕ) → i < f → Link.Free ≡ link_of file i
