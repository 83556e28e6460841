-- Laws of a list that a match reads out: what stands at the numbers that no arm names, in a range that an arm names, and past the end. Each
-- is one test that is computed over the list.
use mathlib.Core.Path.{◌≡◌, refl, sym, ap}
use mathlib.Core.Bool.{Bool, true, false}
use mathlib.Core.List.{List, [], ◌∷◌}
use Prim.Native.Nat.{ℕ, zero, suc, ◌≤◌, ◌<◌}
use native.Mathlib.Omega.{arith}
use lib.Dec.{T, eqb, ltb, leb, leb→le}
use lib.ListN.{length, get_or, get_or-eq_default}
use borrow.Author.Tests.{eq-eqb, ne_eqb, eqb-true, eqb-false, le-ltb, ltb-true, ltb-false}
use Rattle.std.specs.Prelude.{◌||◌}
use Rattle.std.specs.List.{list_any}
use Rattle.laws.specs.Tests.{one_of, either}
use Rattle.laws.specs.Below.{all, below}
use Rattle.file.specs.Files.{field_counts, fields_of}
use Rattle.link.specs.Links.{zastavky, linky, spoje, zaslinky, zasspoje, udaje, caskody, altdop, altlinky, mistenky, links, links_in, link_of}
use Rattle.link.specs.Signs.{is_in, permitted_signs, is_permitted}
use Rattle.link.specs.declared.Link.{Link}

-- f is one of these numbers
abbrev pub named : List ℕ → ℕ → Bool
named [] f = false
named (n ∷ ns) f = one_of (eqb f n) (named ns f)

-- f is none of them, as the rest of a match says it: its last arm's number first
abbrev pub Others : List ℕ → ℕ → Type 0
Others [] f = Unit
Others (n ∷ ns) f = Others ns f × (f ≡ n → ⊥)

unnamed : (ns : List ℕ) (f : ℕ) → Others ns f → named ns f ≡ false
unnamed [] f o = refl
unnamed (n ∷ ns) f o = rw (ne_eqb f n o.1) (unnamed ns f o.0)

-- the test of a list's member i, unless i is below `lo` or named
abbrev pub member : {A : Type 0} → (A → Bool) → List A → A → List ℕ → ℕ → ℕ → Bool
member is l d ns lo i = one_of (ltb i lo) (one_of (named ns i) (is (get_or l i d)))

-- it holds where it holds of all
pub between : {A : Type 0} (is : A → Bool) (l : List A) (d : A) (ns : List ℕ) (lo hi : ℕ) → T (all hi (member is l d ns lo))
    → (f : ℕ) → lo ≤ f → f < hi → Others ns f → T (is (get_or l f d))
between is l d ns lo hi t f p q o =
    rw (le-ltb f lo p, unnamed ns f o) at (below hi (member is l d ns lo) t f q)

-- past the end stands what stands in no list
pub anywhere : {A : Type 0} (is : A → Bool) (l : List A) (d : A) (ns : List ℕ) → T (is d) → T (all (length l) (member is l d ns 0))
    → (f : ℕ) → Others ns f → T (is (get_or l f d))
anywhere is l d ns z t f o =
    either (ltb f (length l))
    (λ e. between is l d ns 0 (length l) t f (omega arith) (ltb-true _ _ e) o)
    (λ e. rw (get_or-eq_default l d (ltb-false _ _ e)) z)

-- the links that are asked for by such tests
abbrev pub is_free : Link → Bool
is_free Link.Free = true
is_free Link.Line = false
is_free Link.Stop = false
is_free Link.Carrier = false
is_free Link.Trip = false
is_free Link.TripOrZero = false
is_free Link.LineStop = false
is_free Link.Code = false

abbrev pub is_code : Link → Bool
is_code Link.Free = false
is_code Link.Line = false
is_code Link.Stop = false
is_code Link.Carrier = false
is_code Link.Trip = false
is_code Link.TripOrZero = false
is_code Link.LineStop = false
is_code Link.Code = true

free_is : (k : Link) → T (is_free k) → Link.Free ≡ k
free_is Link.Free t = refl
free_is Link.Line t = absurd t
free_is Link.Stop t = absurd t
free_is Link.Carrier t = absurd t
free_is Link.Trip t = absurd t
free_is Link.TripOrZero t = absurd t
free_is Link.LineStop t = absurd t
free_is Link.Code t = absurd t

code_is : (k : Link) → T (is_code k) → Link.Code ≡ k
code_is Link.Free t = absurd t
code_is Link.Line t = absurd t
code_is Link.Stop t = absurd t
code_is Link.Carrier t = absurd t
code_is Link.Trip t = absurd t
code_is Link.TripOrZero t = absurd t
code_is Link.LineStop t = absurd t
code_is Link.Code t = refl

-- the links of one file's fields, from field 1 on
module _ (l : List Link) (ns : List ℕ) where
  -- a code in each field from `lo` on, below `hi`
  pub codes : (lo hi : ℕ) → T (all hi (member is_code (Link.Free ∷ l) Link.Free ns lo))
      → (f : ℕ) → lo ≤ f → f < hi → Others ns f → Link.Code ≡ get_or (Link.Free ∷ l) f Link.Free
  codes lo hi t f p q o = code_is _ (between is_code (Link.Free ∷ l) Link.Free ns lo hi t f p q o)

  -- none below `hi` but at the numbers that arms name
  pub free_below : (hi : ℕ) → T (all hi (member is_free (Link.Free ∷ l) Link.Free ns 0))
      → (f : ℕ) → f < hi → Others ns f → Link.Free ≡ get_or (Link.Free ∷ l) f Link.Free
  free_below hi t f q o = free_is _ (between is_free (Link.Free ∷ l) Link.Free ns 0 hi t f (omega arith) q o)

  -- none but there
  pub free_else : T (all (suc (length l)) (member is_free (Link.Free ∷ l) Link.Free ns 0))
      → (f : ℕ) → Others ns f → Link.Free ≡ get_or (Link.Free ∷ l) f Link.Free
  free_else t f o = free_is _ (anywhere is_free (Link.Free ∷ l) Link.Free ns tt t f o)

-- none past the end
pub free_past : (l : List Link) (f : ℕ) → length l < f → Link.Free ≡ get_or (Link.Free ∷ l) f Link.Free
free_past l f h = sym (get_or-eq_default (Link.Free ∷ l) Link.Free h)

-- the link in a file by the number that the file was found to have
pub in_file : (n f : ℕ) {file : ℕ} → file ≡ n → link_of n f ≡ link_of file f
in_file n f e = rw e

-- an empty list
abbrev is_none : {A : Type 0} → List A → Bool
is_none [] = true
is_none (k ∷ l) = false

-- a file that no arm names has no links
none_at : (l : List Link) → T (is_none l) → (f : ℕ) → Link.Free ≡ get_or (Link.Free ∷ l) f Link.Free
none_at [] t zero = refl
none_at [] t (suc f) = refl
none_at (k ∷ l) t f = absurd t

pub no_file : (file f : ℕ) → Others (13 ∷ 12 ∷ 11 ∷ 10 ∷ 9 ∷ 8 ∷ 7 ∷ 6 ∷ 5 ∷ 2 ∷ []) file → Link.Free ≡ link_of file f
unfolding link_of links
no_file file f o =
    none_at (get_or links file []) (anywhere is_none links [] (13 ∷ 12 ∷ 11 ∷ 10 ∷ 9 ∷ 8 ∷ 7 ∷ 6 ∷ 5 ∷ 2 ∷ []) tt tt file o) f

-- the signs of a file by the number that it was found to have
pub signs_in : (n x : ℕ) {file : ℕ} → file ≡ n → is_permitted n x ≡ is_permitted file x
signs_in n x e = rw e

-- a file that no arm names permits no sign
none_in : (l : List ℕ) → T (is_none l) → (x : ℕ) → false ≡ is_in x l
unfolding is_in
none_in [] t x = refl
none_in (k ∷ l) t x = absurd t

pub no_signs : (file x : ℕ) → Others (11 ∷ 8 ∷ 7 ∷ 6 ∷ 2 ∷ []) file → false ≡ is_permitted file x
unfolding is_permitted permitted_signs
no_signs file x o = none_in (get_or permitted_signs file []) (anywhere is_none permitted_signs [] (11 ∷ 8 ∷ 7 ∷ 6 ∷ 2 ∷ []) tt tt file o) x

swapped : (a b : ℕ) → eqb a b ≡ eqb b a
swapped a b = either (eqb b a) (λ t. rw (t, eq-eqb a b (sym (eqb-true b a t)))) (λ t. rw (t, ne_eqb a b (λ e. eqb-false b a t (sym e))))

-- whether a byte stands in a list, as the library looks for it
pub listed : (x : ℕ) (l : List ℕ) → list_any (λ (y : ℕ). eqb y x) l ≡ is_in x l
unfolding is_in
listed x [] = refl
listed x (y ∷ l) = rw (swapped y x) (go (eqb x y) (listed x l))
  where
    go : (p : Bool) {r s : Bool} → r ≡ s → (p || r) ≡ one_of p s
    go true e = refl
    go false e = e

-- how many fields of a file may have links, by the number that it was found to have; none in a file that no arm names
pub count_in : (n : ℕ) {file : ℕ} → file ≡ n → links_in n ≡ links_in file
count_in n e = rw e

none_size : (l : List Link) → T (is_none l) → 0 ≡ length l
none_size [] t = refl
none_size (k ∷ l) t = absurd t

pub no_count : (file : ℕ) → Others (13 ∷ 12 ∷ 11 ∷ 10 ∷ 9 ∷ 8 ∷ 7 ∷ 6 ∷ 5 ∷ 2 ∷ []) file → 0 ≡ links_in file
unfolding links_in links
no_count file o = none_size (get_or links file []) (anywhere is_none links [] (13 ∷ 12 ∷ 11 ∷ 10 ∷ 9 ∷ 8 ∷ 7 ∷ 6 ∷ 5 ∷ 2 ∷ []) tt tt file o)

-- behind them each field is free
pub free_behind : (file f : ℕ) → links_in file < f → link_of file f ≡ Link.Free
unfolding links_in link_of
free_behind file f h = get_or-eq_default (Link.Free ∷ get_or links file []) Link.Free h

-- no more than a record has fields
few_links : ℕ → Bool
few_links file = leb (links_in file) (fields_of file)

pub links_few : (file : ℕ) → links_in file ≤ fields_of file
unfolding few_links links_in links zastavky linky spoje zaslinky zasspoje udaje caskody altdop altlinky mistenky fields_of field_counts
links_few file =
    either (ltb file 14)
    (λ e. leb→le (links_in file) (fields_of file) (below 14 few_links tt file (ltb-true file 14 e)))
    (λ e. let z : get_or links file [] ≡ [] = get_or-eq_default links [] (ltb-false file 14 e) in omega (arith, ap length z))
