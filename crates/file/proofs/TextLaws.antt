-- Laws of `goes` and `plain_run`: what one byte says of those that are left, and that skipping plain bytes is going on with them.
use mathlib.Core.Path.{◌≡◌, refl, sym, ap, ◌∙◌}
use mathlib.Core.Bool.{Bool, true, false, not}
use mathlib.Core.List.{List, [], ◌∷◌}
use mathlib.Core.Logic.{◌⊎◌, inl, inr}
use Prim.Native.Nat.{ℕ, suc, ◌+◌, ◌≤◌, ◌<◌}
use native.Mathlib.Numerals.{add-one}
use native.Mathlib.Omega.{arith}
use lib.Dec.{eqb, ltb}
use lib.ListN.{length, get_or, drop, drop_of_length-le, length-drop}
use lib.Seq.{drop-cons, drop-drop}
use borrow.Author.Tests.{eq-eqb, ne_eqb, eqb-true, eqb-false, ltb-true, ltb-false}
use Rattle.laws.specs.Tests.{pick, both, one_of, either, clash, both_left, both_right, never}
use Rattle.file.specs.Bytes.{quote, comma, semicolon, ends, permitted_byte, goes_on, permitted_text, goes, plain, plain_run, class_of, closes, undefined}
use Rattle.file.specs.Reader.{Reached}

-- where a byte isn't the quote, no field ends
pub ends_other : (b : ℕ) (l : List ℕ) → (b ≡ quote → ⊥) → ends (b ∷ l) ≡ false
unfolding ends
ends_other b [] h = refl
ends_other b (x ∷ l) h = rw (ne_eqb b quote h)

-- what ends a field is seen from two bytes
pub ends_two : (a b : ℕ) (l m : List ℕ) → ends (a ∷ b ∷ l) ≡ ends (a ∷ b ∷ m)
unfolding ends
ends_two a b l m = refl

plain_is : (b : ℕ) → plain b ≡ true → (permitted_byte b ≡ true) × (b ≡ quote → ⊥)
unfolding plain
plain_is b h =
    (both_left (permitted_byte b) (not (eqb b quote)) h, λ e. clash (eq-eqb b quote e) (flip (eqb b quote) (both_right (permitted_byte b) (not (eqb b quote)) h)))
  where
    flip : (t : Bool) → not t ≡ true → t ≡ false
    flip true e = sym e
    flip false e = refl

plain_not : (b : ℕ) → plain b ≡ false → (b ≡ quote → ⊥) → permitted_byte b ≡ false
unfolding plain
plain_not b h e = go (permitted_byte b) (rw (ne_eqb b quote e) at h)
  where
    go : (t : Bool) → both t true ≡ false → t ≡ false
    go true e = e
    go false e = refl

-- a text goes on with a plain byte, whatever follows
pub goes_plain : (b : ℕ) (l : List ℕ) → plain b ≡ true → goes (b ∷ l) ≡ suc (goes l)
unfolding goes goes_on
goes_plain b l h = let p = plain_is b h in rw (p.0, ends_other b l p.1)

-- it stops at a byte that is neither plain nor the quote
pub goes_unfit : (b : ℕ) (l : List ℕ) → plain b ≡ false → (b ≡ quote → ⊥) → goes (b ∷ l) ≡ 0
unfolding goes goes_on
goes_unfit b l h e = rw (plain_not b h e)

-- and at a quote exactly where a field ends
pub goes_quote : (l : List ℕ) → ends (quote ∷ l) ≡ false → goes (quote ∷ l) ≡ suc (goes l)
unfolding goes goes_on permitted_byte undefined
goes_quote l h = rw h

pub goes_ends : (b : ℕ) (l : List ℕ) → ends (b ∷ l) ≡ true → goes (b ∷ l) ≡ 0
unfolding goes goes_on
goes_ends b l h = rw h (go (permitted_byte b))
  where
    go : (t : Bool) → pick (both t false) (suc (goes l)) 0 ≡ 0
    go true = refl
    go false = refl

-- to skip plain bytes is to go on with them
pub goes_skip : (l : List ℕ) → goes l ≡ plain_run l + goes (drop (plain_run l) l)
unfolding plain_run
goes_skip [] = omega arith
goes_skip (b ∷ l) =
    either (plain b)
    (λ h. rw h (goes_plain b l h ∙ omega (arith, goes_skip l)))
    (λ h. rw h (omega arith))

pub goes_within : (l : List ℕ) → goes l ≤ length l
unfolding goes
goes_within [] = omega arith
goes_within (b ∷ l) = either (goes_on (b ∷ l)) (λ h. rw h (omega (arith, goes_within l))) (λ h. rw h (omega arith))

-- a permitted text is one that goes on to its end
pub permitted_goes : (t : List ℕ) → permitted_text t ≡ eqb (goes t) (length t)
unfolding permitted_text goes
permitted_goes [] = refl
permitted_goes (b ∷ t) =
    either (goes_on (b ∷ t))
    (λ h. rw h (permitted_goes t ∙ both_sides (goes t) (length t)))
    (λ h. rw h (sym (ne_eqb 0 (suc (length t)) (λ e. omega arith))))
  where
    both_sides : (m n : ℕ) → eqb m n ≡ eqb (suc m) (suc n)
    both_sides m n =
        either (eqb m n)
        (λ h. h ∙ sym (eq-eqb (suc m) (suc n) (ap suc (eqb-true m n h))))
        (λ h. h ∙ sym (ne_eqb (suc m) (suc n) (λ e. eqb-false m n h (omega arith))))

-- the same at a place of a file
module _ (s : List ℕ) (i : ℕ) (h : i < length s) where
  pub run_plain : plain (get_or s i 0) ≡ true → plain_run (drop i s) ≡ suc (plain_run (drop (i + 1) s))
  unfolding plain_run
  run_plain p = rw (add-one, drop-cons s i 0, p)

  pub run_stops : plain (get_or s i 0) ≡ false → plain_run (drop i s) ≡ 0
  unfolding plain_run
  run_stops p = rw (drop-cons s i 0, p)

  pub stops_here : plain_run (drop i s) ≡ 0 → plain (get_or s i 0) ≡ false
  unfolding plain_run
  stops_here p =
      let q = rw (drop-cons s i 0 h) at p in
      either (plain (get_or s i 0)) (λ t. absurd (let z = rw t at q in omega arith)) (λ t. t)

  pub text_unfit : plain_run (drop i s) ≡ 0 → (get_or s i 0 ≡ quote → ⊥) → goes (drop i s) ≡ 0
  text_unfit p q = rw (drop-cons s i 0) (goes_unfit _ _ (stops_here p) q)

  pub text_quote : get_or s i 0 ≡ quote → ends (drop i s) ≡ false → goes (drop i s) ≡ suc (goes (drop (i + 1) s))
  text_quote q e =
      let d : drop i s ≡ quote ∷ drop (i + 1) s = rw (add-one, drop-cons s i 0, q) in
      rw d (goes_quote _ (rw d at e))

  pub text_ends : ends (drop i s) ≡ true → goes (drop i s) ≡ 0
  text_ends e = rw (drop-cons s i 0) (goes_ends _ _ (rw (drop-cons s i 0 h) at e))

pub run_end : (s : List ℕ) (i : ℕ) → length s ≤ i → plain_run (drop i s) ≡ 0
unfolding plain_run
run_end s i h = rw (drop_of_length-le s h)

pub goes_end : (s : List ℕ) (i : ℕ) → length s ≤ i → goes (drop i s) ≡ 0
unfolding goes
goes_end s i h = rw (drop_of_length-le s h)

no_plain_left : (l : List ℕ) → plain_run (drop (plain_run l) l) ≡ 0
unfolding plain_run
no_plain_left [] = refl
no_plain_left (b ∷ l) = either (plain b) (λ h. rw h (no_plain_left l)) (λ h. rw h (rw h))

-- a skip from i to j leaves the text's end where it was, and no plain byte at j
pub skipped : (s : List ℕ) (i j : ℕ) → j ≡ i + plain_run (drop i s) → (i + goes (drop i s) ≡ j + goes (drop j s)) × (plain_run (drop j s) ≡ 0)
skipped s i j e =
    let d : drop (plain_run (drop i s)) (drop i s) ≡ drop j s = rw (drop-drop, ← e) in
    (omega (arith, rw d at (goes_skip (drop i s))), rw d at (no_plain_left (drop i s)))

-- what ends a field, at a place of a file, by the byte there and the next
module _ (s : List ℕ) (i : ℕ) (h : i < length s) where
  pub ends_no_quote : (get_or s i 0 ≡ quote → ⊥) → ends (drop i s) ≡ false
  ends_no_quote e = rw (drop-cons s i 0) (ends_other _ _ e)

  pub ends_no_next : length s ≤ i + 1 → ends (drop i s) ≡ false
  unfolding ends
  ends_no_next e =
      let g : length s ≤ suc i = omega arith in
      let d : drop (suc i) s ≡ [] = drop_of_length-le s g in
      rw (drop-cons s i 0, d)

  pub ends_next : get_or s i 0 ≡ quote → i + 1 < length s → ends (drop i s) ≡ one_of (eqb (get_or s (i + 1) 0) comma) (eqb (get_or s (i + 1) 0) semicolon)
  unfolding ends
  ends_next q l =
      let d : drop (suc i) s ≡ get_or s (i + 1) 0 ∷ drop (suc (i + 1)) s = rw (← add-one i) (drop-cons s (i + 1) 0 l) in
      rw (drop-cons s i 0, d, q)

-- which bytes follow a quote that ends a field
module _ (s : List ℕ) (i : ℕ) (h : i < length s) (q : get_or s i 0 ≡ quote) (l : i + 1 < length s) where
  pub ends_followed : ((get_or s (i + 1) 0 ≡ comma) ⊎ (get_or s (i + 1) 0 ≡ semicolon)) → ends (drop i s) ≡ true
  ends_followed f = ends_next s i h q l ∙ go (get_or s (i + 1) 0) f
    where
      go : (b : ℕ) → ((b ≡ comma) ⊎ (b ≡ semicolon)) → one_of (eqb b comma) (eqb b semicolon) ≡ true
      go b (inl e) = rw (eq-eqb b comma e)
      go b (inr e) = rw e

  pub ends_unfollowed : ((get_or s (i + 1) 0 ≡ comma) ⊎ (get_or s (i + 1) 0 ≡ semicolon) → ⊥) → ends (drop i s) ≡ false
  ends_unfollowed f =
      ends_next s i h q l ∙ rw (ne_eqb (get_or s (i + 1) 0) comma (λ e. f (inl e)), ne_eqb (get_or s (i + 1) 0) semicolon (λ e. f (inr e)))

-- what the class of a byte says of it
pub class_plain : (b : ℕ) → class_of b ≡ 46 → plain b ≡ true
unfolding class_of
class_plain b e = either (plain b) (λ h. h) (λ h. absurd (let z = rw h at e in omega arith))

pub class_other : (b : ℕ) → (class_of b ≡ 46 → ⊥) → plain b ≡ false
unfolding class_of
class_other b e = either (plain b) (λ h. absurd (e (rw h))) (λ h. h)

-- where a text stops, and where its closing leads
pub closes_at : (s : List ℕ) (at i : ℕ) → i ≡ at + goes (drop at s) → at + closes (drop at s) ≡ i + pick (ends (drop i s)) 1 0
unfolding closes
closes_at s at i e =
    let d : drop (goes (drop at s)) (drop at s) ≡ drop i s = rw (drop-drop, ← e) in
    rw d (omega arith)

no_ends : (l : List ℕ) → length l ≤ 1 → ends l ≡ true → ⊥
unfolding ends
no_ends [] h e = never e
no_ends (a ∷ []) h e = never e
no_ends (a ∷ b ∷ l) h e = omega arith

-- a field that ends takes two bytes
pub ends_within : (s : List ℕ) (i : ℕ) → ends (drop i s) ≡ true → i + 1 < length s
ends_within s i h =
    let d = length-drop i s in
    either (ltb (i + 1) (length s))
    (λ t. ltb-true (i + 1) (length s) t)
    (λ t. absurd (no_ends (drop i s) (omega (arith, ltb-false (i + 1) (length s) t)) h))

-- the text from `at` on stops where the text from i on stops, and no plain byte stands at i: what a loop that skips plain bytes keeps
pub record TextFrom (s : List ℕ) (at i : ℕ) : Type 0 where
  pub near : i ≤ length s
  pub same : i + goes (drop i s) ≡ at + goes (drop at s)
  pub bare : plain_run (drop i s) ≡ 0

pub from_skip : (s : List ℕ) (at r : ℕ) → Reached s at (plain_run (drop at s)) r → TextFrom s at r
from_skip s at r h = let k = skipped s at r h.place in record { near = h.near; same = sym k.0; bare = k.1 }

module _ (s : List ℕ) (at i : ℕ) (f : TextFrom s at i) where
  pub from_end : length s ≤ i → i ≡ at + goes (drop at s)
  from_end h = omega (arith, f.same, goes_end s i h)

  pub from_unfit : i < length s → (get_or s i 0 ≡ quote → ⊥) → i ≡ at + goes (drop at s)
  from_unfit h q = omega (arith, f.same, text_unfit s i h f.bare q)

  pub from_ends : i < length s → ends (drop i s) ≡ true → i ≡ at + goes (drop at s)
  from_ends h e = omega (arith, f.same, text_ends s i h e)

  pub from_quote : i < length s → get_or s i 0 ≡ quote → ends (drop i s) ≡ false → (r : ℕ) → Reached s (i + 1) (plain_run (drop (i + 1) s)) r → TextFrom s at r
  from_quote h q e r k =
      let n = from_skip s (i + 1) r k in
      record { near = n.near; same = omega (arith, n.same, f.same, text_quote s i h q e); bare = n.bare }

-- what the closing leads to, by whether a field ends where the text stops
pub closes_unfit : (s : List ℕ) (at i : ℕ) → i ≡ at + goes (drop at s) → ends (drop i s) ≡ false → i ≡ at + closes (drop at s)
closes_unfit s at i e h = let k = rw h at (closes_at s at i e) in omega arith

pub closes_ends : (s : List ℕ) (at i : ℕ) → i ≡ at + goes (drop at s) → ends (drop i s) ≡ true → i + 1 ≡ at + closes (drop at s)
closes_ends s at i e h = let k = rw h at (closes_at s at i e) in omega arith

-- where a text stops, a field ends exactly if a quote stands there
pub stopped : (s : List ℕ) (i : ℕ) → i < length s → goes (drop i s) ≡ 0 → get_or s i 0 ≡ quote → ends (drop i s) ≡ true
stopped s i h e q =
    either (ends (drop i s)) (λ t. t) (λ t. absurd (let z = text_quote s i h q t in omega arith))

goes_stop : (l : List ℕ) → goes (drop (goes l) l) ≡ 0
unfolding goes
goes_stop [] = refl
goes_stop (b ∷ l) = either (goes_on (b ∷ l)) (λ h. rw h (goes_stop l)) (λ h. rw h (rw h))

pub stops_at : (s : List ℕ) (at i : ℕ) → i ≡ at + goes (drop at s) → goes (drop i s) ≡ 0
stops_at s at i e =
    let d : drop (goes (drop at s)) (drop at s) ≡ drop i s = rw (drop-drop, ← e) in
    rw d at (goes_stop (drop at s))

pub ends_past : (s : List ℕ) (i : ℕ) → length s ≤ i → ends (drop i s) ≡ false
unfolding ends
ends_past s i h = rw (drop_of_length-le s h)
