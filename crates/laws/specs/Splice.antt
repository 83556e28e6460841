-- The algebra of laying bytes over a list: what a writer leaves in a lent buffer. Two lays side by side are one; a part that was lent
-- from a place on comes back with what was laid at its front.
use Rattle.std.specs.Prelude.{◌≡◌, List, [], ◌∷◌, ◌++◌, ℕ, ◌+◌, ◌-◌, ◌≤◌, ◌<◌, get_or, length, take, drop, set}
use Rattle.std.proofs.Common.{sym, ap, ◌∙◌, append_assoc, append-nil, add_assoc, add-zero, zero-add, add-one, arith, length-append, length-drop, take-append-drop, drop_of_length-le, take-suc, take_at, drop_at, drop-drop, length-take-le, take_all}
use borrow.Rule.Slice.PartMut.{mid_of, put_mid}
use Rattle.std.proofs.lemmas.List.{set_split}

-- d with bs laid over it from `at` on
unfoldable pub splice : List ℕ → ℕ → List ℕ → List ℕ
splice d at bs = take at d ++ (bs ++ drop (at + length bs) d)

pub store : (d : List ℕ) (at b : ℕ) → at < length d → set d at b ≡ splice d at (b ∷ [])
unfolding splice
store d at b h = rw (add-one, set_split)

pub splice_none : (d : List ℕ) (at : ℕ) → splice d at [] ≡ d
unfolding splice
splice_none d at = rw (add-zero, take-append-drop)

pub splice_length : (d : List ℕ) (at : ℕ) (bs : List ℕ) → at + length bs ≤ length d → length (splice d at bs) ≡ length d
unfolding splice
splice_length d at bs h = simp (length-append, length-drop) (omega (arith, length-take-le at d (omega arith)))

seam : (p r b : List ℕ) (n : ℕ) → length p ≡ n → take n (p ++ r) ++ (b ++ drop (n + length b) (p ++ r)) ≡ p ++ (b ++ drop (length b) r)
seam p r b n e = rw (← drop-drop (length b) n (p ++ r), take_at p r n e, drop_at p r n e)

-- laid, and then on
pub splice_then : (d : List ℕ) (at : ℕ) (a b : List ℕ) (n : ℕ) → n ≡ at + length a → n ≤ length d → splice (splice d at a) n b ≡ splice d at (a ++ b)
unfolding splice
splice_then d at a b n e h =
    let k : length (take at d ++ a) ≡ n = simp length-append (omega (arith, length-take-le at d (omega arith))) in
    rw (← append_assoc (take at d) a (drop (at + length a) d))
    (seam (take at d ++ a) (drop (at + length a) d) b n k ∙ simp (append_assoc, drop-drop, length-append, add_assoc))

-- a part that was lent from `at` on, in which bs were laid at the front
pub splice_part : (d : List ℕ) (at : ℕ) (bs : List ℕ) → at ≤ length d → take at d ++ splice (drop at d) 0 bs ≡ splice d at bs
unfolding splice
splice_part d at bs h = simp (drop-drop, zero-add)

-- a turn of a copying loop
pub copy_step : (d : List ℕ) (at : ℕ) (t : List ℕ) (i : ℕ) → at + length t ≤ length d → i < length t
    → set (splice d at (take i t)) (at + i) (get_or t i 0) ≡ splice d at (take (i + 1) t)
copy_step d at t i h k =
    let n : length (take i t) ≡ i = length-take-le i t (omega arith) in
    let f : at + i < length (splice d at (take i t)) = omega (arith, splice_length d at (take i t) (omega arith)) in
    store _ _ _ f
    ∙ splice_then d at (take i t) (get_or t i 0 ∷ []) (at + i) (ap (λ (m : ℕ). at + m) (sym n)) (omega arith)
    ∙ rw (add-one, take-suc t i 0)

-- what the checker says of a part from `at` to the end: it is the rest of the list, and comes back behind the front
pub mid_all : (d : List ℕ) (at : ℕ) → mid_of at (length d - at) d ≡ drop at d
mid_all d at = take_all (length d - at) (drop at d) (simp length-drop (omega arith))

pub put_all : (d : List ℕ) (at : ℕ) (ys : List ℕ) → put_mid at (length d - at) d ys ≡ take at d ++ ys
put_all d at ys =
    let h : length (drop at d) ≤ length d - at = simp length-drop (omega arith) in
    rw (drop_of_length-le (drop at d) h, append-nil)

-- bs laid at the front of the part that was lent from `at` on: so they are in the whole
pub laid_part : (d : List ℕ) (at : ℕ) (bs : List ℕ) → at ≤ length d → put_mid at (length d - at) d (splice (mid_of at (length d - at) d) 0 bs) ≡ splice d at bs
laid_part d at bs h = rw (put_all d at _, mid_all d at) (splice_part d at bs h)
