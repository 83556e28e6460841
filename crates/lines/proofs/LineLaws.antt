-- Laws of a legal file's lines: LF stands at record ends alone, so the place behind an LF is where a record starts, or the file's end.
use mathlib.Core.Path.{◌≡◌, refl, sym, ap, ◌∙◌}
use mathlib.Core.Bool.{true, false, not}
use mathlib.Core.List.{List, [], ◌∷◌, ◌++◌, append_assoc}
use Prim.Native.Nat.{ℕ, zero, suc, ◌+◌, ◌-◌, ◌*◌, ◌≤◌, ◌<◌}
use native.Mathlib.Numerals.{add-one}
use native.Mathlib.Omega.{arith}
use lib.Dec.{ltb}
use lib.ListN.{length, get_or, drop, drop_of_length-le, length-append, length-drop}
use lib.Seq.{drop-cons, drop-drop, drop_at, drop-append-add}
use borrow.Author.Tests.{eq-eqb, ne_eqb, ltb-true, ltb-false}
use Rattle.laws.specs.Tests.{either, never, both_left, both_right}
use Rattle.file.specs.Bytes.{quote, comma, semicolon, CR, LF, ends, undefined, permitted_byte, goes_on, permitted_text}
use Rattle.file.specs.Format.{Text, Fields, written_field, written_record, written, PermittedTexts, PermittedRecord, Permitted}
use Rattle.file.specs.Reading.{reading}
use Rattle.file.specs.Records.{records_by, records_in}
use Rattle.file.specs.declared.Outcome.{Outcome}
use Rattle.file.specs.declared.Outcome.TheVariants.{Whole, Unfit, CutShort}
use Rattle.file.specs.Places.{opened}
use Rattle.file.proofs.PlaceLaws.{read_count}
use Rattle.file.proofs.ReadBack.{size_field}
use Rattle.walk.proofs.StartLaws.{size_record}
use Rattle.file.proofs.RecordLaws.{legible, written_records}
use Rattle.walk.specs.Walk.{LegalFrom, RecordAt, Cuts, cut_record}
use Rattle.walk.proofs.WalkLaws.{none_left, first_record}
use Rattle.lines.specs.Lines.{lead, behind, Place, Next}

-- `lead` at a place, by the byte there
pub lead_hit : (s : List ℕ) (i : ℕ) → i < length s → get_or s i 0 ≡ 10 → lead (drop i s) ≡ 0
unfolding lead
lead_hit s i h e = rw (drop-cons s i 0, eq-eqb _ _ e)

pub lead_miss : (s : List ℕ) (i : ℕ) → i < length s → (get_or s i 0 ≡ 10 → ⊥) → lead (drop i s) ≡ suc (lead (drop (i + 1) s))
unfolding lead
lead_miss s i h e = rw (add-one, drop-cons s i 0, ne_eqb _ _ e)

pub lead_end : (s : List ℕ) (i : ℕ) → length s ≤ i → lead (drop i s) ≡ 0
unfolding lead
lead_end s i h = rw (drop_of_length-le s h)

-- four bytes that aren't LF
pub lead_four : (s : List ℕ) (i : ℕ) → i + 4 ≤ length s → (get_or s i 0 ≡ 10 → ⊥) → (get_or s (i + 1) 0 ≡ 10 → ⊥) → (get_or s (i + 2) 0 ≡ 10 → ⊥)
    → (get_or s (i + 3) 0 ≡ 10 → ⊥) → lead (drop i s) ≡ 4 + lead (drop (i + 4) s)
lead_four s i h a b c d =
    let to : (j k : ℕ) → j + 1 ≡ k → j < length s → (get_or s j 0 ≡ 10 → ⊥) → lead (drop j s) ≡ suc (lead (drop k s)) =
    λ j k e l m. rw e at (lead_miss s j l m) in
    omega (
      arith,
      lead_miss s i (omega arith) a,
      to (i + 1) (i + 2) (omega arith) (omega arith) b,
      to (i + 2) (i + 3) (omega arith) (omega arith) c,
      to (i + 3) (i + 4) (omega arith) (omega arith) d,
    )

-- bytes with no LF among them
unfoldable Plain : List ℕ → Type 0
Plain [] = Unit
Plain (b ∷ l) = (b ≡ 10 → ⊥) × Plain l

plain_append : (a b : List ℕ) → Plain a → Plain b → Plain (a ++ b)
unfolding Plain
plain_append [] b p q = q
plain_append (x ∷ a) b p q = (p.0, plain_append a b p.1 q)

-- no permitted byte is LF
plain_byte : (b : ℕ) → permitted_byte b ≡ true → b ≡ 10 → ⊥
unfolding permitted_byte undefined
plain_byte b p e = never (rw e at p)

plain_text : (t : Text) → permitted_text t ≡ true → Plain t
unfolding Plain permitted_text goes_on
plain_text [] p = tt
plain_text (b ∷ t) p =
    let g = both_left (goes_on (b ∷ t)) (permitted_text t) p in
    let q = both_right (goes_on (b ∷ t)) (permitted_text t) p in
    (plain_byte b (both_left (permitted_byte b) (not (ends (b ∷ t))) g), plain_text t q)

-- a record without the LF that ends it
unfoldable body : Fields → List ℕ
body [] = []
body (t ∷ []) = quote ∷ (t ++ quote ∷ semicolon ∷ CR ∷ [])
body (t ∷ u ∷ ts) = written_field false t ++ body (u ∷ ts)

-- no LF stands in it
plain_body : (r : Fields) → PermittedTexts r → Plain (body r)
unfolding body written_field PermittedTexts Plain
plain_body [] p = tt
plain_body (t ∷ []) p =
    let close : Plain (quote ∷ semicolon ∷ CR ∷ []) = ((λ e. omega arith), ((λ e. omega arith), ((λ e. omega arith), tt))) in
    ((λ e. omega arith), plain_append t (quote ∷ semicolon ∷ CR ∷ []) (plain_text t p.0) close)
plain_body (t ∷ u ∷ ts) p =
    let close : Plain (quote ∷ comma ∷ []) = ((λ e. omega arith), ((λ e. omega arith), tt)) in
    let f : Plain (written_field false t) = ((λ e. omega arith), plain_append t (quote ∷ comma ∷ []) (plain_text t p.0) close) in
    plain_append (written_field false t) (body (u ∷ ts)) f (plain_body (u ∷ ts) p.1)

-- an LF ends it
record_body : (r : Fields) (rest : List ℕ) → 1 ≤ length r → written_record r ++ rest ≡ body r ++ LF ∷ rest
unfolding body written_field written_record
record_body [] rest h = absurd (omega arith)
record_body (t ∷ []) rest h = simp append_assoc
record_body (t ∷ u ∷ ts) rest h =
    let f = written_field false t in
    append_assoc f (written_record (u ∷ ts)) rest
    ∙ ap (λ (l : List ℕ). f ++ l) (record_body (u ∷ ts) rest (omega arith))
    ∙ sym (append_assoc f (body (u ∷ ts)) (LF ∷ rest))

size_body : (r : Fields) → 1 ≤ length r → length (written_record r) ≡ length (body r) + 1
size_body r h =
    let a = length-append (written_record r) [] in
    let b = length-append (body r) (LF ∷ []) in
    omega (arith, a, b, ap length (record_body r [] h))

-- from anywhere in a line, its LF comes next
lead_plain : (a rest : List ℕ) (k : ℕ) → Plain a → k ≤ length a → k + lead (drop k (a ++ LF ∷ rest)) ≡ length a
unfolding Plain lead
lead_plain [] rest zero p h = refl
lead_plain [] rest (suc k) p h = absurd (omega arith)
lead_plain (b ∷ a) rest zero p h = rw (ne_eqb b 10 p.0) (omega (arith, lead_plain a rest 0 p.1 (omega arith)))
lead_plain (b ∷ a) rest (suc k) p h = omega (arith, lead_plain a rest k p.1 (omega arith))

-- from anywhere in a record, the LF behind it comes next
lead_record : (r : Fields) (rest : List ℕ) (k : ℕ) → 1 ≤ length r → PermittedTexts r → k < length (written_record r)
    → k + lead (drop k (written_record r ++ rest)) + 1 ≡ length (written_record r)
lead_record r rest k h p l =
    let z = size_body r h in
    rw (record_body r rest h) (omega (arith, z, lead_plain (body r) rest k (plain_body r p) (omega arith)))

-- the writing of two lists, one behind the other
written_append : (a b : List Fields) → written (a ++ b) ≡ written a ++ written b
unfolding written
written_append [] b = refl
written_append (r ∷ a) b = rw (written_append a b) (sym (append_assoc (written_record r) (written a) (written b)))

permitted_tail : (n : ℕ) (a b : List Fields) → Permitted n (a ++ b) → Permitted n b
unfolding Permitted
permitted_tail n [] b p = p
permitted_tail n (r ∷ a) b p = permitted_tail n a b p.1

-- how many bytes records take, and one more
pub size_append : (a b : List Fields) → length (written (a ++ b)) ≡ length (written a) + length (written b)
size_append a b = ap length (written_append a b) ∙ length-append (written a) (written b)

pub size_cons : (r : Fields) (rs : List Fields) → length (written (r ∷ rs)) ≡ length (written_record r) + length (written rs)
unfolding written
size_cons r rs = length-append (written_record r) (written rs)

pub size_one : (r : Fields) → length (written (r ∷ [])) ≡ length (written_record r)
unfolding written
size_one r = omega (arith, size_cons r [])

-- records that stand from a place on lead to the next one behind them
pub record Onward (n : ℕ) (s : List ℕ) (at : ℕ) (rest : List Fields) : Type 0 where
  pub place : Place n s at
  pub left : records_in n (drop at s) ≡ rest

pub place_on : (n : ℕ) (s : List ℕ) (lo : ℕ) → Place n s lo → (a b : List Fields) → records_in n (drop lo s) ≡ a ++ b
    → (t : ℕ) → t ≡ lo + length (written a) → Onward n s t b
place_on n s lo p a b e t z =
    let some = p.legal.reads.some in
    let l = legible n (drop lo s) p.legal.count p.legal.reads in
    let q : Permitted n b = permitted_tail n a b (rw e at l.permitted) in
    let w : drop lo s ≡ written a ++ written b = sym l.bytes ∙ ap written e ∙ written_append a b in
    let d : drop t s ≡ written b = rw (z, ← drop-drop (length (written a)) lo s, w) (drop_at (written a) (written b) (length (written a)) refl) in
    let left : records_in n (drop t s) ≡ b = rw (d, written_records n some b q) in
    let f : records_in n (drop lo s) ≡ a ++ records_in n (drop t s) = e ∙ ap (λ (x : List Fields). a ++ x) (sym left) in
    record {
      place = record {
        past = p.past ++ a;
        whole = p.whole ∙ ap (λ (x : List Fields). p.past ++ x) f ∙ sym (append_assoc p.past a (records_in n (drop t s)));
        size = size_append p.past a ∙ omega (arith, p.size);
        legal = record { count = length b; reads = record { some = some; whole = rw d (read_count n some b q) } };
        near = omega (arith, p.near, length-drop lo s, ap length w, length-append (written a) (written b));
      };
      left = left;
    }

-- a legal file's start is a place
pub place_start : (n : ℕ) (s : List ℕ) → LegalFrom n s 0 → Place n s 0
unfolding written
place_start n s h = record { past = []; whole = refl; size = refl; legal = h; near = omega arith }

-- at the end no records are left
pub none_at : (n : ℕ) (s : List ℕ) (at : ℕ) → Place n s at → length s ≤ at → records_in n (drop at s) ≡ []
none_at n s at p h = none_left n s at h

-- where bytes are left, a record starts
pub record_at_lem : (n : ℕ) (s : List ℕ) (at : ℕ) → Place n s at → at < length s → n ≤ 13 → RecordAt n s at
record_at_lem n s at p h r = record { legal = p.legal; more = h; room = r }

-- the record that stands first from `at` on
record Opens (n : ℕ) (s : List ℕ) (at : ℕ) (r : Fields) : Type 0 where
  rs : List Fields
  records : records_in n (drop at s) ≡ r ∷ rs
  here : drop at s ≡ written_record r ++ written rs
  shape : length r ≡ n
  texts : PermittedTexts r

opens : (n : ℕ) (s : List ℕ) (at : ℕ) → Place n s at → at < length s → Opens n s at (get_or (records_in n (drop at s)) 0 [])
unfolding written Permitted
opens n s at p h =
    let l = legible n (drop at s) p.legal.count p.legal.reads in
    go (records_in n (drop at s)) refl l.permitted l.bytes
  where
    go : (qs : List Fields) → records_in n (drop at s) ≡ qs → Permitted n qs → written qs ≡ drop at s → Opens n s at (get_or qs 0 [])
    go [] e q w = absurd (omega (arith, ap length w, length-drop at s))
    go (r ∷ rs) e q w = record { rs = rs; records = e; here = sym w; shape = q.0.0; texts = q.0.1 }

-- the place behind the next LF is the place behind the record
pub next_line : (n : ℕ) (s : List ℕ) (at : ℕ) → Place n s at → at < length s → (r : ℕ) → r ≡ behind s at
    → Next n s at (get_or (records_in n (drop at s)) 0 []) r
next_line n s at p h r e =
    let first = get_or (records_in n (drop at s)) 0 [] in
    let o = opens n s at p h in
    let some : 1 ≤ length first = omega (arith, p.legal.reads.some, o.shape) in
    let far : 0 < length (written_record first) = omega (arith, size_body first some) in
    let v = ap lead o.here in
    let l : lead (drop at s) + 1 ≡ length (written_record first) = omega (arith, lead_record first (written o.rs) 0 some o.texts far) in
    let z : r ≡ at + length (written_record first) = omega arith in
    let w = place_on n s at p (first ∷ []) o.rs o.records r (omega (arith, size_one first)) in
    record { rest = o.records ∙ ap (λ (x : List Fields). first ∷ x) (sym w.left); size = z; place = w.place }

-- the same with no place behind it at hand
pub next_at : (n : ℕ) (s : List ℕ) (at : ℕ) → Place n s at → at < length s → Next n s at (first_record n s at) (behind s at)
next_at n s at p h = next_line n s at p h (behind s at) refl

-- a record that was cut, and the place behind it
pub cut_next : (n : ℕ) (s : List ℕ) (at : ℕ) (old places : List ℕ) (next : ℕ) → Place n s at → Cuts n s at old places next
    → Next n s at (cut_record n s places) next
cut_next n s at old places next p c =
    let r = cut_record n s places in
    let l = legible n (drop at s) p.legal.count p.legal.reads in
    let m = legible n (drop next s) c.legal.count c.legal.reads in
    let a = ap (λ (x : List Fields). length (written x)) c.rest in
    let z : next ≡ at + length (written_record r) =
    omega (arith, a, size_cons r (records_in n (drop next s)), ap length l.bytes, ap length m.bytes, length-drop at s, length-drop next s) in
    let w = place_on n s at p (r ∷ []) (records_in n (drop next s)) c.rest next (omega (arith, z, size_one r)) in
    record { rest = c.rest; size = z; place = w.place }

-- all records of a file are permitted: one that is not legal has none
pub all_permitted : (n : ℕ) (s : List ℕ) → 1 ≤ n → Permitted n (records_in n s)
unfolding records_by Permitted
all_permitted n s h = go (reading n s) refl
  where
    go : (o : Outcome) → reading n s ≡ o → Permitted n (records_by n s o)
    go (Whole k) e = rw e at (legible n s k (record { some = h; whole = e })).permitted
    go (Unfit k) e = tt
    go (CutShort k) e = tt

-- a permitted record takes a byte or more
pub record_size : (n : ℕ) (r : Fields) → 1 ≤ n → PermittedRecord n r → 0 < length (written_record r)
record_size n r h p = omega (arith, size_body r (omega (arith, p.0)))

-- the place behind the next LF from byte k on cuts records in two
record Cut (rs : List Fields) (k : ℕ) : Type 0 where
  first : Fields
  more : List Fields
  rest : List Fields
  whole : rs ≡ first ∷ (more ++ rest)
  size : k + lead (drop k (written rs)) + 1 ≡ length (written (first ∷ more))

-- in the first record
cut_here : (r : Fields) (rs : List Fields) (k : ℕ) → 1 ≤ length r → PermittedTexts r → k < length (written_record r) → Cut (r ∷ rs) k
unfolding written
cut_here r rs k h p l = record {
  first = r;
  more = [];
  rest = rs;
  whole = refl;
  size = lead_record r (written rs) k h p l ∙ sym (size_one r);
}

-- behind it
cut_on : (r : Fields) (rs : List Fields) (k j : ℕ) → k ≡ length (written_record r) + j → Cut rs j → Cut (r ∷ rs) k
unfolding written
cut_on r rs k j e c =
    let y : drop k (written_record r ++ written rs) ≡ drop j (written rs) = rw e (drop-append-add (written_record r) (written rs) j) in
    record {
      first = r;
      more = c.first ∷ c.more;
      rest = c.rest;
      whole = ap (λ (x : List Fields). r ∷ x) c.whole;
      size = rw y (omega (arith, size_cons r (c.first ∷ c.more), c.size));
    }

cut : (n : ℕ) → 1 ≤ n → (rs : List Fields) → Permitted n rs → (k : ℕ) → k < length (written rs) → Cut rs k
unfolding written Permitted
cut n some [] p k h = absurd (omega arith)
cut n some (r ∷ rs) p k h =
    let w = length (written_record r) in
    either (ltb k w)
    (λ t. cut_here r rs k (omega (arith, p.0.0)) p.0.1 (ltb-true k w t))
    (λ t.
    let e : k ≡ w + (k - w) = omega (arith, ltb-false k w t) in
    let g : k - w < length (written rs) = omega (arith, size_cons r rs) in
    cut_on r rs k (k - w) e (cut n some rs p.1 (k - w) g))

-- one or more records stand from lo to t, and a record starts at t, or the file ends there
pub record Between (n : ℕ) (s : List ℕ) (lo t : ℕ) : Type 0 where
  pub first : Fields
  pub more : List Fields
  pub rest : records_in n (drop lo s) ≡ first ∷ (more ++ records_in n (drop t s))
  pub size : length (written (first ∷ more)) ≡ t - lo
  pub near : t ≤ length s
  pub place : Place n s t

between : (n : ℕ) (s : List ℕ) (lo t k : ℕ) → Place n s lo → (c : Cut (records_in n (drop lo s)) k) → lo ≤ t
    → t - lo ≡ length (written (c.first ∷ c.more)) → Between n s lo t
between n s lo t k p c h e =
    let w = place_on n s lo p (c.first ∷ c.more) c.rest c.whole t (omega arith) in
    record {
      first = c.first;
      more = c.more;
      rest = c.whole ∙ ap (λ (x : List Fields). c.first ∷ (c.more ++ x)) (sym w.left);
      size = sym e;
      near = w.place.near;
      place = w.place;
    }

-- the place behind the next LF from anywhere on is one where a record starts, or the end
pub line_place : (n : ℕ) (s : List ℕ) (lo m t : ℕ) → Place n s lo → lo ≤ m → m < length s → t ≡ behind s m → Between n s lo t
line_place n s lo m t p h k e =
    let l = legible n (drop lo s) p.legal.count p.legal.reads in
    let d = length-drop lo s in
    let b = ap length l.bytes in
    let c = cut n p.legal.reads.some (records_in n (drop lo s)) l.permitted (m - lo) (omega arith) in
    let f : lo + (m - lo) ≡ m = omega arith in
    let g : drop (m - lo) (written (records_in n (drop lo s))) ≡ drop m s = ap (drop (m - lo)) l.bytes ∙ drop-drop (m - lo) lo s ∙ rw f in
    let v = ap lead g in
    between n s lo t (m - lo) p c (omega arith) (omega (arith, v, c.size))

-- a record starts behind each LF that bytes stand behind
pub start_place : (n : ℕ) (s : List ℕ) (x : ℕ) → LegalFrom n s 0 → 0 < x → x < length s → get_or s (x - 1) 0 ≡ 10 → Place n s x
start_place n s x h p k e =
    let z = lead_hit s (x - 1) (omega arith) e in
    (line_place n s 0 (x - 1) x (place_start n s h) (omega arith) (omega arith) (omega (arith, z))).place

-- a field takes three bytes or more
opened_least : (ts : Fields) → length ts * 3 ≤ length (opened ts)
unfolding opened
opened_least [] = omega arith
opened_least (t ∷ ts) = simp length-append (omega (arith, size_field false t, opened_least ts))

-- from a place before the LF on, the same LF is the next
pub lead_skip : (s : List ℕ) (at d : ℕ) → d ≤ lead (drop at s) → behind s (at + d) ≡ behind s at
lead_skip s at zero h = let e : at + 0 ≡ at = omega arith in rw e
lead_skip s at (suc d) h =
    either (ltb at (length s))
    (λ t.
    let l = ltb-true at (length s) t in
    let m = lead_miss s at l (λ e. omega (arith, lead_hit s at l e)) in
    let e : at + suc d ≡ at + 1 + d = omega arith in
    let i = lead_skip s (at + 1) d (omega arith) in
    rw e (i ∙ (omega arith)))
    (λ t. absurd (omega (arith, lead_end s at (ltb-false at (length s) t))))

-- so the first bytes of a record may be passed over
pub record Skips (n : ℕ) (s : List ℕ) (at : ℕ) : Type 0 where
  pub within : at + (n * 3 + 1) < length s
  pub same : behind s (at + (n * 3 + 1)) ≡ behind s at

pub skips : (n : ℕ) (s : List ℕ) (at : ℕ) → Place n s at → at < length s → Skips n s at
skips n s at p h =
    let first = first_record n s at in
    let o = opens n s at p h in
    let some : 1 ≤ length first = omega (arith, p.legal.reads.some, o.shape) in
    let x = next_at n s at p h in
    let l : n * 3 + 1 ≤ lead (drop at s) = omega (arith, x.size, size_record first some, opened_least first, o.shape) in
    record { within = omega (arith, l, x.place.near); same = lead_skip s at (n * 3 + 1) l }
