-- A file gone through in the order of its index: each of its records is named by an entry. Where nothing is wrong with any of them, and no two
-- have one key, the file has no fault.
use mathlib.Core.Path.{◌≡◌, refl, sym, ap, subst, ◌∙◌}
use mathlib.Core.Bool.{true}
use mathlib.Core.List.{List, [], ◌∷◌, ◌++◌}
use Prim.Native.Nat.{ℕ, suc, ◌+◌, ◌≤◌, ◌<◌}
use native.Mathlib.Omega.{arith}
use lib.Dec.{ltb}
use lib.ListN.{length, get_or, take, drop}
use lib.Seq.{split_at}
use borrow.Author.Tests.{ltb-true, ltb-false}
use Rattle.laws.specs.Tests.{either}
use Rattle.laws.specs.Numbered.{answered}
use Rattle.file.specs.Files.{fields_of}
use Rattle.file.specs.Format.{Fields, written}
use Rattle.file.specs.Records.{records_in}
use Rattle.walk.specs.Walk.{LegalFrom, RecordAt, Cuts}
use Rattle.walk.proofs.WalkLaws.{cut_first, none_left}
use Rattle.rules.specs.Texts.{texts}
use Rattle.lines.proofs.LineLaws.{place_on, place_start}
use Rattle.lines.proofs.IndexLaws.{place_known}
use Rattle.keys.specs.KeyFiles.{PlaceIn, IsIndex}
use Rattle.keys.specs.Ranks.{IsKeyed, record_at, rank_of}
use Rattle.link.specs.Stage.{field_amiss, link_fault}
use Rattle.link.proofs.FaultLaws.{Clean, fields_none, clean_file}
use Rattle.lookup.specs.Ways.{Lasts, NoneUsed, how_of, from_of, to_of, part_of, apart}
use Rattle.thirteen.specs.Batch.{Batch, file_in, records_of}
use Rattle.amiss.specs.Sound.{OfKind, Known, Record}
use Rattle.amiss.proofs.SoundLaws.{sound_kinds}
use Rattle.amiss.proofs.RecordLaws.{cut_kinded, later}
use Rattle.recall.proofs.FieldLaws.{fields_few}
use Rattle.faulty.proofs.StageLaws.{key_used}

-- where record i of a file starts, and what stands before it
record Nth (file : ℕ) (s : List ℕ) (i at : ℕ) : Type 0 where
  place : PlaceIn file s at
  past : place.past ≡ take i (records_in (fields_of file) s)
  here : record_at file s at ≡ get_or (records_in (fields_of file) s) i []
  more : at < length s

nth : (file : ℕ) (s : List ℕ) → LegalFrom (fields_of file) s 0 → (i : ℕ) → i < length (records_in (fields_of file) s)
    → Nth file s i (length (written (take i (records_in (fields_of file) s))))
nth file s l i h =
    let n = fields_of file in
    let rs = records_in n s in
    let at = length (written (take i rs)) in
    let e = split_at rs i [] h in
    let w = place_on n s 0 (place_start n s l) (take i rs) (get_or rs i [] ∷ drop (suc i) rs) e at (omega arith) in
    record {
      place = record {
        past = take i rs;
        whole = e ∙ ap (λ (x : List Fields). take i rs ++ x) (sym w.left);
        size = refl;
        legal = w.place.legal;
        near = w.place.near;
      };
      past = refl;
      here = ap (λ (x : List Fields). get_or x 0 []) w.left;
      more = either (ltb at (length s))
          (λ t. ltb-true at (length s) t)
          (λ t. absurd (omega (arith, ap length (sym (none_left n s at (ltb-false at (length s) t)) ∙ w.left))));
    }

-- a file whose keys are all different, with nothing wrong in any record
pub fit_records : (b : Batch) (file : ℕ) → IsKeyed file → LegalFrom (fields_of file) (file_in b file) 0 → NoneUsed file (file_in b file)
    → ((i : ℕ) → i < length (records_of b file) → field_amiss b file (get_or (records_of b file) i []) ≡ 0)
    → link_fault b file ≡ answered []
fit_records b file k l once fit = clean_file b file clean
  where
    clean : (i : ℕ) → i < length (records_of b file) → Clean b file (take i (records_of b file)) (get_or (records_of b file) i [])
    clean i h =
        let q = nth file (file_in b file) l i h in
        let past = take i (records_of b file) in
        let r = get_or (records_of b file) i [] in
        let u = rw (q.past, q.here) at (once _ q.place q.more) in
        (key_used file past r k ∙ u, fields_none b file r (fit i h))

-- or in the record at any place
fit_file : (b : Batch) (file : ℕ) → IsKeyed file → LegalFrom (fields_of file) (file_in b file) 0 → NoneUsed file (file_in b file)
    → ((x : ℕ) → PlaceIn file (file_in b file) x → x < length (file_in b file) → field_amiss b file (record_at file (file_in b file) x) ≡ 0)
    → link_fault b file ≡ answered []
fit_file b file k l once fit =
    fit_records b file k l once
    (λ i h.
    let q = nth file (file_in b file) l i h in
    let f : field_amiss b file (get_or (records_of b file) i []) ≡ 0 = rw q.here at (fit _ q.place q.more) in
    f)

-- what is known of a file that is gone through by its index
pub record Hinted (b : Batch) (file : ℕ) (s part : List ℕ) : Type 0 where
  pub keyed : IsKeyed file
  pub same : s ≡ file_in b file
  pub legal : LegalFrom (fields_of file) s 0
  pub index : IsIndex file s part
  pub once : NoneUsed file s

positive : (part : List ℕ) → (length part ≡ 0 → ⊥) → 0 < length part
positive part some = omega (arith, some)

pub hinted : (b : Batch) (file : ℕ) (s order ways last part : List ℕ) → 2 ≤ file → file ≤ 10 → Known b file order ways last
    → s ≡ file_in b file → how_of ways file ≡ 2 → part ≡ part_of order (from_of ways file) (to_of ways file) → (length part ≡ 0 → ⊥) → Hinted b file s part
hinted b file s order ways last part low high q e how d some =
    let w = q.looks.routes file (low, high) in
    let a : apart (how_of ways file) ≡ true = rw how in
    let m : 0 < length (part_of order (from_of ways file) (to_of ways file)) = rw d at (positive part some) in
    record {
      keyed = (low, high);
      same = e;
      legal = rw e w.serves.keyed.legal;
      index = rw (e, d) (w.serves.index m);
      once = rw e (w.once a);
    }

-- nothing is wrong with the records that the entries below i name
abbrev pub Fit : Batch → ℕ → List ℕ → List ℕ → ℕ → Type 0
Fit b file s part i = (j : ℕ) → j < i → field_amiss b file (record_at file s (get_or part j 0)) ≡ 0

-- nor with any, where there are no more entries
pub fit_all : (b : Batch) (file : ℕ) (s part : List ℕ) (i : ℕ) → Hinted b file s part → Fit b file s part i → length part ≤ i → link_fault b file ≡ answered []
fit_all b file s part i q fit h =
    fit_file b file q.keyed (rw q.same at q.legal) (rw q.same at q.once)
    (subst (λ (y : List ℕ). (x : ℕ) → PlaceIn file y x → x < length y → field_amiss b file (record_at file y x) ≡ 0) q.same each)
  where
    each : (x : ℕ) → PlaceIn file s x → x < length s → field_amiss b file (record_at file s x) ≡ 0
    each x p m =
        let w = q.index.covers x (place_known (fields_of file) (rank_of file) s x p m) in
        rw w.2 at (fit w.0 (omega (arith, w.1)))

-- entry i
module _ (b : Batch) (file : ℕ) (s part : List ℕ) (i : ℕ) (q : Hinted b file s part) (h : i < length part) where
  -- a record can be cut there
  pub entry_record : (n : ℕ) → n ≡ fields_of file → RecordAt n s (get_or part i 0)
  entry_record n e =
      let w = q.index.start i h in
      rw e (record { legal = w.place.legal; more = w.within; room = fields_few file })

  -- and was
  module _ (n : ℕ) (old places : List ℕ) (next : ℕ) (fields : n ≡ fields_of file) (d : Cuts n s (get_or part i 0) old places next) where
    c : Cuts (fields_of file) s (get_or part i 0) old places next
    c = subst (λ (m : ℕ). Cuts m s (get_or part i 0) old places next) fields d

    -- what is known of it then: its fields are of their kinds
    pub entry_known : (order ways last new : List ℕ) → Known b file order ways last → Lasts b new → Record b file s places order ways new
    entry_known order ways last new k m =
        let w = q.index.start i h in
        let a : OfKind file s = rw q.same (sound_kinds b file (k.sound file q.keyed.0 (omega (arith, q.keyed.1)))) in
        record { known = later k new m; kinded = cut_kinded file s (get_or part i 0) a w.place w.within c }

    -- nothing is wrong with it: the next entry comes
    pub fit_more : Fit b file s part i → field_amiss b file (texts file s places) ≡ 0 → Fit b file s part (i + 1)
    fit_more fit z j l =
        either (ltb j i)
        (λ t. fit j (ltb-true j i t))
        (λ t.
        let y : j ≡ i = omega (arith, ltb-false j i t) in
        let g : field_amiss b file (record_at file s (get_or part i 0)) ≡ 0 = ap (field_amiss b file) (cut_first (fields_of file) s (get_or part i 0) old places next c) ∙ z in
        rw y g)
