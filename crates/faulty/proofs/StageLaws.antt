-- The stage, record by record and file by file: what a record that is looked at says of the fault of its file, and what a file says of that
-- of the batch.
use mathlib.Core.Path.{◌≡◌, refl, sym, ap, subst, ◌∙◌}
use mathlib.Core.Bool.{Bool, true, false}
use mathlib.Core.List.{List, [], ◌∷◌, ◌++◌, append_assoc}
use mathlib.Core.Logic.{◌⊎◌, inl, inr}
use Prim.Native.Nat.{ℕ, ◌+◌, ◌-◌, ◌≤◌, ◌<◌}
use native.Mathlib.Omega.{arith}
use lib.Dec.{eqb, ltb}
use lib.ListN.{length, drop, replicate, get_or-eq_default}
use borrow.Author.Tests.{eqb-true, eqb-false, eq-eqb, ne_eqb, ltb-true, ltb-false}
use Rattle.laws.specs.Tests.{pick, either, never}
use Rattle.laws.specs.Numbered.{Numbered, answered, refused_in}
use Rattle.file.specs.Files.{field_counts, fields_of}
use Rattle.file.specs.Format.{Fields, written}
use Rattle.file.specs.Records.{records_in}
use Rattle.walk.specs.Walk.{LegalFrom, RecordAt, Cuts}
use Rattle.walk.proofs.WalkLaws.{cut_first, none_left}
use Rattle.rules.specs.Texts.{texts}
use Rattle.lines.proofs.LineLaws.{cut_next, place_start, size_append, size_one}
use Rattle.keys.specs.Keys.{key_table, key_fields, key_of, numbers, has}
use Rattle.keys.specs.Ranks.{IsKeyed, record_at}
use Rattle.keys.specs.KeyFiles.{PlaceIn}
use Rattle.keys.proofs.TableLaws.{one_of_lem, key_fields_lem}
use Rattle.link.specs.Links.{links, zaslinky, link_of, target, link_fields, reaches, met}
use Rattle.link.specs.Signs.{sign_stands}
use Rattle.link.specs.Stage.{is_used, amiss, field_amiss, record_fault, faults_from, link_fault, links_fault}
use Rattle.link.proofs.FaultLaws.{file_clean, file_settled, first_wrong}
use Rattle.link.proofs.TableLaws.{record_length}
use Rattle.find.specs.Find.{Serves}
use Rattle.lookup.specs.Ways.{Looks, Lasts, Way, how_of, from_of, to_of, part_of, apart}
use Rattle.thirteen.proofs.OverLaws.{over_next, over_stop, over_done}
use Rattle.thirteen.specs.Batch.{Batch, file_in, over_files}
use Rattle.amiss.specs.Sound.{SoundFiles, OfKind, StopsMet, Known, Record, UsedAsked, Used}
use Rattle.amiss.proofs.SoundLaws.{sound_kinds}
use Rattle.amiss.proofs.RecordLaws.{cut_kinded, later}
use Rattle.recall.proofs.FieldLaws.{fields_few}
use Rattle.recall.proofs.RecallLaws.{zeros}

-- what is wrong with a field is 8 or 9
pub amiss_nine : (b : Batch) (file : ℕ) (r : Fields) (f : ℕ) → (amiss b file r f ≡ 0 → ⊥) → (amiss b file r f ≡ 8 → ⊥) → amiss b file r f ≡ 9
unfolding amiss
amiss_nine b file r f = go (met b (link_of file f) f r) (sign_stands b file (link_of file f) f r)
  where
    go : (m s : Bool) → (pick {A = ℕ} m (pick s 0 9) 8 ≡ 0 → ⊥) → (pick {A = ℕ} m (pick s 0 9) 8 ≡ 8 → ⊥) → pick {A = ℕ} m (pick s 0 9) 8 ≡ 9
    go true true p q = absurd (p refl)
    go true false p q = refl
    go false s p q = absurd (q refl)

-- Files 11-13 have no keys, and there are none behind them.
no_fields : (file : ℕ) → 10 < file → key_fields file ≡ []
unfolding key_fields key_table
no_fields file h =
    either (ltb file 14)
    (λ e. one_of_lem (λ (k : ℕ). key_fields k ≡ []) 11 3 (refl, (refl, (refl, tt))) file (omega arith) (omega (arith, ltb-true file 14 e)))
    (λ e. get_or-eq_default key_table [] (ltb-false file 14 e))

-- So no record of theirs has a key that is used.
pub no_key : (file : ℕ) (past : List Fields) (r : Fields) → 10 < file → is_used file past r ≡ false
unfolding is_used
no_key file past r h = rw (no_fields file h)

-- In the others, a record's key is used where an earlier one has it.
pub key_used : (file : ℕ) (past : List Fields) (r : Fields) → IsKeyed file → is_used file past r ≡ has file (key_of file r) past
unfolding is_used
key_used file past r k = rw (ne_eqb (length (key_fields file)) 0 (λ e. omega (arith, (key_fields_lem file k).0)))

-- Whether the key of the record at a place is used.
module _ (file : ℕ) (s : List ℕ) (at : ℕ) (order ways : List ℕ) (q : UsedAsked file s at order ways) where
  -- it has none
  pub used_keyless : 10 < file → Used file s at false
  used_keyless h p = sym (no_key file p.past (record_at file s at) h)

  module _ (h : file ≤ 10) where
    -- the way to its file's records
    pub way_here : Way file s order (how_of ways file) (from_of ways file) (to_of ways file)
    way_here = q.way (q.low, h)

    -- all keys are different: since they rise, or by an index
    used_apart : apart (how_of ways file) ≡ true → Used file s at false
    used_apart e p = sym (key_used file p.past (record_at file s at) (q.low, h) ∙ way_here.once e at p q.more)

    pub used_known : (how_of ways file ≡ 1) ⊎ ((how_of ways file ≡ 1 → ⊥) × (how_of ways file ≡ 2)) → Used file s at false
    used_known (inl e) = used_apart (rw e)
    used_known (inr w) = used_apart (rw w.1)

    -- else it is looked for, by the index if there is one
    pub serves_part : (part : List ℕ) → part ≡ part_of order (from_of ways file) (to_of ways file) → Serves file s false part
    serves_part part e = rw e (record { keyed = way_here.serves.keyed; up = λ z. never z; index = way_here.serves.index })

    -- what is found is the answer
    pub used_found : (r : Bool) → ((p : PlaceIn file s at) → r ≡ has file (key_of file (record_at file s at)) p.past) → Used file s at r
    used_found r e p = e p ∙ sym (key_used file p.past (record_at file s at) (q.low, h))

  -- none is where all are different, or where there are none
  pub used_none : (file ≤ 10 → apart (how_of ways file) ≡ true) → Used file s at false
  used_none a =
      either (ltb 10 file)
      (λ t. used_keyless (ltb-true 10 file t))
      (λ t. let h = ltb-false 10 file t in used_apart h (a h))

-- Where a file's records were gone through up to `at`, the first of the rest being record k: the first fault of the rest is the file's.
pub record Left (b : Batch) (file : ℕ) (s : List ℕ) (at k : ℕ) : Type 0 where
  pub place : PlaceIn file s at
  pub count : k ≤ at + 1
  pub fault : faults_from b file k place.past (records_in (fields_of file) (drop at s)) ≡ link_fault b file

-- at the start
pub left_start : (b : Batch) (file : ℕ) (s : List ℕ) → s ≡ file_in b file → LegalFrom (fields_of file) (file_in b file) 0 → Left b file s 0 1
unfolding link_fault written
left_start b file s e h =
    subst (λ (x : List ℕ). Left b file x 0 1) (sym e)
    (record { place = record { past = []; whole = refl; size = refl; legal = h; near = omega arith }; count = omega arith; fault = refl })

-- at the end
pub left_end : (b : Batch) (file : ℕ) (s : List ℕ) (at k : ℕ) → Left b file s at k → length s ≤ at → link_fault b file ≡ answered []
unfolding faults_from
left_end b file s at k l h = sym l.fault ∙ rw (none_left (fields_of file) s at h)

-- where bytes are left
module _ (b : Batch) (file : ℕ) (s : List ℕ) (at k : ℕ) (l : Left b file s at k) (h : at < length s) where
  -- a record can be cut
  pub left_record : (n : ℕ) → n ≡ fields_of file → RecordAt n s at
  left_record n e = rw e (record { legal = l.place.legal; more = h; room = fields_few file })

  -- and it can be asked whether its key is used
  pub left_asked : (order ways last : List ℕ) → 2 ≤ file → s ≡ file_in b file → Known b file order ways last → UsedAsked file s at order ways
  left_asked order ways last low e q =
      record {
        low = low;
        size = q.looks.size;
        way = λ y. rw e (q.looks.routes file y);
        place = l.place;
        more = h;
      }

-- a record that was cut, where n is how many fields the file's records have
module _ (b : Batch) (file : ℕ) (s : List ℕ) (at k n : ℕ) (old places : List ℕ) (next : ℕ) (l : Left b file s at k) (fields : n ≡ fields_of file) (d : Cuts n s at old places next) where
  -- by the file's number
  c : Cuts (fields_of file) s at old places next
  c = subst (λ (m : ℕ). Cuts m s at old places next) fields d

  -- the record, and those behind it
  abbrev r : Fields
  r = texts file s places

  abbrev rest : List Fields
  rest = records_in (fields_of file) (drop next s)

  -- with those before it they are all
  whole : records_in (fields_of file) s ≡ l.place.past ++ (r ∷ rest)
  whole = l.place.whole ∙ ap (λ (x : List Fields). l.place.past ++ x) c.rest

  -- what is known of it then: its fields are of their kinds
  pub left_known : (order ways last new : List ℕ) → 2 ≤ file → file ≤ 13 → s ≡ file_in b file → Known b file order ways last → Lasts b new
      → Record b file s places order ways new
  left_known order ways last new low high e q m =
      let a : OfKind file s = rw e (sound_kinds b file (q.sound file low high)) in
      record { known = later q new m; kinded = cut_kinded file s at a l.place (omega (arith, c.far, c.near)) c }

  -- u tells whether its key is used
  module _ (u : Bool) (h : Used file s at u) where
    -- by an earlier one of this file
    used_here : is_used file l.place.past r ≡ u
    used_here = ap (λ (x : Fields). is_used file l.place.past x) (sym (cut_first (fields_of file) s at old places next c)) ∙ sym (h l.place)

    -- it is
    pub left_used : u ≡ true → refused_in 7 file k 0 ≡ link_fault b file
    unfolding faults_from record_fault
    left_used t = rw (c.rest, used_here ∙ t) at l.fault

    -- something is wrong with field f
    pub left_amiss : u ≡ false → (f : ℕ) → f ≡ field_amiss b file r → (f ≡ 0 → ⊥) → refused_in (amiss b file r f) file k f ≡ link_fault b file
    unfolding faults_from record_fault
    left_amiss t f e z = rw (c.rest, used_here ∙ t, ← e, ne_eqb f 0 z) at l.fault

    -- nothing is: the next one comes
    pub left_next : u ≡ false → (f : ℕ) → f ≡ field_amiss b file r → f ≡ 0 → Left b file s next (k + 1)
    unfolding faults_from record_fault
    left_next t f e z =
        let p = l.place in
        record {
          place = record {
            past = p.past ++ (r ∷ []);
            whole = whole ∙ sym (append_assoc p.past (r ∷ []) rest);
            size = omega (arith, size_append p.past (r ∷ []), size_one r, p.size, (cut_next (fields_of file) s at old places next p c).size);
            legal = c.legal;
            near = c.near;
          };
          count = omega (arith, l.count, c.far);
          fault = rw (c.rest, used_here ∙ t, ← e, eq-eqb f 0 z) at l.fault;
        }

-- with the first field that is found something is wrong
pub amiss_found : (b : Batch) (file : ℕ) (r : Fields) (f : ℕ) → f ≡ field_amiss b file r → (f ≡ 0 → ⊥) → amiss b file r f ≡ 0 → ⊥
amiss_found b file r f e h z = first_wrong b file r 1 (length r) (λ y. h (e ∙ y)) (ap (amiss b file r) (sym e) ∙ z)

-- The stop of each Zaslinky record is met where file 7 has no fault.
pub stops_met : (b : Batch) → link_fault b 7 ≡ answered [] → StopsMet b
unfolding met reaches target link_fields numbers link_of links zaslinky fields_of field_counts
stops_met b e i h =
    let n = record_length (fields_of 7) (file_in b 7) i h in
    ((file_clean b 7 e i h).1 4 (omega arith) (omega (arith, n))).0

-- Where the files were gone through up to one: the first fault of the rest is the batch's, and file 7 has none once it was passed.
pub record Onward (b : Batch) (file : ℕ) : Type 0 where
  pub low : 2 ≤ file
  pub high : file ≤ 14
  pub fault : over_files (link_fault b) file (14 - file) ≡ links_fault b
  pub stops : 7 < file → link_fault b 7 ≡ answered []

-- at the start
pub onward_start : (b : Batch) → Onward b 2
unfolding links_fault
onward_start b = record { low = omega arith; high = omega arith; fault = refl; stops = λ h. absurd (omega arith) }

-- at the end
pub onward_end : (b : Batch) (file : ℕ) → Onward b file → 14 ≤ file → answered [] ≡ links_fault b
onward_end b file o h = sym (over_done (link_fault b) file h) ∙ o.fault

-- the fault of a file is found, and t tells whether it is none
module _ (b : Batch) (file : ℕ) (o : Onward b file) (h : file < 14) (a : Numbered) (e : a ≡ link_fault b file) (t : Bool) (d : t ≡ eqb a.number 0) where
  -- it is one: it is the batch's
  pub onward_stop : t ≡ false → a ≡ links_fault b
  onward_stop f =
      let z = eqb-false a.number 0 (sym d ∙ f) in
      e ∙ sym (over_stop (link_fault b) file h (λ y. z (ap (λ (n : Numbered). n.number) e ∙ y))) ∙ o.fault

  -- it is none: the next file comes
  pub onward_next : t ≡ true → Onward b (file + 1)
  onward_next f =
      let z : (link_fault b file).number ≡ 0 = ap (λ (n : Numbered). n.number) (sym e) ∙ eqb-true a.number 0 (sym d ∙ f) in
      record {
        low = omega (arith, o.low);
        high = omega arith;
        fault = sym (over_next (link_fault b) file h z) ∙ o.fault;
        stops = λ l. either (eqb file 7)
            (λ y. subst (λ (k : ℕ). link_fault b k ≡ answered []) (eqb-true file 7 y) (file_settled b file z))
            (λ y. let x = eqb-false file 7 y in o.stops (omega arith));
      }

-- what is known then of a record of this file
pub onward_known : (b : Batch) (file : ℕ) (order ways last new : List ℕ) → Onward b file → SoundFiles b → Looks b order ways last → Lasts b new
    → Known b file order ways new
onward_known b file order ways last new o f k l =
    record { sound = f; looks = record { size = k.size; routes = k.routes; lasts = l }; stops = λ e. stops_met b (o.stops (omega arith)) }

-- Before any search, the place that is remembered for each file is its start.
pub lasts_start : (b : Batch) → SoundFiles b → Lasts b (replicate 22 0)
lasts_start b f =
    record {
      size = omega arith;
      place = λ file k. rw (zeros 22 file) (place_start (fields_of file) (file_in b file) (f file k.0 (omega (arith, k.1))).legal);
    }
