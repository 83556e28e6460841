-- A file passes from a record on if the record was read, meets its rules, is met and follows the one before it, and the file passes behind it.
use mathlib.Core.Path.{◌≡◌, refl, sym, subst}
use mathlib.Core.Bool.{Bool, true}
use mathlib.Core.List.{List, [], ◌∷◌}
use Prim.Native.Nat.{ℕ, zero, suc, ◌≤◌, ◌<◌}
use native.Mathlib.Omega.{arith}
use lib.Dec.{eqb}
use lib.ListN.{length, drop}
use borrow.Author.Tests.{eqb-false, ne_eqb, lt-ltb}
use Rattle.laws.specs.Tests.{pick, either}
use Rattle.file.specs.Files.{fields_of}
use Rattle.file.specs.Format.{Fields}
use Rattle.file.specs.Records.{records_in}
use Rattle.field.specs.Rules.{meets}
use Rattle.walk.proofs.WalkLaws.{none_left}
use Rattle.lines.specs.Order.{rises_after, is_rising}
use Rattle.lines.proofs.OrderLaws.{is_rising_lem}
use Rattle.keys.specs.Ranks.{IsKeyed, rank_of, rank_key}
use Rattle.keys.specs.declared.Key.{Key}
use Rattle.rules.specs.Texts.{texts}
use Rattle.readany.specs.Reads.{ReadTo}
use Rattle.sweep.specs.Sweep.{Fielded, SoundFrom}
use Rattle.sweep.proofs.SoundLaws.{sound_end, sound_step, records}
use Rattle.link.specs.Stage.{field_amiss}
use Rattle.thirteen.specs.Batch.{Batch}
use Rattle.ascent.specs.Ascent.{KeyFor, Follows}
use Rattle.passage.specs.Passage.{AllMet, Passes}

-- ranks rise from a place on: at the start among themselves, and behind it above the last one, x
abbrev rises_on : (Fields → ℕ) → ℕ → ℕ → List Fields → Bool
rises_on rank at x rs = pick (eqb at 0) (is_rising rank rs) (rises_after rank x rs)

rise_first : (rank : Fields → ℕ) (at x next y : ℕ) (r : Fields) (rs : List Fields) → y ≡ rank r → ((at ≡ 0 → ⊥) → x < y) → at < next → rises_on rank next y rs ≡ true
    → rises_on rank at x (r ∷ rs) ≡ true
unfolding is_rising rises_after
rise_first rank at x next y r rs e f l h =
    let t : rises_after rank (rank r) rs ≡ true = rw (ne_eqb next 0 (λ z. omega arith), e) at h in
    either (eqb at 0) (λ p. rw p t) (λ p. let q : x < rank r = rw e at (f (eqb-false at 0 p)) in rw (p, lt-ltb x (rank r) q) t)

rise_none : (rank : Fields → ℕ) (at x : ℕ) → rises_on rank at x [] ≡ true
unfolding is_rising rises_after
rise_none rank at x = either (eqb at 0) (λ p. rw p refl) (λ p. rw p refl)

met_first : (g : Batch) (file : ℕ) (r : Fields) (rs : List Fields) → field_amiss g file r ≡ 0 → AllMet g file rs → AllMet g file (r ∷ rs)
met_first g file r rs e a zero l = e
met_first g file r rs e a (suc i) l = a i (omega arith)

-- the file passes from `at` on, where the key before is `last`
pub record PassesOn (g : Batch) (file : ℕ) (s : List ℕ) (at : ℕ) (last : Key) : Type 0 where
  pub sound : SoundFrom file (fields_of file) s at
  pub rise : IsKeyed file → rises_on (rank_of file) at (rank_key last) (records_in (fields_of file) (drop at s)) ≡ true
  pub fits : AllMet g file (records_in (fields_of file) (drop at s))

-- from its start on it passes as a whole
pub passes_all : (g : Batch) (file : ℕ) (s : List ℕ) (last : Key) → PassesOn g file s 0 last → Passes g file s
passes_all g file s last p = record { sound = p.sound; rise = λ k. is_rising_lem (rank_of file) _ (p.rise k); fits = p.fits }

-- where no bytes are left, nothing is wrong
pub passes_end : (g : Batch) (file : ℕ) (s : List ℕ) (at : ℕ) (last : Key) → Fielded file (fields_of file) → length s ≤ at → PassesOn g file s at last
passes_end g file s at last h l =
    let e = none_left (fields_of file) s at l in
    record {
      sound = sound_end file (fields_of file) s at h l;
      rise = λ k. rw e (rise_none (rank_of file) at (rank_key last));
      fits = rw e (λ i q. absurd (omega arith));
    }

-- a record that was read stands before the others
pub passes_step : (g : Batch) (file : ℕ) (s : List ℕ) (at : ℕ) (places : List ℕ) (next : ℕ) (last k : Key) → Fielded file (fields_of file) → ReadTo file (fields_of file) s at places next
    → meets file (texts file s places) ≡ true → field_amiss g file (texts file s places) ≡ 0 → KeyFor file (texts file s places) k → Follows file at last k
    → PassesOn g file s next k → PassesOn g file s at last
passes_step g file s at places next last k h r m a key f w =
    let e = records file (fields_of file) s at places next h r w.sound in
    let rest = records_in (fields_of file) (drop next s) in
    let first = texts file s places in
    record {
      sound = sound_step file (fields_of file) s at places next h r w.sound m;
      rise = λ q. rw e (rise_first (rank_of file) at (rank_key last) next (rank_key k) first rest (key.rank q) (f q) r.far (w.rise q));
      fits = subst (λ (rs : List Fields). AllMet g file rs) (sym e) (met_first g file first rest a w.fits);
    }
