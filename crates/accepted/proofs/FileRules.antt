-- 1 to 4 find nothing exactly if no file is too long, each is legal, and VerzeJDF is one record `1.8`.
use mathlib.Core.Path.{◌≡◌, refl, ap}
use mathlib.Core.Bool.{true}
use mathlib.Core.List.{List, [], ◌∷◌}
use Prim.Native.Nat.{ℕ, zero, suc, ◌+◌, ◌≤◌, ◌<◌}
use native.Mathlib.Omega.{arith}
use lib.ListN.{length, get_or}
use Rattle.laws.specs.Tests.{either}
use Rattle.laws.specs.Numbered.{Numbered}
use Rattle.file.specs.Files.{field_counts, fields_of, longest}
use Rattle.file.specs.Format.{Text, Fields, Legal}
use Rattle.file.specs.Reading.{reading}
use Rattle.file.specs.declared.Outcome.{Outcome}
use Rattle.file.specs.declared.Outcome.TheVariants.{Whole, Unfit, CutShort}
use Rattle.file.proofs.Demand3.{whole_legal}
use Rattle.file.proofs.PlaceLaws.{gives}
use Rattle.field.specs.Names.{field}
use Rattle.keys.proofs.KeyLaws.{same_self, same_equal}
use Rattle.thirteen.specs.Batch.{Batch, file_in, records_of, over_files}
use Rattle.link.proofs.TableLaws.{record_length}
use Rattle.filefaults.specs.Faults.{outcome_fault, is_version, version_fault}
use Rattle.overfiles.specs.OneFile.{length_fault, bytes_fault}
use Rattle.overfiles.proofs.FileLaws.{some_fields, short_enough}

-- no fault in any of several files, from the first of them on
pub each_over : (fault : ℕ → Numbered) (file count : ℕ) → ((i : ℕ) → i < count → (fault (file + i)).number ≡ 0) → (over_files fault file count).number ≡ 0
unfolding over_files
each_over fault file zero g = refl
each_over fault file (suc count) g =
    let z : file + 0 ≡ file = omega arith in
    let p : (fault file).number ≡ 0 = rw z at (g 0 (omega arith)) in
    rw p (each_over fault (file + 1) count (λ i l. let y : file + suc i ≡ file + 1 + i = omega arith in rw y at (g (suc i) (omega arith))))

-- 1
pub kept_length : (b : Batch) (file : ℕ) → length (file_in b file) ≤ longest → (length_fault b file).number ≡ 0
kept_length b file h = ap (λ (a : Numbered). a.number) (short_enough b file (file_in b file) refl h)

-- 2, 3
outcome_legal : (file n : ℕ) (s : List ℕ) → 1 ≤ n → (o : Outcome) → reading n s ≡ o → (outcome_fault file o).number ≡ 0 → Legal n s
unfolding outcome_fault
outcome_legal file n s h (Whole k) r e = whole_legal n h s (rw r tt)
outcome_legal file n s h (Unfit at) r e = absurd (omega arith)
outcome_legal file n s h (CutShort at) r e = absurd (omega arith)

pub bytes_kept : (b : Batch) (file : ℕ) → 1 ≤ file → file ≤ 13 → (bytes_fault b file).number ≡ 0 → Legal (fields_of file) (file_in b file)
unfolding bytes_fault
bytes_kept b file h l e = outcome_legal file (fields_of file) (file_in b file) (some_fields file h l) _ refl e

pub kept_bytes : (b : Batch) (file : ℕ) → 1 ≤ file → file ≤ 13 → Legal (fields_of file) (file_in b file) → (bytes_fault b file).number ≡ 0
unfolding bytes_fault outcome_fault
kept_bytes b file h l g =
    let r : reading (fields_of file) (file_in b file) ≡ Whole (length g.0) = rw g.2 at (gives (fields_of file) (some_fields file h l) g.0 g.1).count in
    rw r

-- 4: the text, and a record of it alone
abbrev pub version_text : Text
version_text = 49 ∷ 46 ∷ 56 ∷ []

alone : (r : Fields) → length r ≡ 1 → is_version (field 1 r) ≡ true → r ≡ version_text ∷ []
unfolding is_version
alone [] h e = absurd (omega arith)
alone (t ∷ []) h e = ap (λ (u : Text). u ∷ []) (same_equal t version_text e)
alone (t ∷ u ∷ r) h e = absurd (omega arith)

one_record : (rs : List Fields) → ((i : ℕ) → i < length rs → length (get_or rs i []) ≡ 1) → (version_fault rs).number ≡ 0 → rs ≡ (version_text ∷ []) ∷ []
unfolding version_fault
one_record [] n e = absurd (omega arith)
one_record (r ∷ []) n e =
    either (is_version (field 1 r))
    (λ t. ap (λ (q : Fields). q ∷ []) (alone r (n 0 (omega arith)) t))
    (λ t. let z = rw t at e in absurd (omega arith))
one_record (r ∷ q ∷ rs) n e = absurd (omega arith)

pub version_kept : (b : Batch) → (version_fault (records_of b 1)).number ≡ 0 → records_of b 1 ≡ (version_text ∷ []) ∷ []
unfolding fields_of field_counts
version_kept b e = one_record (records_of b 1) (record_length 1 (file_in b 1)) e

pub kept_version : (rs : List Fields) → rs ≡ (version_text ∷ []) ∷ [] → (version_fault rs).number ≡ 0
unfolding version_fault is_version
kept_version rs e = rw (e, same_self version_text)
