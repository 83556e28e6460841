-- A batch in whose files nothing is wrong by themselves: its keyed files are no longer than a file may be, are legal, and have numbers in their keys.
use mathlib.Core.Path.{◌≡◌}
use mathlib.Core.List.{List, [], ◌∷◌}
use Prim.Native.Nat.{ℕ, ◌+◌, ◌-◌, ◌≤◌, ◌<◌}
use native.Mathlib.Omega.{arith}
use lib.Dec.{eqb}
use lib.ListN.{get_or}
use borrow.Author.Tests.{eqb-true}
use Rattle.laws.specs.Tests.{either}
use Rattle.laws.specs.Numbered.{answered}
use Rattle.file.specs.Files.{fields_of}
use Rattle.file.specs.Format.{Fields, Permitted}
use Rattle.field.specs.Rules.{meets}
use Rattle.field.specs.Stage.{first_unkind, record_fault, faults_from, field_fault}
use Rattle.keys.specs.Ranks.{AllKeyed}
use Rattle.thirteen.specs.Batch.{Batch, file_in, records_of}
use Rattle.thirteen.proofs.OverLaws.{over_each}
use Rattle.lines.proofs.LineLaws.{all_permitted}
use Rattle.link.proofs.KindOfLinks.{keyed_kinds}
use Rattle.overfiles.specs.OneFile.{length_fault}
use Rattle.overfiles.proofs.FileLaws.{some_fields, not_long, legal_files}
use Rattle.filestages.specs.Order.{first_fault, file_stages}
use Rattle.filestages.proofs.OrderLaws.{first_each}
use Rattle.parts.specs.Keyed.{KeyedFiles}

-- records in whose fields nothing is found have numbers in their keys
faultless_keyed : (file k : ℕ) (rs : List Fields) → (faults_from file k rs).number ≡ 0 → Permitted (fields_of file) rs → AllKeyed file rs
unfolding faults_from record_fault Permitted AllKeyed
faultless_keyed file k [] e p = tt
faultless_keyed file k (r ∷ rs) e p =
    either (eqb (first_unkind file 1 r) 0)
    (λ t.
    either (meets file r)
    (λ q. (keyed_kinds file r (eqb-true (first_unkind file 1 r) 0 t) p.0.0, faultless_keyed file (k + 1) rs (rw (t, q) at e) p.1))
    (λ q. let z = rw (t, q) at e in absurd (omega arith)))
    (λ t. let z = rw t at e in absurd (omega arith))

pub keyed_files : (b : Batch) → (first_fault (file_stages b)).number ≡ 0 → KeyedFiles b
unfolding file_stages
keyed_files b e file k =
    let zero-at : (i : ℕ) → i < 4 → (get_or (file_stages b) i (answered [])).number ≡ 0 = first_each (file_stages b) e in
    let low : 1 ≤ file = omega (arith, k.0) in
    let high : file ≤ 13 = omega (arith, k.1) in
    let u : 1 + (file - 1) ≡ file = omega arith in
    let v : 2 + (file - 2) ≡ file = omega (arith, k.0) in
    let long = rw u at (over_each (length_fault b) 1 13 (zero-at 0 (omega arith)) (file - 1) (omega arith)) in
    let kinds = rw v at (over_each (λ file. field_fault file (records_of b file)) 2 12 (zero-at 3 (omega arith)) (file - 2) (omega (arith, k.0))) in (
      record {
        keyed = k;
        legal = legal_files b (zero-at 1 (omega arith)) file low high;
        keys = faultless_keyed file 1 (records_of b file) kinds (all_permitted (fields_of file) (file_in b file) (some_fields file low high));
      },
      not_long b file long,
    )
