-- The files are gone through so that what a file links to comes before it: Pevnykod and Dopravci, which link to nothing; Zastavky and Linky; Spoje
-- and Zaslinky; then those that nothing links to. The others are empty meanwhile, and what passes beside them passes beside the whole batch.
use mathlib.Core.Path.{◌≡◌, refl}
use mathlib.Core.List.{List, [], ◌∷◌}
use Prim.Native.Nat.{ℕ, zero, suc, ◌+◌, ◌≤◌, ◌<◌}
use native.Mathlib.Omega.{arith}
use lib.Dec.{ltb}
use lib.ListN.{get_or}
use borrow.Author.Tests.{ltb-true, ltb-false}
use Rattle.laws.specs.Tests.{either}
use Rattle.keys.proofs.TableLaws.{one_of_lem}
use Rattle.link.specs.Links.{zastavky, linky, spoje, zaslinky, links, link_of, target}
use Rattle.link.specs.declared.Link.{Link}
use Rattle.thirteen.specs.Batch.{Batch, file_in}
use Rattle.thirteen.specs.Lent.{batch_of}
use Rattle.thirteen.specs.declared.Files.{Files}
use Rattle.passage.specs.Passage.{Passes}
use Rattle.smooth.specs.Smooth.{Orderly, OrderlyFiles, Passed, targets_of, targets_in, TargetsPassed, AllPassed}
use Rattle.smooth.proofs.AgreeLaws.{SameFor, Agree, passes_too}
use Rattle.smooth.proofs.OrderlyLaws.{empty, orderly_targets}
use Rattle.smooth.proofs.PassedLaws.{orderly}

-- what holds of each of these links
abbrev EachOf : (Link → Type 0) → List Link → Type 0
EachOf P [] = Unit
EachOf P (x ∷ xs) = P x × EachOf P xs

one_link : (P : Link → Type 0) (xs : List Link) → P Link.Free → EachOf P xs → (f : ℕ) → P (get_or xs f Link.Free)
one_link P [] h e f = h
one_link P (x ∷ xs) h e zero = e.0
one_link P (x ∷ xs) h e (suc f) = one_link P xs h e.1 f

-- two batches agree for a file if they do for each of its links
agree : (g b : Batch) (file : ℕ) → EachOf (SameFor g b) (get_or links file []) → Agree g b file
unfolding link_of target file_in
agree g b file e f = one_link (SameFor g b) (Link.Free ∷ get_or links file []) refl (refl, e) f

module _ (f : Files) where
  -- what each pair of files is gone through beside
  abbrev pub no_files : Batch
  no_files = targets_of f.version.now [] [] [] [] [] []

  abbrev pub base_files : Batch
  base_files = targets_of f.version.now [] f.codes.now f.carriers.now [] [] []

  abbrev pub line_files : Batch
  line_files = targets_of f.version.now f.stops.now f.codes.now f.carriers.now f.lines.now [] []

  -- they are orderly
  pub no_orderly : OrderlyFiles no_files
  no_orderly = orderly_targets f.version.now [] [] [] [] [] [] (empty 2 (omega arith) (omega arith)) (empty 3 (omega arith) (omega arith)) (empty 4 (omega arith) (omega arith)) (empty 5 (omega arith) (omega arith)) (empty 6 (omega arith) (omega arith)) (empty 7 (omega arith) (omega arith))

  module _ (p3 : Passes no_files 3 f.codes.now) (p4 : Passes no_files 4 f.carriers.now) where
    pub base_orderly : OrderlyFiles base_files
    base_orderly = orderly_targets f.version.now [] f.codes.now f.carriers.now [] [] [] (empty 2 (omega arith) (omega arith)) (orderly no_files 3 f.codes.now p3) (orderly no_files 4 f.carriers.now p4) (empty 5 (omega arith) (omega arith)) (empty 6 (omega arith) (omega arith)) (empty 7 (omega arith) (omega arith))

    module _ (p2 : Passes base_files 2 f.stops.now) (p5 : Passes base_files 5 f.lines.now) where
      pub line_orderly : OrderlyFiles line_files
      line_orderly =
          orderly_targets f.version.now f.stops.now f.codes.now f.carriers.now f.lines.now [] [] (orderly base_files 2 f.stops.now p2) (orderly no_files 3 f.codes.now p3) (orderly no_files 4 f.carriers.now p4) (orderly base_files 5 f.lines.now p5) (empty 6 (omega arith) (omega arith)) (empty 7 (omega arith) (omega arith))

      -- and what passes beside them passes beside all that are linked to
      module _ (p6 : Passes line_files 6 f.trips.now) (p7 : Passes line_files 7 f.line_stops.now) where
        pub targets_passed : TargetsPassed (targets_in f)
        unfolding file_in target links zastavky linky spoje zaslinky
        targets_passed file h l =
            let q2 = passes_too base_files (targets_in f) 2 (agree base_files (targets_in f) 2 (refl, (refl, (refl, (refl, (refl, (refl, (refl, (refl, (refl, (refl, (refl, (refl, tt))))))))))))) f.stops.now p2 in
            let q3 = passes_too no_files (targets_in f) 3 (agree no_files (targets_in f) 3 tt) f.codes.now p3 in
            let q4 = passes_too no_files (targets_in f) 4 (agree no_files (targets_in f) 4 tt) f.carriers.now p4 in
            let q5 = passes_too base_files (targets_in f) 5 (agree base_files (targets_in f) 5 (refl, (refl, (refl, tt)))) f.lines.now p5 in
            let q6 = passes_too line_files (targets_in f) 6 (agree line_files (targets_in f) 6 (refl, (refl, (refl, (refl, (refl, (refl, (refl, (refl, (refl, (refl, (refl, (refl, tt))))))))))))) f.trips.now p6 in
            let q7 = passes_too line_files (targets_in f) 7 (agree line_files (targets_in f) 7 (refl, (refl, (refl, (refl, (refl, (refl, (refl, tt)))))))) f.line_stops.now p7 in
            one_of_lem (Passed (targets_in f)) 2 6 (q2, (q3, (q4, (q5, (q6, (q7, tt)))))) file h (omega arith)

  pub targets_orderly : TargetsPassed (targets_in f) → OrderlyFiles (targets_in f)
  unfolding file_in
  targets_orderly p =
      let o : (file : ℕ) → 2 ≤ file → file ≤ 7 → Orderly file (file_in (targets_in f) file) = λ file h l. orderly (targets_in f) file (file_in (targets_in f) file) (p file h l) in
      orderly_targets f.version.now f.stops.now f.codes.now f.carriers.now f.lines.now f.trips.now f.line_stops.now (o 2 (omega arith) (omega arith)) (o 3 (omega arith) (omega arith)) (o 4 (omega arith) (omega arith)) (o 5 (omega arith) (omega arith)) (o 6 (omega arith) (omega arith)) (o 7 (omega arith) (omega arith))

-- The files of b from 8 on that are below `file` pass beside those of g; and one more.
abbrev pub PassedBelow : Batch → Batch → ℕ → Type 0
PassedBelow g b file = (k : ℕ) → 8 ≤ k → k < file → Passes g k (file_in b k)

pub one_more : (g b : Batch) (file : ℕ) (s : List ℕ) → s ≡ file_in b file → PassedBelow g b file → Passes g file s → PassedBelow g b (file + 1)
one_more g b file s e w p k h l =
    either (ltb k file)
    (λ t. w k h (ltb-true k file t))
    (λ t. let y : k ≡ file = omega (arith, ltb-false k file t) in rw y (rw e at p))

-- Every link goes to one of the first seven files, or nowhere.
target_near : (link : Link) → target link < 0 + 8
unfolding target
target_near Link.Free = omega arith
target_near Link.Line = omega arith
target_near Link.Stop = omega arith
target_near Link.Carrier = omega arith
target_near Link.Trip = omega arith
target_near Link.TripOrZero = omega arith
target_near Link.LineStop = omega arith
target_near Link.Code = omega arith

module _ (f : Files) where
  abbrev g : Batch
  g = targets_in f

  abbrev b : Batch
  b = batch_of f

  same_files : (file : ℕ) → file < 0 + 8 → file_in g file ≡ file_in b file
  unfolding file_in
  same_files file h = one_of_lem (λ (k : ℕ). file_in g k ≡ file_in b k) 0 8 (refl, (refl, (refl, (refl, (refl, (refl, (refl, (refl, tt)))))))) file (omega arith) h

  -- so what passes beside those passes beside all
  passes_whole : (file : ℕ) (s : List ℕ) → Passes g file s → Passes b file s
  passes_whole file s p = passes_too g b file (λ f. same_files (target (link_of file f)) (target_near (link_of file f))) s p

  pub all_passed : TargetsPassed g → ((file : ℕ) → 8 ≤ file → file ≤ 13 → Passes g file (file_in b file)) → AllPassed b
  all_passed t u file h l =
      either (ltb file 8)
      (λ y. passes_whole file (file_in b file) (rw (same_files file (ltb-true file 8 y)) at (t file h (omega (arith, ltb-true file 8 y)))))
      (λ y. passes_whole file (file_in b file) (u file (ltb-false file 8 y) l))
