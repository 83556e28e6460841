-- From trip to trip of Spoje: what is left of its records where the walk stands.
use mathlib.Core.Path.{◌≡◌, refl, sym, ap, subst, ◌∙◌}
use mathlib.Core.List.{List, []}
use Prim.Native.Nat.{ℕ, ◌+◌, ◌-◌, ◌≤◌, ◌<◌}
use native.Mathlib.Omega.{arith}
use lib.ListN.{length, drop, drop_of_length-le}
use lib.Seq.{drop-drop}
use Rattle.file.specs.Files.{fields_of}
use Rattle.file.specs.Records.{records_in}
use Rattle.keys.specs.KeyFiles.{records_from}
use Rattle.lines.specs.Lines.{behind}
use Rattle.lines.proofs.LineLaws.{place_start, next_line, none_at}
use Rattle.walk.specs.Walk.{LegalFrom}
use Rattle.roll.specs.Roll.{NthTrip}

-- at the start all are left
pub roll_start : (s : List ℕ) → LegalFrom (fields_of 6) s 0 → NthTrip s 0 0
roll_start s l = record { place = place_start (fields_of 6) s l; left = refl }

-- it has come to the nth
pub roll_here : (s : List ℕ) (i n at : ℕ) → NthTrip s i at → i ≡ n → NthTrip s n at
roll_here s i n at t e = subst (λ (m : ℕ). NthTrip s m at) e t

-- a trip is passed
pub roll_next : (s : List ℕ) (i at : ℕ) → NthTrip s i at → at < length s → (next : ℕ) → next ≡ behind s at → NthTrip s (i + 1) next
roll_next s i at t h next e =
    let w = next_line (fields_of 6) s at t.place h next e in
    record { place = w.place; left = ap (drop 1) (sym w.rest ∙ t.left) ∙ drop-drop 1 i (records_in (fields_of 6) s) }

-- behind the end nothing is left either
drop_none : {A : Type 0} (all : List A) (i n : ℕ) → drop i all ≡ [] → i ≤ n → drop n all ≡ []
drop_none all i n e h =
    let z : i + (n - i) ≡ n = omega arith in
    rw z at (sym (drop-drop (n - i) i all)) ∙ ap (drop (n - i)) e ∙ drop_of_length-le [] {i = n - i} (omega arith)

-- there are no more
pub roll_end : (s : List ℕ) (i n at : ℕ) → NthTrip s i at → i ≤ n → length s ≤ at → NthTrip s n at
roll_end s i n at t h l =
    let all = records_in (fields_of 6) s in
    let none : records_from 6 s at ≡ [] = none_at (fields_of 6) s at t.place l in
    record { place = t.place; left = none ∙ sym (drop_none all i n (sym t.left ∙ none) h) }
