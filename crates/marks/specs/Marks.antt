-- The signs of a trip's stop, as the code goes about them: the records of each file are looked through as they are.
use Rattle.std.specs.Prelude.{ℕ, ◌<◌, ◌≡◌, List, [], ◌∷◌, ◌++◌, eqb, length, Option}
use Rattle.laws.specs.Tests.{pick, both}
use Rattle.file.specs.Files.{fields_of}
use Rattle.file.specs.Format.{Fields}
use Rattle.file.specs.Records.{records_in}
use Rattle.field.specs.Names.{trip_stops_file}
use Rattle.keys.specs.Keys.{third, first_with, none}
use Rattle.link.specs.Met.{number}
use Rattle.link.specs.Signs.{sign_in, is_in}
use Rattle.trail.specs.Lists.{select, first_or}
use Rattle.trip.specs.View.{signs_from}
use Rattle.stopmarks.specs.declared.Marks.{Marks}

-- the signs of the stop of Zasspoje record r, where `codes` and `line_stops` are the records of Pevnykod and Zaslinky: those of its own codes, or if it
-- has none, those of the line's stop; a `$` (36) of the line's stop always counts
module _ (codes line_stops : List Fields) where
  unfoldable pub line_stop_at : Fields → Fields
  line_stop_at r = first_or [] (λ q. both (eqb (number 1 q) (number 1 r)) (eqb (number 2 q) (third trip_stops_file r))) line_stops

  unfoldable pub plain_signs : Fields → List ℕ
  plain_signs r =
      let own = signs_from (λ c. sign_in codes c) 6 2 r in
      let theirs = signs_from (λ c. sign_in codes c) 5 3 (line_stop_at r) in
      pick (eqb (length own) 0) theirs (own ++ select (λ x. eqb x 36) theirs)

-- the place of the line's stop of Zasspoje record r in Zaslinky, by its line and its tariff number, is sought and found or not
pub record StopSought (s : List ℕ) (r : Fields) (found : Option ℕ) : Type 0 where
  pub line_small : number 1 r < none
  pub tariff_small : third trip_stops_file r < none
  pub look : found ≡ first_with 7 (number 1 r ∷ third trip_stops_file r ∷ []) 0 (records_in (fields_of 7) s)

-- the marks of these signs: `$` (36), `(` (40), `)` (41), `§`
pub record MarksOf (signs : List ℕ) (m : Marks) : Type 0 where
  pub dollar_is : m.dollar ≡ is_in 36 signs
  pub opening_is : m.opening ≡ is_in 40 signs
  pub closing_is : m.closing ≡ is_in 41 signs
  pub section_is : m.section ≡ is_in 0xA7 signs
