-- The numberings of the answers on a file tell all cases apart: each case can be told back from what `numbered` gives for it. So the promise of each
-- call of the reader and the writer allows one result only (the table in the crate `determined`).
use Rattle.std.specs.Prelude.{Result, Ok, Err, ◌≡◌, refl, false, ℕ, eqb, get_or}
use Rattle.laws.specs.Numbered.{Numbered}
use Rattle.laws.specs.Settled.{OneToOne, told_back}
use Rattle.laws.specs.Tests.{pick}
use Rattle.file.specs.Answers.{numbered, numbered_counted, numbered_stretch, numbered_written}
use Rattle.file.specs.declared.Refusal.{Refusal}
use Rattle.file.specs.declared.Stretch.{Stretch}

-- the refusal of this number and place
pub refusal_of : Numbered → Refusal
refusal_of a =
    pick (eqb a.number 1) (Refusal.TooLong a.in_file)
    (pick (eqb a.number 2) (Refusal.Unfit a.in_file a.at_offset)
    (pick (eqb a.number 3) (Refusal.CutShort a.in_file a.at_offset)
    (pick (eqb a.number 20) Refusal.NoSuch
    (pick (eqb a.number 21) Refusal.NotPermitted
    Refusal.NoRoom))))

pub refusal_told : (r : Refusal) → refusal_of (numbered r) ≡ r
unfolding numbered refusal_of
refusal_told (Refusal.TooLong file) = refl
refusal_told (Refusal.Unfit file at) = refl
refusal_told (Refusal.CutShort file at) = refl
refusal_told Refusal.NoSuch = refl
refusal_told Refusal.NotPermitted = refl
refusal_told Refusal.NoRoom = refl

-- no refusal has the number of an answer
pub no_answer : (r : Refusal) → eqb (numbered r).number 0 ≡ false
unfolding numbered
no_answer (Refusal.TooLong file) = refl
no_answer (Refusal.Unfit file at) = refl
no_answer (Refusal.CutShort file at) = refl
no_answer Refusal.NoSuch = refl
no_answer Refusal.NotPermitted = refl
no_answer Refusal.NoRoom = refl

-- value i of an answer
value : Numbered → ℕ → ℕ
value a i = get_or a.values i 0

counted_of : Numbered → Result ℕ Refusal
counted_of a = pick (eqb a.number 0) (Ok (value a 0)) (Err (refusal_of a))

counted_told : (c : Result ℕ Refusal) → counted_of (numbered_counted c) ≡ c
unfolding numbered_counted counted_of value
counted_told (Ok k) = refl
counted_told (Err r) = rw (no_answer r, refusal_told r)

stretch_as : Numbered → Result Stretch Refusal
stretch_as a = pick (eqb a.number 0) (Ok (record { start = value a 0; size = value a 1 })) (Err (refusal_of a))

stretch_told : (x : Result Stretch Refusal) → stretch_as (numbered_stretch x) ≡ x
unfolding numbered_stretch stretch_as value
stretch_told (Ok x) = refl
stretch_told (Err r) = rw (no_answer r, refusal_told r)

written_as : Numbered → Result ℕ Refusal
written_as a = pick (eqb a.number 0) (Ok (value a 0)) (Err (refusal_of a))

written_told : (w : Result ℕ Refusal) → written_as (numbered_written w) ≡ w
unfolding numbered_written written_as value
written_told (Ok place) = refl
written_told (Err r) = rw (no_answer r, refusal_told r)

-- the numberings tell all cases apart
pub refusal_one : OneToOne numbered
refusal_one = told_back numbered refusal_of refusal_told

pub counted_one : OneToOne numbered_counted
counted_one = told_back numbered_counted counted_of counted_told

pub stretch_one : OneToOne numbered_stretch
stretch_one = told_back numbered_stretch stretch_as stretch_told

pub written_one : OneToOne numbered_written
written_one = told_back numbered_written written_as written_told
