-- `numbered_checked` tells all cases apart: each can be told back from its number and place. So the check of one file allows one result only (the table
-- in the crate `determined`).
use Rattle.std.specs.Prelude.{◌≡◌, refl, false, eqb}
use Rattle.laws.specs.Numbered.{Numbered}
use Rattle.laws.specs.Settled.{OneToOne, told_back}
use Rattle.laws.specs.Tests.{pick}
use Rattle.file.specs.Answers.{numbered}
use Rattle.file.proofs.OneResult.{refusal_of, refusal_told, no_answer}
use Rattle.file.specs.declared.Refusal.{Refusal}
use Rattle.fields.specs.declared.Checked.{Checked}
use Rattle.fields.specs.Check.{numbered_checked}

-- a file's own refusals are neither 5 nor 6
no_five : (r : Refusal) → eqb (numbered r).number 5 ≡ false
unfolding numbered
no_five (Refusal.TooLong file) = refl
no_five (Refusal.Unfit file at) = refl
no_five (Refusal.CutShort file at) = refl
no_five Refusal.NoSuch = refl
no_five Refusal.NotPermitted = refl
no_five Refusal.NoRoom = refl

no_six : (r : Refusal) → eqb (numbered r).number 6 ≡ false
unfolding numbered
no_six (Refusal.TooLong file) = refl
no_six (Refusal.Unfit file at) = refl
no_six (Refusal.CutShort file at) = refl
no_six Refusal.NoSuch = refl
no_six Refusal.NotPermitted = refl
no_six Refusal.NoRoom = refl

-- the case of this number and place
case_of : Numbered → Checked
case_of a =
    pick (eqb a.number 0) Checked.Sound
    (pick (eqb a.number 5) (Checked.Unkind a.in_file a.in_record a.in_field)
    (pick (eqb a.number 6) (Checked.Broken a.in_file a.in_record)
    (Checked.Refused (refusal_of a))))

case_told : (c : Checked) → case_of (numbered_checked c) ≡ c
unfolding numbered_checked case_of
case_told Checked.Sound = refl
case_told (Checked.Refused r) = rw (no_answer r, no_five r, no_six r, refusal_told r)
case_told (Checked.Unkind file k f) = refl
case_told (Checked.Broken file k) = refl

pub checked_one : OneToOne numbered_checked
checked_one = told_back numbered_checked case_of case_told
