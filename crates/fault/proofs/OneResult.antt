-- `numbered_fault` tells all faults apart: each case can be told back from its number and place.
use Rattle.std.specs.Prelude.{◌≡◌, refl, Bool, true, false, [], ℕ, eqb, leb}
use Rattle.std.proofs.Common.{sym, subst, ne_eqb}
use Rattle.laws.specs.Numbered.{Numbered}
use Rattle.laws.specs.Settled.{OneToOne, told_back}
use Rattle.laws.specs.Tests.{pick, both, clash}
use Rattle.file.specs.Answers.{numbered}
use Rattle.file.proofs.OneResult.{refusal_of, refusal_told, no_answer}
use Rattle.file.specs.declared.Refusal.{Refusal}
use Rattle.fault.specs.declared.Fault.{Fault}
use Rattle.fault.specs.Answers.{numbered_fault}

-- a number of the refusals from this one to 19
abbrev pub within : ℕ → ℕ → Bool
within from n = both (leb from n) (leb n 19)

-- none is a file's own
outside : (r : Refusal) → (within 4 (numbered r).number ≡ false) × (within 12 (numbered r).number ≡ false)
unfolding numbered
outside (Refusal.TooLong file) = (refl, refl)
outside (Refusal.Unfit file at) = (refl, refl)
outside (Refusal.CutShort file at) = (refl, refl)
outside Refusal.NoSuch = (refl, refl)
outside Refusal.NotPermitted = (refl, refl)
outside Refusal.NoRoom = (refl, refl)

-- a number that fails a test is none that passes it
another : (test : ℕ → Bool) (m n : ℕ) → test m ≡ false → test n ≡ true → eqb m n ≡ false
another test m n f h = ne_eqb m n (λ e. clash (subst (λ (k : ℕ). test k ≡ true) (sym e) h) f)

not_this : (r : Refusal) (n : ℕ) → within 4 n ≡ true → eqb (numbered r).number n ≡ false
not_this r n h = another (within 4) (numbered r).number n (outside r).0 h

-- the case of this number and place
unfoldable pub case_of : Numbered → Fault
case_of a =
    pick (eqb a.number 0) Fault.None
    (pick (eqb a.number 4) (Fault.Version a.in_record a.in_field)
    (pick (eqb a.number 5) (Fault.Unkind a.in_file a.in_record a.in_field)
    (pick (eqb a.number 6) (Fault.Broken a.in_file a.in_record)
    (pick (eqb a.number 7) (Fault.Used a.in_file a.in_record)
    (pick (eqb a.number 8) (Fault.Dangling a.in_file a.in_record a.in_field)
    (pick (eqb a.number 9) (Fault.Misplaced a.in_file a.in_record a.in_field)
    (pick (eqb a.number 10) (Fault.Days a.in_record)
    (pick (eqb a.number 11) (Fault.Stops a.in_record)
    (Fault.File (refusal_of a))))))))))

pub case_told : (f : Fault) → case_of (numbered_fault f) ≡ f
unfolding numbered_fault case_of
case_told Fault.None = refl
case_told (Fault.File r) =
    rw (no_answer r, not_this r 4 refl, not_this r 5 refl, not_this r 6 refl, not_this r 7 refl, not_this r 8 refl, not_this r 9 refl, not_this r 10 refl, not_this r 11 refl, refusal_told r)
case_told (Fault.Version k f) = refl
case_told (Fault.Unkind file k f) = refl
case_told (Fault.Broken file k) = refl
case_told (Fault.Used file k) = refl
case_told (Fault.Dangling file k f) = refl
case_told (Fault.Misplaced file k f) = refl
case_told (Fault.Days k) = refl
case_told (Fault.Stops k) = refl

pub fault_one : OneToOne numbered_fault
fault_one = told_back numbered_fault case_of case_told

-- and no fault has values
no_values : (r : Refusal) → (numbered r).values ≡ []
unfolding numbered
no_values (Refusal.TooLong file) = refl
no_values (Refusal.Unfit file at) = refl
no_values (Refusal.CutShort file at) = refl
no_values Refusal.NoSuch = refl
no_values Refusal.NotPermitted = refl
no_values Refusal.NoRoom = refl

pub fault_no_values : (f : Fault) → (numbered_fault f).values ≡ []
unfolding numbered_fault
fault_no_values Fault.None = refl
fault_no_values (Fault.File r) = no_values r
fault_no_values (Fault.Version k f) = refl
fault_no_values (Fault.Unkind file k f) = refl
fault_no_values (Fault.Broken file k) = refl
fault_no_values (Fault.Used file k) = refl
fault_no_values (Fault.Dangling file k f) = refl
fault_no_values (Fault.Misplaced file k f) = refl
fault_no_values (Fault.Days k) = refl
fault_no_values (Fault.Stops k) = refl

-- and none has a question's own number, 12 to 19
below : (f : Fault) → within 12 (numbered_fault f).number ≡ false
unfolding numbered_fault
below Fault.None = refl
below (Fault.File r) = (outside r).1
below (Fault.Version k f) = refl
below (Fault.Unkind file k f) = refl
below (Fault.Broken file k) = refl
below (Fault.Used file k) = refl
below (Fault.Dangling file k f) = refl
below (Fault.Misplaced file k f) = refl
below (Fault.Days k) = refl
below (Fault.Stops k) = refl

pub fault_another : (f : Fault) (n : ℕ) → within 12 n ≡ true → eqb (numbered_fault f).number n ≡ false
fault_another f n h = another (within 12) (numbered_fault f).number n (below f) h
