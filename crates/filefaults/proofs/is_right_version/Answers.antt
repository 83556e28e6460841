-- `filefaults::is_right_version` meets its contract: its length, its reading and its one record, each with no fault.
use mathlib.Core.Bool.{Bool, true}
use mathlib.Core.List.{List}
use mathlib.Core.Path.{◌≡◌, sym, ◌∙◌}
use Prim.Native.Nat.{ℕ}
use native.Mathlib.Omega.{arith}
use lib.Dec.{eqb}
use lib.ListN.{length}
use borrow.Author.Tests.{eqb-true, leb-true}
use Rattle.file.specs.Reading.{reading}
use Rattle.file.specs.declared.Outcome.{Outcome}
use Rattle.walk.specs.Walk.{LegalFrom}
use Rattle.filefaults.specs.Faults.{outcome_fault}
use Rattle.filefaults.proofs.VersionLaws.{outcome_whole}
use Rattle.fault.specs.Answers.{numbered_fault}
use Rattle.fault.specs.declared.Fault.{Fault}
use Rattle.fault.proofs.FaultLaws.{none_zero}
use Rattle.filefaults.proofs.is_right_version.Goals as goal
use Rattle.filefaults.proofs.is_right_version.Goals.{then-s-le-LONGEST, else-s-le-LONGEST}

-- VerzeJDF is legal where its reading was tried and has no fault
legal : (s : List ℕ) (o : Outcome) (f : Fault) (r : Bool) → o ≡ reading 1 s → numbered_fault f ≡ outcome_fault 1 o → r ≡ eqb (numbered_fault f).number 0 → r ≡ true → LegalFrom 1 s 0
legal s o f r a b t h = outcome_whole 1 1 s (omega arith) o (sym a) (rw b at (eqb-true _ 0 (sym t ∙ h)))

pub version_fault-requires : goal.version_fault-requires
version_fault-requires c =
    elim c.if-s-le-LONGEST.branch [
      | then-s-le-LONGEST w ↦ legal _ _ _ _ w.read.ensures w.outcome_fault.ensures w.is_none.ensures (sym w.value-is ∙ c.if-is_none.true)
      | else-s-le-LONGEST w ↦
          let short = leb-true (length c.args.s.now) 16777215 (sym w.value-is ∙ c.if-is_none.true) in
          absurd (omega arith)
    ]

pub returns-then-is_none : goal.returns-then-is_none
returns-then-is_none c t =
    elim c.if-s-le-LONGEST.branch [
      | then-s-le-LONGEST w ↦
          record {
            short = w.if-s-le-LONGEST.true;
            legal = legal _ _ _ _ w.read.ensures w.outcome_fault.ensures w.is_none.ensures (sym w.value-is ∙ c.if-is_none.true);
            right = sym c.version_fault.ensures ∙ none_zero _ (eqb-true _ 0 (sym c.is_none-then-is_none.ensures ∙ t));
          }
      | else-s-le-LONGEST w ↦
          let short = leb-true (length c.args.s.now) 16777215 (sym w.value-is ∙ c.if-is_none.true) in
          absurd (omega arith)
    ]
