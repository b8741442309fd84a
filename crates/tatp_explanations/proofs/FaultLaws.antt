-- What is left where a text can't be written.
use Rattle.std.specs.Prelude.{◌≡◌, ℕ, List, Option}
use Rattle.std.proofs.Common.{sym, subst, refl}
use Rattle.tatp_streams.specs.declared.fault.StreamFault.{StreamFault}
use Rattle.tatp_streams.specs.declared.fault.StreamFault.TheVariants.{WriteFault}
use Rattle.tatp_streams.specs.Writing.{AppendsFront}
use Rattle.tatp_streams.proofs.WritingLaws.{cut}
use Rattle.tatp_explanations.specs.Texts.{LeavesFront}

-- a front of the text was written
pub front_left : (IsText : List ℕ → Type 0) (old new : Option (List ℕ)) (text : List ℕ) (fault : StreamFault)
    → IsText text → fault ≡ WriteFault → AppendsFront text old new → LeavesFront IsText old new fault
front_left IsText old new text fault is e front =
    subst (LeavesFront IsText old new) (sym e) (cut IsText old new text WriteFault is refl front)
