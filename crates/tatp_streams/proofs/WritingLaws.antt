-- A text that is made of all that was read, and the writing of it.
use Rattle.std.specs.Prelude.{◌≡◌, ℕ, List, take, drop, Option, Some, None}
use Rattle.std.proofs.Common.{sym, subst}
use Rattle.std.proofs.lemmas.List.{take-append-drop}
use Rattle.std.specs.Option.{IfSome}
use Rattle.tatp_streams.specs.declared.fault.StreamFault.{StreamFault}
use Rattle.tatp_streams.specs.declared.fault.StreamFault.TheVariants.{WriteFault}
use Rattle.tatp_streams.specs.Writing.{AppendsFront, LeavesText}

-- where a front of the text was written
pub cut : (IsText : List ℕ → Type 0) (old new : Option (List ℕ)) (text : List ℕ) (fault : StreamFault)
    → IsText text → fault ≡ WriteFault → AppendsFront text old new → LeavesText IsText old new fault
cut IsText old new text fault is e front =
    let n = front.0 in
    subst (LeavesText IsText old new) (sym e) (take n text, drop n text, subst IsText (sym (take-append-drop n text)) is, front.1)

-- the same, where the text was made of all that was read
pub cut_of_input : (IsText : List ℕ → List ℕ → Type 0) (known : Option (List ℕ)) (all text : List ℕ) (old new : Option (List ℕ)) (fault : StreamFault)
    → IfSome known (λ input. all ≡ input) → IsText all text → fault ≡ WriteFault → AppendsFront text old new
    → IfSome known (λ input. LeavesText (IsText input) old new fault)
cut_of_input IsText None all text old new fault input is why front = tt
cut_of_input IsText (Some bytes) all text old new fault input is why front =
    cut (IsText bytes) old new text fault (subst (λ read. IsText read text) input is) why front

-- the same, where the text is known to be one of the input
pub cut_of_known : (IsText : List ℕ → List ℕ → Type 0) (known : Option (List ℕ)) (text : List ℕ) (old new : Option (List ℕ)) (fault : StreamFault)
    → IfSome known (λ input. IsText input text) → fault ≡ WriteFault → AppendsFront text old new
    → IfSome known (λ input. LeavesText (IsText input) old new fault)
cut_of_known IsText None text old new fault is why front = tt
cut_of_known IsText (Some bytes) text old new fault is why front = cut (IsText bytes) old new text fault is why front
