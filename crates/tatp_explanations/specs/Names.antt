-- The names of refusals and faults: docs/FORMATS.md, "Refusals".
use Rattle.std.specs.Prelude.{ℕ, ◌-◌, List, [], ◌∷◌, codes, slice_index_or}

-- by their numbers, from 1 on
abbrev pub names : List (List ℕ)
names =
    codes "NoCurrent" ∷ codes "Domain" ∷ codes "KeyExists" ∷ codes "NoParent" ∷ codes "BadLine"
    ∷ codes "BadOp" ∷ codes "UnusedNotZero" ∷ codes "BadRegister" ∷ codes "Syntax"
    ∷ codes "NoSuchLabel" ∷ codes "LabelTwice" ∷ codes "TooLong" ∷ codes "Truncated"
    ∷ codes "BadMagic" ∷ codes "Extra" ∷ codes "NameTwice" ∷ codes "BadHeader"
    ∷ codes "BackwardJump" ∷ codes "BadTarget" ∷ codes "FixedColumn" ∷ codes "NoSuchArgument"
    ∷ codes "TooManyOut" ∷ codes "TooManyWrites" ∷ codes "NoEnd" ∷ codes "NumberTwice"
    ∷ codes "BadArgument" ∷ codes "NotClean" ∷ codes "TooMany" ∷ codes "Running"
    ∷ codes "Stopped" ∷ codes "NotRunning" ∷ codes "AtBreak" ∷ codes "NotHere" ∷ codes "Pinned"
    ∷ codes "MoveCountFull" ∷ codes "TooManyBreaks" ∷ codes "NoExtent" ∷ codes "NoPartition"
    ∷ codes "SamePartition" ∷ codes "NoClient" ∷ codes "ClientBusy" ∷ codes "NothingQueued"
    ∷ codes "NotInHand" ∷ codes "ExtentMissing" ∷ codes "Unsettled" ∷ codes "NoMemory"
    ∷ codes "ReadFault" ∷ codes "NoProcedure" ∷ codes "NotStopped" ∷ codes "NoSlot"
    ∷ codes "StampFull" ∷ codes "WriteFault" ∷ codes "ForwardLoop" ∷ codes "LogEnded"
    ∷ codes "ChapterCountFull" ∷ codes "WrongHome" ∷ codes "NoThread" ∷ []

abbrev pub name_of : ℕ → List ℕ
name_of number = slice_index_or names (number - 1) []
