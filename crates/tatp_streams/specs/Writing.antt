-- What is written, and what each fault leaves. Old and new are the bytes that a writer holds.
use Rattle.std.specs.Prelude.{◌≡◌, ℕ, List, [], ◌++◌, ◌⊎◌, take, Option}
use Rattle.std.specs.Io.KnownBytes.{Appends}
use Rattle.tatp_streams.specs.declared.fault.StreamFault.{StreamFault}
use Rattle.tatp_streams.specs.declared.fault.StreamFault.TheVariants.{NoMemory, ReadFault, WriteFault}

-- ---- bytes at hand
-- new is old and then a first part of these bytes
abbrev pub AppendsFront : List ℕ → Option (List ℕ) → Option (List ℕ) → Type 0
AppendsFront bytes old new = (n : ℕ) × Appends old new (take n bytes)

-- either the pending bytes stay and nothing is written, or they are written and none is pending
abbrev pub KeepsOrAppends : List ℕ → List ℕ → Option (List ℕ) → Option (List ℕ) → Type 0
KeepsOrAppends pending left old new =
    ((left ≡ pending) × (new ≡ old)) ⊎ (Appends old new pending × (left ≡ []))

-- ---- a text that is known by what holds of it
-- new is old and then a text of which this holds
abbrev pub WritesText : (List ℕ → Type 0) → Option (List ℕ) → Option (List ℕ) → Type 0
WritesText IsText old new = (text : List ℕ) × IsText text × Appends old new text

-- new is old and then a front of such a text: none, some or all of its bytes
abbrev pub WritesFrontOfText : (List ℕ → Type 0) → Option (List ℕ) → Option (List ℕ) → Type 0
WritesFrontOfText IsText old new =
    (front : List ℕ) × (rest : List ℕ) × IsText (front ++ rest) × Appends old new front

-- what a fault leaves written of a command that reads its whole input and then writes such a text
abbrev pub LeavesText : (List ℕ → Type 0) → Option (List ℕ) → Option (List ℕ) → StreamFault → Type 0
LeavesText IsText old new NoMemory = Appends old new []
LeavesText IsText old new ReadFault = Appends old new []
LeavesText IsText old new WriteFault = WritesFrontOfText IsText old new
