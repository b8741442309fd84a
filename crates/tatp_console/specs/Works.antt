-- What a run over lines writes, and what each fault leaves. Old and new are the bytes that a writer
-- holds.
use Rattle.std.specs.Prelude.{ℕ, ◌⊎◌, List, [], Option}
use Rattle.std.specs.Io.KnownBytes.{Appends}
use Rattle.tatp_lines.specs.Lines.{lines_of}
use Rattle.tatp_encoding.specs.Modules.{ModuleState}
use Rattle.tatp_extents.specs.Opening.{RefusesRows}
use Rattle.tatp_tasks.specs.declared.population.Population.{Population}
use Rattle.tatp_tasks.specs.declared.procedures.Procedures.{Procedures}
use Rattle.tatp_inputs.specs.declared.fault.InputFault.TheVariants.{Stream}
use Rattle.tatp_inputs.specs.Work.{Work}
use Rattle.tatp_console.specs.declared.fault.ConsoleFault.{ConsoleFault}
use Rattle.tatp_console.specs.declared.fault.ConsoleFault.TheVariants.{Input, Unopened}
use Rattle.tatp_console.specs.Brought.{OfInput, RefusesInput}

-- new is old and after it a text that has this relation to the module and the work of the input
abbrev pub WritesOfWork : (ModuleState → Work → List ℕ → Type 0)
    → Procedures → Population → List ℕ → Option (List ℕ) → Option (List ℕ) → Type 0
WritesOfWork IsText procedures population input old new =
    (text : List ℕ) × OfInput procedures population (lines_of input) (λ m work. IsText m work text)
    × Appends old new text

-- new has nothing besides, or such a text
abbrev pub WritesFrontOfWork : (ModuleState → Work → List ℕ → Type 0)
    → Procedures → Population → List ℕ → Option (List ℕ) → Option (List ℕ) → Type 0
WritesFrontOfWork IsFront procedures population input old new =
    Appends old new [] ⊎ WritesOfWork IsFront procedures population input old new

-- what each fault says of the input, and leaves, by what a front of what would be written is
abbrev pub Leaves : (ModuleState → Work → List ℕ → Type 0) → Procedures → Population → List ℕ
    → Option (List ℕ) → Option (List ℕ) → ConsoleFault → Type 0
Leaves IsFront procedures population input old new (Input (Stream fault)) =
    WritesFrontOfWork IsFront procedures population input old new
Leaves IsFront procedures population input old new (Unopened error) =
    OfInput procedures population (lines_of input) (λ m work. RefusesRows work.rows error)
    × Appends old new []
Leaves IsFront procedures population input old new fault =
    RefusesInput procedures population (lines_of input) fault × Appends old new []
