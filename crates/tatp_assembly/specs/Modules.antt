-- What the commands `asm`, `dis` and `check` write, and what each fault leaves.
use Rattle.std.specs.Prelude.{◌≡◌, ℕ, List, [], ◌++◌, length, sum_by, codes, decimal, Option, Some, Err}
use Rattle.std.specs.Io.KnownBytes.{Appends}
use Rattle.tatp_encoding.specs.Modules.{Procedure, ModuleState}
use Rattle.tatp_loader.specs.declared.fault.LoadError.{LoadError}
use Rattle.tatp_loader.specs.declared.fault.LoadError.TheVariants.{NoMemory as NoMemoryToLoad, Fault as InBytes}
use Rattle.tatp_loader.specs.Lawful.{IsLawful}
use Rattle.tatp_loader.specs.ModuleBytes.{IsModuleOf}
use Rattle.tatp_loader.specs.Reading.{lawful_module_at}
use Rattle.tatp_loader.specs.Rules.{first_fault}
use Rattle.tatp_asm.specs.declared.fault.AsmError.{AsmError}
use Rattle.tatp_asm.specs.declared.fault.AsmError.TheVariants.{NoMemory as NoMemoryToAssemble, Fault as InText}
use Rattle.tatp_asm.specs.Texts.{IsTextOf}
use Rattle.tatp_asm.specs.Printing.{disassembled}
use Rattle.tatp_asm.specs.Reading.{assembled}
use Rattle.tatp_streams.specs.declared.fault.StreamFault.TheVariants.{NoMemory}
use Rattle.tatp_streams.specs.Writing.{LeavesText}
use Rattle.tatp_assembly.specs.declared.fault.AssemblyFault.{AssemblyFault}
use Rattle.tatp_assembly.specs.declared.fault.AssemblyFault.TheVariants.{Text, Module, Stream}

-- ---- what is written
-- the bytes are those of a module that keeps the rules, and the text is its text
pub record IsModuleOfText (text : List ℕ) (bytes : List ℕ) : Type 0 where
  pub m : ModuleState
  pub text_of : IsTextOf text m
  pub lawful : IsLawful m
  pub bytes_of : IsModuleOf bytes m

-- the bytes are those of a module that keeps the rules, and the text is that one of its texts which
-- is printed
pub record IsTextOfModule (bytes : List ℕ) (text : List ℕ) : Type 0 where
  pub m : ModuleState
  pub bytes_of : IsModuleOf bytes m
  pub lawful : IsLawful m
  pub text_of : IsTextOf text m
  pub printed : text ≡ disassembled m

-- how many instructions the procedures have together
abbrev pub instruction_count : List Procedure → ℕ
instruction_count procedures = sum_by (λ p. length p.code) procedures

-- what is said of a module: how many procedures and instructions it has
abbrev pub approval : ModuleState → List ℕ
approval m =
    codes "OK " ++ (decimal (length m.procedures)
    ++ (codes " " ++ (decimal (instruction_count m.procedures) ++ codes "\n")))

-- the bytes are those of a module that keeps the rules, and the text says so
pub record IsApprovalOf (bytes : List ℕ) (text : List ℕ) : Type 0 where
  pub m : ModuleState
  pub bytes_of : IsModuleOf bytes m
  pub lawful : IsLawful m
  pub said : text ≡ approval m

-- ---- faults
abbrev pub assembling_fault : AsmError → AssemblyFault
assembling_fault NoMemoryToAssemble = Stream NoMemory
assembling_fault (InText fault) = Text fault

abbrev pub loading_fault : LoadError → AssemblyFault
loading_fault NoMemoryToLoad = Stream NoMemory
loading_fault (InBytes fault) = Module fault

-- why a text isn't assembled
abbrev pub RefusesText : List ℕ → AssemblyFault → Type 0
RefusesText text (Text fault) = assembled text ≡ Err fault
RefusesText text (Module fault) =
    (m : ModuleState) × IsTextOf text m × (first_fault m ≡ Some fault)
RefusesText text (Stream NoMemory) = Unit {0}
RefusesText text (Stream fault) = ⊥

-- why bytes aren't loaded
abbrev pub RefusesBytes : List ℕ → AssemblyFault → Type 0
RefusesBytes bytes (Module fault) = lawful_module_at bytes ≡ Err fault
RefusesBytes bytes (Stream NoMemory) = Unit {0}
RefusesBytes bytes fault = ⊥

-- what each fault says and leaves, by why the input is refused and what would be written
abbrev pub Leaves : (AssemblyFault → Type 0) → (List ℕ → Type 0)
    → Option (List ℕ) → Option (List ℕ) → AssemblyFault → Type 0
Leaves Refuses IsText old new (Stream fault) = LeavesText IsText old new fault
Leaves Refuses IsText old new fault = Refuses fault × Appends old new []
