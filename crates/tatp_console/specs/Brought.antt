-- What an input brings to a run over lines: the module under which they are answered, the rows, and
-- the lines: docs/FORMATS.md.
use Rattle.std.specs.Prelude.{◌≡◌, ℕ, ◌+◌, List, length, Option, Some, None, Result, Ok, Err}
use Rattle.tatp_encoding.specs.Modules.{ModuleState}
use Rattle.tatp_loader.specs.Lawful.{IsLawful}
use Rattle.tatp_asm.specs.Texts.{IsTextOf}
use Rattle.tatp_procs.specs.Standard.{standard_module}
use Rattle.tatp_streams.specs.declared.fault.StreamFault.TheVariants.{WriteFault}
use Rattle.tatp_streams.specs.LineReading.{LinesLeft}
use Rattle.tatp_tables.specs.declared.row.Rows.{Rows}
use Rattle.tatp_assembly.specs.declared.fault.AssemblyFault.{AssemblyFault}
use Rattle.tatp_assembly.specs.declared.fault.AssemblyFault.TheVariants as assembly
use Rattle.tatp_assembly.specs.Modules.{RefusesText}
use Rattle.tatp_tasks.specs.declared.population.Population.{Population}
use Rattle.tatp_tasks.specs.declared.procedures.Procedures.{Procedures}
use Rattle.tatp_tasks.specs.declared.procedures.Procedures.TheVariants.{Standard, Read}
use Rattle.tatp_tasks.specs.declared.setup.Setup.{Setup}
use Rattle.tatp_inputs.specs.declared.fault.InputFault.TheVariants.{BadLine, Stream}
use Rattle.tatp_inputs.specs.Parts.{before_dot, after_dot, text_before_dot}
use Rattle.tatp_inputs.specs.Work.{Work, work_of}
use Rattle.tatp_console.specs.declared.fault.ConsoleFault.{ConsoleFault}
use Rattle.tatp_console.specs.declared.fault.ConsoleFault.TheVariants.{Input, Text, Module, Unopened}

-- ---- the module
-- it is the standard module; or what comes before the first line `.` is a text of it, and it keeps
-- the loader's rules
abbrev pub IsModuleAsked : Procedures → List (List ℕ) → ModuleState → Type 0
IsModuleAsked Standard lines m = m ≡ standard_module
IsModuleAsked Read lines m = IsTextOf (text_before_dot lines) m × IsLawful m

-- it is the standard module, or keeps the rules
abbrev pub IsModuleFor : Procedures → ModuleState → Type 0
IsModuleFor Standard m = m ≡ standard_module
IsModuleFor Read m = IsLawful m

-- why that text is refused
abbrev pub RefusesModule : Procedures → List (List ℕ) → AssemblyFault → Type 0
RefusesModule Standard lines fault = ⊥
RefusesModule Read lines fault = RefusesText (text_before_dot lines) fault

-- ---- the rows, and the lines that are answered
-- what the lines after the text's line `.` bring; n is the number of that line, which is the fault
-- where it is missing
abbrev pub work_after : Population → ℕ → Option (List (List ℕ)) → Result Work ℕ
work_after population n None = Err n
work_after population n (Some lines) = work_of population (n + 1) lines

-- all lines bring them, or those after the text; else the number of the line that is wrong
abbrev pub work_asked : Procedures → Population → List (List ℕ) → Result Work ℕ
work_asked Standard population lines = work_of population 1 lines
work_asked Read population lines =
    work_after population (1 + length (before_dot lines)) (after_dot lines)

-- ---- an input
-- `P` holds of the module and the work that its lines bring
abbrev pub OfInput : Procedures → Population → List (List ℕ)
    → (ModuleState → Work → Type 0) → Type 0
OfInput procedures population lines P =
    (m : ModuleState) × IsModuleAsked procedures lines m
    × (work : Work) × (work_asked procedures population lines ≡ Ok work) × P m work

-- why it is refused: a fault of the text comes before one of the rows. A reader can fail, and
-- memory run out, at any of its lines
abbrev pub RefusesInput : Procedures → Population → List (List ℕ) → ConsoleFault → Type 0
RefusesInput procedures population lines (Text fault) =
    RefusesModule procedures lines (assembly.Text fault)
RefusesInput procedures population lines (Module fault) =
    RefusesModule procedures lines (assembly.Module fault)
RefusesInput procedures population lines (Input (BadLine n)) =
    (m : ModuleState) × IsModuleAsked procedures lines m
    × (work_asked procedures population lines ≡ Err n)
RefusesInput procedures population lines (Input (Stream WriteFault)) = ⊥
RefusesInput procedures population lines (Input (Stream fault)) = Unit {0}
RefusesInput procedures population lines (Unopened error) = ⊥

-- ---- taking what it brings
-- of all these lines the first are the module's text, where it is read; those that are left, from
-- line n on, bring the work
pub record BringsModule (setup : Setup) (m : ModuleState) (n : ℕ) (all left : LinesLeft)
    : Type 0 where
  pub under : IsModuleAsked setup.procedures all.lines m
  pub work : work_asked setup.procedures setup.population all.lines
      ≡ work_of setup.population n left.lines
  pub input : left.input ≡ all.input

-- of all these lines the first bring this module and these rows, and those that are left are
-- answered
pub record Brings (setup : Setup) (m : ModuleState) (rows : Rows) (all left : LinesLeft)
    : Type 0 where
  pub under : IsModuleAsked setup.procedures all.lines m
  pub work : work_asked setup.procedures setup.population all.lines
      ≡ Ok (record { rows = rows; lines = left.lines })
  pub input : left.input ≡ all.input

-- the same fault among those of a run over lines
abbrev pub module_fault : AssemblyFault → ConsoleFault
module_fault (assembly.Text fault) = Text fault
module_fault (assembly.Module fault) = Module fault
module_fault (assembly.Stream fault) = Input (Stream fault)
