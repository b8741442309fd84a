-- Reading an assembly text from front to back, with the first fault that is met: docs/FORMATS.md,
-- "Assembly text".
use Rattle.std.specs.Prelude.{◌≡◌, ℕ, ◌+◌, ◌==◌, nat_lt, Bool, true, false, if◌then◌else◌, List, [], ◌∷◌, ◌++◌, length, bytes_eq, Option, Some, None, is_some, Result, Ok, Err}
use Rattle.tatp_limits.specs.declared.limits.TheConstants.{MAX_INSTRUCTIONS, MAX_PROCEDURES}
use Rattle.tatp_instr.specs.declared.instr.Instr.{Instr}
use Rattle.tatp_instr.specs.declared.version.Version.{Version}
use Rattle.tatp_instr.specs.Versions.{is_in}
use Rattle.tatp_encoding.specs.Modules.{Procedure, ModuleState}
use Rattle.tatp_asm.specs.declared.fault.AsmFaultKind.{AsmFaultKind}
use Rattle.tatp_asm.specs.declared.fault.AsmFaultKind.TheVariants.{Syntax, NoSuchLabel, LabelTwice, TooLong}
use Rattle.tatp_asm.specs.declared.fault.AsmFault.{AsmFault}
use Rattle.tatp_asm.specs.declared.fault.AsmError.{AsmError}
use Rattle.tatp_asm.specs.declared.fault.AsmError.TheVariants as errors
use Rattle.tatp_asm.specs.Instrs.{has_target, aimed}
use Rattle.tatp_asm.specs.Lines.{Line, Opens, Names, Does, Closes}
use Rattle.tatp_asm.specs.Words.{line_of_bytes}
use Rattle.tatp_asm.specs.Heads.{Head, head_of}

-- a fault of this line
abbrev pub fault : {A : Type 0} → AsmFaultKind → ℕ → Result A AsmFault
fault kind line = Err (record { kind = kind; line = line })

infixl 10 ◌>>=◌
abbrev pub ◌>>=◌ : {A B : Type 0} → Result A AsmFault → (A → Result B AsmFault) → Result B AsmFault
(Ok a) >>= f = f a
(Err e) >>= f = Err e

-- ---- what a function of the program gives
-- an error is the fault, or memory ran out
abbrev pub IsErrorOf : {B : Type 0} → AsmError → Result B AsmFault → Type 0
IsErrorOf errors.NoMemory read = Unit {0}
IsErrorOf (errors.Fault f) read = read ≡ Err f

-- its result, seen so, is what is read, unless memory ran out
abbrev pub Gives : {A B : Type 0} → (A → B) → Result A AsmError → Result B AsmFault → Type 0
Gives view (Ok a) read = read ≡ Ok (view a)
Gives view (Err e) read = IsErrorOf e read

-- ---- a procedure under way
-- an instruction, the label that it names, and its line
pub record Pending : Type 0 where
  pub instr : Instr
  pub label : List ℕ
  pub line : ℕ

-- its labels with their positions, and its instructions
pub record Open : Type 0 where
  pub name : List ℕ
  pub arity : ℕ
  pub labels : List (List ℕ × ℕ)
  pub code : List Pending

-- the procedures that have ended, and the one that has not
pub record State : Type 0 where
  pub closed : List Procedure
  pub current : Option Open

-- the place of a label
abbrev pub position_of : List (List ℕ × ℕ) → List ℕ → Option ℕ
position_of [] label = None
position_of (l ∷ labels) label = if bytes_eq label l.0 then Some l.1 else position_of labels label

-- an instruction with its target; the first value says whether it has one
abbrev pub resolved : Bool → Option ℕ → Pending → Result Instr AsmFault
resolved false position p = Ok p.instr
resolved true (Some position) p = Ok (aimed p.instr position)
resolved true None p = fault NoSuchLabel p.line

-- an instruction with the target that these labels give it
abbrev pub resolved_by : List (List ℕ × ℕ) → Pending → Result Instr AsmFault
resolved_by labels p = resolved (has_target p.instr) (position_of labels p.label) p

abbrev pub resolve : List (List ℕ × ℕ) → List Pending → Result (List Instr) AsmFault
resolve labels [] = Ok []
resolve labels (p ∷ more) =
    resolved_by labels p >>= λ i. resolve labels more >>= λ code. Ok (i ∷ code)

-- the procedure ends
abbrev pub close : List Procedure → Open → ℕ → Result State AsmFault
close closed o n =
    if length o.code == 0 then fault Syntax n else
    resolve o.labels o.code >>= λ code. Ok (record {
      closed = closed ++ (record { name = o.name; arity = o.arity; code = code } ∷ []);
      current = None;
    })

-- ---- one line more, the line n
abbrev pub step : List Procedure → Option Open → ℕ → Line → Result State AsmFault
step closed None n (Opens name arity) =
    if nat_lt (length closed) MAX_PROCEDURES
    then Ok (record {
      closed = closed;
      current = Some (record { name = name; arity = arity; labels = []; code = [] });
    })
    else fault TooLong n
step closed None n line = fault Syntax n
step closed (Some o) n (Opens name arity) = fault Syntax n
step closed (Some o) n (Names label) =
    if is_some (position_of o.labels label) then fault LabelTwice n else
    Ok (record {
      closed = closed;
      current = Some (record o { labels = o.labels ++ ((label, length o.code) ∷ []) });
    })
step closed (Some o) n (Does instr label) =
    if nat_lt (length o.code) MAX_INSTRUCTIONS
    then Ok (record {
      closed = closed;
      current = Some (record o {
        code = o.code ++ (record { instr = instr; label = label; line = n } ∷ []);
      });
    })
    else fault TooLong n
step closed (Some o) n Closes = close closed o n

abbrev pub step_of : State → ℕ → Option Line → Result State AsmFault
step_of s n None = fault Syntax n
step_of s n (Some line) = step s.closed s.current n line

-- ---- the text
-- the text ends before the line n
abbrev pub finish : List Procedure → Option Open → ℕ → Result (List Procedure) AsmFault
finish [] None n = fault Syntax n
finish (p ∷ more) None n = Ok (p ∷ more)
finish closed (Some o) n = fault Syntax n

-- a line of the version: an instruction that it lacks makes none
abbrev pub of_version : Version → Option Line → Option Line
of_version version None = None
of_version version (Some (Does instr label)) =
    if is_in version instr then Some (Does instr label) else None
of_version version (Some line) = Some line

-- the line that bytes are in a text of the version
abbrev pub line_in : Version → List ℕ → Option Line
line_in version bytes = of_version version (line_of_bytes bytes)

-- the lines from the line n on
abbrev pub reads : Version → ℕ → State → List (List ℕ) → Result (List Procedure) AsmFault
reads version n s [] = finish s.closed s.current n
reads version n s ([] ∷ texts) = reads version (n + 1) s texts
reads version n s ((byte ∷ bytes) ∷ texts) =
    step_of s n (line_in version (byte ∷ bytes)) >>= λ t. reads version (n + 1) t texts

abbrev pub start : State
start = record { closed = []; current = None }

-- the procedures of a text that begins so
abbrev pub procedures_after : Head → Result (List Procedure) AsmFault
procedures_after head = reads head.version head.line start head.left

abbrev pub assembled_after : Head → Result ModuleState AsmFault
assembled_after head = procedures_after head >>= λ procedures. Ok (record {
  version = head.version;
  procedures = procedures;
})

-- the module of a text, or the text's first fault
unfoldable pub assembled : List ℕ → Result ModuleState AsmFault
assembled text = assembled_after (head_of text)
