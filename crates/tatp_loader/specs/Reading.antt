-- Reading a module from front to back, with the first fault that is met: docs/FORMATS.md, "Modules
-- as bytes".
use Rattle.std.specs.Prelude.{◌≡◌, ℕ, zero, suc, Bool, ◌==◌, nat_lt, nat_le, if◌then◌else◌, List, [], ◌∷◌, length, take, drop, Option, Some, None, Result, Ok, Err, bytes_eq}
use Rattle.std.specs.Int.{w16, from_be_bytes}
use Rattle.std.specs.List.{list_all}
use Rattle.tatp_limits.specs.declared.limits.TheConstants.{MAX_ARGUMENTS, MAX_INSTRUCTIONS, MAX_NAME_BYTES, MAX_PROCEDURES}
use Rattle.tatp_lines.specs.Numbers.{is_between}
use Rattle.tatp_instr.specs.declared.instr.Instr.{Instr}
use Rattle.tatp_instr.specs.declared.version.Version.{Version}
use Rattle.tatp_instr.specs.declared.version.Version.TheVariants.{One, Two}
use Rattle.tatp_encoding.specs.declared.decoding.Bad.{Bad}
use Rattle.tatp_encoding.specs.declared.decoding.Bad.TheVariants as bad
use Rattle.tatp_encoding.specs.Decoding.{decoded}
use Rattle.tatp_encoding.specs.Modules.{Procedure, ModuleState, is_name_byte}
use Rattle.tatp_loader.specs.declared.fault.LoadFaultKind.{LoadFaultKind}
use Rattle.tatp_loader.specs.declared.fault.LoadFaultKind.TheVariants.{BadOp, UnusedNotZero, BadRegister, Truncated, BadMagic, Extra, BadHeader}
use Rattle.tatp_loader.specs.declared.fault.LoadFault.{LoadFault}
use Rattle.tatp_loader.specs.declared.fault.LoadError.{LoadError}
use Rattle.tatp_loader.specs.declared.fault.LoadError.TheVariants as errors
use Rattle.tatp_loader.specs.Rules.{fault, first_fault}
use Rattle.tatp_loader.specs.ModuleBytes.{magic}

infixl 10 ◌>>=◌
abbrev pub ◌>>=◌ : {A B : Type 0} → Result A LoadFault → (A → Result B LoadFault)
    → Result B LoadFault
(Ok a) >>= f = f a
(Err e) >>= f = Err e

-- ---- what a function of the program gives
-- its result, seen so, is what is read
abbrev pub Reads : {A B : Type 0} → (A → B) → Result A LoadFault → Result B LoadFault → Type 0
Reads view (Ok a) read = read ≡ Ok (view a)
Reads view (Err f) read = read ≡ Err f

-- an error is the fault, or memory ran out
abbrev pub IsErrorOf : {B : Type 0} → LoadError → Result B LoadFault → Type 0
IsErrorOf errors.NoMemory read = Unit {0}
IsErrorOf (errors.Fault f) read = read ≡ Err f

-- its result, seen so, is what is read, unless memory ran out
abbrev pub Gives : {A B : Type 0} → (A → B) → Result A LoadError → Result B LoadFault → Type 0
Gives view (Ok a) read = read ≡ Ok (view a)
Gives view (Err e) read = IsErrorOf e read

-- ---- fields: a value, and the bytes after it
abbrev pub cut : ℕ → LoadFault
cut n = fault Truncated n 0

abbrev pub bad_header : ℕ → LoadFault
bad_header n = fault BadHeader n 0

-- a value that passes its test
abbrev pub passing : {A : Type 0} → LoadFault → Bool → A → Result A LoadFault
passing wrong passes a = if passes then Ok a else Err wrong

-- one byte; the input may end before it
abbrev pub byte_at : LoadFault → List ℕ → Result (ℕ × List ℕ) LoadFault
byte_at ends [] = Err ends
byte_at ends (byte ∷ rest) = Ok (byte, rest)

-- the next k bytes; the input may end before their last
abbrev pub bytes_at : LoadFault → ℕ → List ℕ → Result (List ℕ × List ℕ) LoadFault
bytes_at ends k bytes =
    if nat_lt (length bytes) k then Err ends else Ok (take k bytes, drop k bytes)

-- ---- the procedure n
unfoldable pub name_at : ℕ → List ℕ → Result (List ℕ × List ℕ) LoadFault
name_at n bytes = do
  size ← byte_at (cut n) bytes
  sized ← passing (bad_header n) (is_between 1 MAX_NAME_BYTES size.0) size
  name ← bytes_at (cut n) sized.0 sized.1
  passing (bad_header n) (list_all is_name_byte name.0) name

unfoldable pub arity_at : ℕ → List ℕ → Result (ℕ × List ℕ) LoadFault
arity_at n bytes = do
  arity ← byte_at (cut n) bytes
  passing (bad_header n) (nat_le arity.0 MAX_ARGUMENTS) arity

-- how many instructions there are
unfoldable pub length_at : ℕ → List ℕ → Result (ℕ × List ℕ) LoadFault
length_at n bytes = do
  field ← bytes_at (cut n) 2 bytes
  passing (bad_header n)
      (is_between 1 MAX_INSTRUCTIONS (from_be_bytes w16 field.0))
      (from_be_bytes w16 field.0, field.1)

abbrev pub kind_of : Bad → LoadFaultKind
kind_of bad.BadOp = BadOp
kind_of bad.UnusedNotZero = UnusedNotZero
kind_of bad.BadRegister = BadRegister

-- a fault of the instruction i
abbrev pub placed : ℕ → ℕ → Result Instr Bad → Result Instr LoadFault
placed n i (Ok instr) = Ok instr
placed n i (Err why) = Err (fault (kind_of why) n i)

unfoldable pub instr_at : Version → ℕ → ℕ → List ℕ → Result (Instr × List ℕ) LoadFault
instr_at version n i bytes = do
  field ← bytes_at (fault Truncated n i) 8 bytes
  instr ← placed n i (decoded version field.0)
  Ok (instr, field.1)

-- this number of instructions, the first of them being i
unfoldable pub code_at : Version → ℕ → ℕ → ℕ → List ℕ → Result (List Instr × List ℕ) LoadFault
code_at version n i zero bytes = Ok ([], bytes)
code_at version n i (suc k) bytes = do
  first ← instr_at version n i bytes
  others ← code_at version n (suc i) k first.1
  Ok (first.0 ∷ others.0, others.1)

unfoldable pub procedure_at : Version → ℕ → List ℕ → Result (Procedure × List ℕ) LoadFault
procedure_at version n bytes = do
  name ← name_at n bytes
  arity ← arity_at n name.1
  len ← length_at n arity.1
  code ← code_at version n 0 len.0 len.1
  Ok (record { name = name.0; arity = arity.0; code = code.0 }, code.1)

-- ---- the module
-- this number of procedures, the first of them being n
unfoldable pub procedures_at : Version → ℕ → ℕ → List ℕ → Result (List Procedure × List ℕ) LoadFault
procedures_at version n zero bytes = Ok ([], bytes)
procedures_at version n (suc k) bytes = do
  first ← procedure_at version n bytes
  others ← procedures_at version (suc n) k first.1
  Ok (first.0 ∷ others.0, others.1)

-- the version whose modules begin so, if one's do
abbrev pub version_of : List ℕ → Option Version
version_of front =
    if bytes_eq front (magic One) then Some One else
    if bytes_eq front (magic Two) then Some Two else
    None

-- a version, and the bytes after its magic
abbrev pub told_version : Option Version → List ℕ → Result (Version × List ℕ) LoadFault
told_version None rest = Err (fault BadMagic 0 0)
told_version (Some version) rest = Ok (version, rest)

unfoldable pub version_at : List ℕ → Result (Version × List ℕ) LoadFault
version_at bytes = do
  front ← bytes_at (cut 0) 4 bytes
  told_version (version_of front.0) front.1

-- the version, and how many procedures there are, after the magic
unfoldable pub count_at : List ℕ → Result (Version × (ℕ × List ℕ)) LoadFault
count_at bytes = do
  version ← version_at bytes
  count ← byte_at (cut 0) version.1
  counted ← passing (bad_header 0) (is_between 1 MAX_PROCEDURES count.0) count
  Ok (version.0, counted)

-- all of the bytes
unfoldable pub module_at : List ℕ → Result ModuleState LoadFault
module_at bytes = do
  count ← count_at bytes
  procs ← procedures_at count.0 0 count.1.0 count.1.1
  passing (fault Extra 0 0) (length procs.1 == 0)
      (record { version = count.0; procedures = procs.0 })

-- ---- the rules, after them
abbrev pub unless : Option LoadFault → ModuleState → Result ModuleState LoadFault
unless None m = Ok m
unless (Some f) m = Err f

unfoldable pub lawful_module_at : List ℕ → Result ModuleState LoadFault
lawful_module_at bytes = do
  m ← module_at bytes
  unless (first_fault m) m
