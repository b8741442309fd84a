-- The bytes of a module: docs/FORMATS.md, "Modules as bytes".
use Rattle.std.specs.Prelude.{◌≡◌, ℕ, List, [], ◌∷◌, ◌++◌, length, All}
use Rattle.std.specs.Int.{w16, to_be_bytes}
use Rattle.tatp_instr.specs.declared.instr.Instr.{Instr}
use Rattle.tatp_instr.specs.declared.version.Version.{Version}
use Rattle.tatp_instr.specs.declared.version.Version.TheVariants.{One, Two}
use Rattle.tatp_encoding.specs.Modules.{Procedure, ModuleState}
use Rattle.tatp_encoding.specs.Spelling.{spelling, IsInstr}

-- what each module of a version begins with
abbrev pub magic : Version → List ℕ
magic One = 0x54 ∷ 0x50 ∷ 0x4D ∷ 0x01 ∷ []
magic Two = 0x54 ∷ 0x50 ∷ 0x4D ∷ 0x02 ∷ []

-- eight bytes an instruction
unfoldable pub code_bytes : List Instr → List ℕ
code_bytes [] = []
code_bytes (instr ∷ more) = spelling instr ++ code_bytes more

-- the length of the name, the name, the arity, how many instructions there are, and those
unfoldable pub procedure_bytes : Procedure → List ℕ
procedure_bytes p =
    length p.name
    ∷ (p.name ++ (p.arity ∷ (to_be_bytes w16 (length p.code) ++ code_bytes p.code)))

unfoldable pub procedures_bytes : List Procedure → List ℕ
procedures_bytes [] = []
procedures_bytes (p ∷ more) = procedure_bytes p ++ procedures_bytes more

-- the magic of its version, how many procedures there are, and those
unfoldable pub module_bytes : ModuleState → List ℕ
module_bytes m = magic m.version ++ (length m.procedures ∷ procedures_bytes m.procedures)

-- the bytes are the module's, all of them
abbrev pub IsModuleOf : List ℕ → ModuleState → Type 0
IsModuleOf bytes m = bytes ≡ module_bytes m

-- the registers and numbers of its instructions are those that a program can have
abbrev pub HasInstrs : Procedure → Type 0
HasInstrs p = All IsInstr p.code
