-- The lines of an assembly text: docs/FORMATS.md, "Assembly text".
use Rattle.std.specs.Prelude.{◌≡◌, ℕ, ◌≤◌, nat_lt, ◌==◌, ◌&&◌, ◌||◌, Bool, true, false, List, [], ◌∷◌, ◌++◌, length, codes, decimal}
use Rattle.std.specs.List.{list_all}
use Rattle.tatp_limits.specs.declared.limits.TheConstants.{MAX_ARGUMENTS, MAX_NAME_BYTES}
use Rattle.tatp_lines.specs.Numbers.{is_between}
use Rattle.tatp_instr.specs.declared.instr.Instr.{Instr}
use Rattle.tatp_instr.specs.declared.instr.Instr.TheVariants.{Jmp, Jz, Loop}
use Rattle.tatp_instr.specs.Instrs.{text_of, register_text}
use Rattle.tatp_encoding.specs.Modules.{is_name}
use Rattle.tatp_encoding.specs.Spelling.{IsInstr}
use Rattle.tatp_asm.specs.Instrs.{has_target, aimed}

-- a line that isn't empty: a procedure begins, a label, an instruction, the procedure ends; a jump
-- has the target 0 here, beside the label that it names
pub data Line : Type 0 where
  Opens : List ℕ → ℕ → Line
  Names : List ℕ → Line
  Does : Instr → List ℕ → Line
  Closes : Line

-- the text of an instruction, with a label for its target
abbrev pub instruction_text : Instr → List ℕ → List ℕ
instruction_text (Jmp t) label = codes "JMP @" ++ label
instruction_text (Jz a t) label = codes "JZ " ++ register_text a ++ codes ",@" ++ label
instruction_text (Loop a t) label = codes "LOOP " ++ register_text a ++ codes ",@" ++ label
instruction_text instr label = text_of instr

abbrev pub line_text : Line → List ℕ
line_text (Opens name arity) = codes "proc " ++ name ++ codes " " ++ decimal arity
line_text (Names label) = label ++ codes ":"
line_text (Does instr label) = instruction_text instr label
line_text Closes = codes "end"

abbrev pub is_letter : ℕ → Bool
is_letter byte = is_between 65 90 byte || is_between 97 122 byte

-- a letter, a digit or the underscore
abbrev pub is_label_byte : ℕ → Bool
is_label_byte byte = is_letter byte || is_between 48 57 byte || byte == 95

-- a letter, and then letters, digits or underscores, in all as many as a name may have
unfoldable pub is_label : List ℕ → Bool
is_label [] = false
is_label (first ∷ more) =
    is_letter first && (list_all is_label_byte more && nat_lt (length more) MAX_NAME_BYTES)

-- a jump names a label, and no other instruction does
abbrev pub NamesLabel : Bool → List ℕ → Type 0
NamesLabel true label = is_label label ≡ true
NamesLabel false label = label ≡ []

-- a line whose parts are in their ranges
abbrev pub IsLine : Line → Type 0
IsLine (Opens name arity) = (is_name name ≡ true) × (arity ≤ MAX_ARGUMENTS)
IsLine (Names label) = is_label label ≡ true
IsLine (Does instr label) =
    IsInstr instr × (aimed instr 0 ≡ instr) × NamesLabel (has_target instr) label
IsLine Closes = Unit {0}
