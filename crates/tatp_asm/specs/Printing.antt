-- The text that is printed of a module: docs/FORMATS.md, "Assembly text".
use Rattle.std.specs.Prelude.{ℕ, suc, Bool, false, ◌||◌, ◌==◌, if◌then◌else◌, List, [], ◌∷◌, ◌++◌, codes, decimal, Option, Some, None}
use Rattle.tatp_instr.specs.declared.instr.Instr.{Instr}
use Rattle.tatp_instr.specs.declared.version.Version.{Version}
use Rattle.tatp_instr.specs.declared.version.Version.TheVariants.{One, Two}
use Rattle.tatp_encoding.specs.Modules.{Procedure, ModuleState}
use Rattle.tatp_asm.specs.Instrs.{target_of, aimed}
use Rattle.tatp_asm.specs.Lines.{Line, Opens, Names, Does, Closes, line_text}

-- the label of a position
unfoldable pub label_at : ℕ → List ℕ
label_at position = codes "L" ++ decimal position

abbrev pub is_target : Option ℕ → ℕ → Bool
is_target None position = false
is_target (Some t) position = t == position

-- whether a jump of the code names the position
abbrev pub is_named : List Instr → ℕ → Bool
is_named [] position = false
is_named (instr ∷ code) position = is_target (target_of instr) position || is_named code position

-- ---- lines
-- the label of a position that is named, before these lines
abbrev pub with_label : Bool → ℕ → List Line → List Line
with_label named position lines = if named then Names (label_at position) ∷ lines else lines

abbrev pub label_of : Option ℕ → List ℕ
label_of None = []
label_of (Some t) = label_at t

-- an instruction beside the label of its target
abbrev pub instruction_line : Instr → Line
instruction_line instr = Does (aimed instr 0) (label_of (target_of instr))

-- code from a position on, with the labels that all of the code names
abbrev pub body_lines : List Instr → ℕ → List Instr → List Line
body_lines all position [] = with_label (is_named all position) position []
body_lines all position (instr ∷ code) = with_label (is_named all position) position
    (instruction_line instr ∷ body_lines all (suc position) code)

abbrev pub module_lines : List Procedure → List Line
module_lines [] = []
module_lines (p ∷ more) =
    Opens p.name p.arity ∷ (body_lines p.code 0 p.code ++ (Closes ∷ module_lines more))

-- ---- text
-- each line ends with a line feed
abbrev pub lines_text : List Line → List ℕ
lines_text [] = []
lines_text (line ∷ lines) = line_text line ++ (10 ∷ lines_text lines)

-- a procedure by itself
abbrev pub procedure_lines : Procedure → List Line
procedure_lines p = Opens p.name p.arity ∷ (body_lines p.code 0 p.code ++ (Closes ∷ []))

-- the line that says version 2, before all others
abbrev pub version_text : Version → List ℕ
version_text One = []
version_text Two = codes "version 2\n"

unfoldable pub disassembled : ModuleState → List ℕ
disassembled m = version_text m.version ++ lines_text (module_lines m.procedures)
