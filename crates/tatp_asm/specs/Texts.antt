-- Assembly text, and the module that it is a text of: docs/FORMATS.md, "Assembly text".
use Rattle.std.specs.Prelude.{◌≡◌, ℕ, suc, Bool, true, false, List, [], ◌∷◌, ◌++◌, codes}
use Rattle.tatp_instr.specs.declared.instr.Instr.{Instr}
use Rattle.tatp_instr.specs.declared.version.Version.{Version}
use Rattle.tatp_instr.specs.declared.version.Version.TheVariants.{One, Two}
use Rattle.tatp_encoding.specs.Modules.{Procedure, ModuleState}
use Rattle.tatp_asm.specs.Instrs.{has_target, aimed}
use Rattle.tatp_lines.specs.Lines.{lines_of}
use Rattle.tatp_asm.specs.Lines.{Line, Opens, Names, Does, Closes, line_text, IsLine}

-- how many of the lines are instructions
abbrev pub count : List Line → ℕ
count [] = 0
count (Does instr label ∷ lines) = suc (count lines)
count (_ ∷ lines) = count lines

-- the label is among the lines, with that number of instructions before it
abbrev pub Stands : List Line → List ℕ → ℕ → Type 0
Stands lines label position =
    (before after : List Line)
    × (lines ≡ before ++ (Names label ∷ after)) × (position ≡ count before)

-- no label occurs twice
abbrev pub NoneTwice : List Line → Type 0
NoneTwice [] = Unit {0}
NoneTwice (Names label ∷ lines) =
    ((position : ℕ) → Stands lines label position → ⊥) × NoneTwice lines
NoneTwice (_ ∷ lines) = NoneTwice lines

-- what the instruction of a line means among the lines of its procedure: a jump goes where its
-- label is
abbrev pub Means : Bool → List Line → Instr → List ℕ → Instr → Type 0
Means true body instr label meant =
    (position : ℕ) × Stands body label position × (meant ≡ aimed instr position)
Means false body instr label meant = meant ≡ instr

-- the instructions among these lines of a procedure are the code
abbrev pub IsCode : List Line → List Line → List Instr → Type 0
IsCode body [] code = code ≡ []
IsCode body (Does instr label ∷ lines) [] = ⊥
IsCode body (Does instr label ∷ lines) (meant ∷ code) =
    Means (has_target instr) body instr label meant × IsCode body lines code
IsCode body (Names label ∷ lines) code = IsCode body lines code
IsCode body (_ ∷ lines) code = ⊥

-- the lines are those of these procedures, one after another
abbrev pub AreProcedureLines : List Line → List Procedure → Type 0
AreProcedureLines lines [] = lines ≡ []
AreProcedureLines lines (p ∷ more) =
    (body rest : List Line) × (lines ≡ Opens p.name p.arity ∷ (body ++ (Closes ∷ rest)))
    × NoneTwice body × IsCode body body p.code × AreProcedureLines rest more

-- the texts without the empty ones are the texts of these lines
abbrev pub AreTexts : List (List ℕ) → List Line → Type 0
AreTexts [] lines = lines ≡ []
AreTexts ([] ∷ texts) lines = AreTexts texts lines
AreTexts ((byte ∷ bytes) ∷ texts) [] = ⊥
AreTexts ((byte ∷ bytes) ∷ texts) (line ∷ lines) =
    (byte ∷ bytes ≡ line_text line) × IsLine line × AreTexts texts lines

-- the texts of a module's lines: in version 2 the first that isn't empty says so
abbrev pub AreModuleTexts : Version → List (List ℕ) → List Line → Type 0
AreModuleTexts One texts lines = AreTexts texts lines
AreModuleTexts Two [] lines = ⊥
AreModuleTexts Two ([] ∷ texts) lines = AreModuleTexts Two texts lines
AreModuleTexts Two ((byte ∷ bytes) ∷ texts) lines =
    (byte ∷ bytes ≡ codes "version 2") × AreTexts texts lines

-- the text is a text of this module
pub record IsTextOf (text : List ℕ) (m : ModuleState) : Type 0 where
  pub lines : List Line
  pub texts : AreModuleTexts m.version (lines_of text) lines
  pub procedures : AreProcedureLines lines m.procedures
