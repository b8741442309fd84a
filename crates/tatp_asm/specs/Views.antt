-- What the definitions see of the program's values.
use Rattle.std.specs.Prelude.{◌≡◌, ℕ, ◌≤◌, true, List, [], ◌∷◌, length, map, Option, Some, option_map, IfSome, String}
use Rattle.std.specs.String.{string_bytes}
use Rattle.tatp_limits.specs.declared.limits.TheConstants.{MAX_ARGUMENTS, MAX_INSTRUCTIONS}
use Rattle.tatp_lines.specs.Lines.{lines_of}
use Rattle.tatp_encoding.specs.Modules.{Procedure, is_name}
use Rattle.tatp_asm.specs.declared.fields.Split.{Split}
use Rattle.tatp_asm.specs.declared.fields.Split.TheVariants.{One, Two, Three, More}
use Rattle.tatp_asm.specs.declared.operands.Operand.{Operand}
use Rattle.tatp_asm.specs.declared.operands.Operand.TheVariants as operand
use Rattle.tatp_asm.specs.declared.operands.Given.{Given}
use Rattle.tatp_asm.specs.declared.head.Head.{Head}
use Rattle.tatp_asm.specs.declared.line.Line.{Line}
use Rattle.tatp_asm.specs.declared.line.Line.TheVariants.{Opening, Label, Instruction, Ending}
use Rattle.tatp_asm.specs.declared.draft.Draft.{Draft}
use Rattle.tatp_asm.specs.declared.draft.Unresolved.{Unresolved}
use Rattle.tatp_asm.specs.Lines.{Opens, Names, Does, Closes}
use Rattle.tatp_asm.specs.Lines as lines
use Rattle.tatp_asm.specs.Words.{Register, Number, Target}
use Rattle.tatp_asm.specs.Words as words
use Rattle.tatp_asm.specs.Heads as heads
use Rattle.tatp_asm.specs.Reading.{Pending, Open, State}

-- ---- lines
-- what a text was split into are these fields
abbrev pub AreFields : Split → List (List ℕ) → Type 0
AreFields (One a) fields = fields ≡ a.now ∷ []
AreFields (Two a b) fields = fields ≡ a.now ∷ b.now ∷ []
AreFields (Three a b c) fields = fields ≡ a.now ∷ b.now ∷ c.now ∷ []
AreFields More fields =
    (a b c d : List ℕ) × (rest : List (List ℕ)) × (fields ≡ a ∷ b ∷ c ∷ d ∷ rest)

abbrev pub operand_view : Operand → words.Operand
operand_view (operand.Register r) = Register r
operand_view (operand.Number n) = Number n
operand_view (operand.Target label) = Target label.bytes

abbrev pub operands_view : List Operand → List words.Operand
operands_view operands = map operand_view operands

abbrev pub given_view : Given → words.Given
given_view given = record { number = given.number; label = given.label.bytes }

abbrev pub line_view : Line → lines.Line
line_view (Opening name arity) = Opens name.bytes arity
line_view (Label label) = Names label.bytes
line_view (Instruction instr label) = Does instr label.bytes
line_view Ending = Closes

abbrev pub head_view : Head → heads.Head
head_view head = record {
  version = head.version;
  line = head.line;
  left = lines_of head.left.now;
}

-- ---- a procedure under way
abbrev pub pending : Unresolved → Pending
pending u = record { instr = u.instr; label = u.label.bytes; line = u.line }

abbrev pub all_pending : List Unresolved → List Pending
all_pending code = map pending code

abbrev pub label_view : {Y : Type 0} → String Y × ℕ → List ℕ × ℕ
label_view entry = (string_bytes entry.0, entry.1)

abbrev pub labels_view : {Y : Type 0} → List (String Y × ℕ) → List (List ℕ × ℕ)
labels_view entries = map label_view entries

abbrev pub draft_view : Draft → Open
draft_view d = record {
  name = d.name.bytes;
  arity = d.arity;
  labels = labels_view d.labels.entries;
  code = all_pending d.code.items;
}

-- the state in which this procedure is under way after those that have ended
abbrev pub under_way : List Procedure → Draft → State
under_way closed d = record { closed = closed; current = Some (draft_view d) }

abbrev pub drafts : Option Draft → Option Open
drafts d = option_map draft_view d

abbrev pub state_of : List Procedure → Option Draft → State
state_of closed d = record { closed = closed; current = drafts d }

-- its name, its arity and its length are those of a procedure, or none yet
abbrev pub Fits : Draft → Type 0
Fits d =
    (is_name d.name.bytes ≡ true)
    × (d.arity ≤ MAX_ARGUMENTS)
    × (length d.code.items ≤ MAX_INSTRUCTIONS)

abbrev pub FitsAny : Option Draft → Type 0
FitsAny d = IfSome d Fits
