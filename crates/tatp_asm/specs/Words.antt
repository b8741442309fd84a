-- The line that a text is, read field by field: docs/FORMATS.md, "Assembly text".
use Rattle.std.specs.Prelude.{ℕ, ◌+◌, ◌^◌, ◌==◌, ◌&&◌, nat_lt, if◌then◌else◌, List, [], ◌∷◌, take, drop, length, codes, bytes_eq, Option, Some, None}
use Rattle.std.specs.Option.{option_map, option_and_then}
use Rattle.std.specs.Str.{is_utf8}
use Rattle.tatp_limits.specs.declared.limits.TheConstants.{MAX_ARGUMENTS, REGISTERS}
use denote.Ref.{Bor}
use Rattle.tatp_lines.specs.Fields.{fields_of}
use Rattle.tatp_lines.specs.Numbers.{number_of}
use Rattle.tatp_instr.specs.declared.book.Word.{Word}
use Rattle.tatp_instr.specs.declared.book.Word.TheVariants as holds
use Rattle.tatp_instr.specs.Shapes.{Row, row_named}
use Rattle.tatp_instr.specs.Parts.{instr_of}
use Rattle.tatp_encoding.specs.Modules.{is_name}
use Rattle.tatp_asm.specs.Lines.{Line, Opens, Names, Does, Closes, is_label}

-- ---- fields
-- the fields of what is left of a text, if anything is
abbrev pub fields_left : ℕ → Option (Bor (List ℕ)) → List (List ℕ)
fields_left separator None = []
fields_left separator (Some rest) = fields_of separator rest.now

-- a number below the limit
unfoldable pub below : ℕ → List ℕ → Option ℕ
below limit text = option_and_then (λ n. if nat_lt n limit then Some n else None) (number_of text)

-- ---- operands
pub data Operand : Type 0 where
  Register : ℕ → Operand
  Number : ℕ → Operand
  Target : List ℕ → Operand

abbrev pub target_in : List ℕ → Option Operand
target_in label = if is_label label then Some (Target label) else None

-- the operand after its first character: r, # or @
abbrev pub operand_after : ℕ → List ℕ → Option Operand
operand_after mark text =
    if mark == 114 then option_map Register (below REGISTERS text) else
    if mark == 35 then option_map Number (below (2 ^ 32) text) else
    if mark == 64 then target_in text else
    None

unfoldable pub operand_of : List ℕ → Option Operand
operand_of [] = None
operand_of (mark ∷ text) = operand_after mark text

-- one to three operands
unfoldable pub operands_of : List (List ℕ) → Option (List Operand)
operands_of (a ∷ []) = option_map (λ x. x ∷ []) (operand_of a)
operands_of (a ∷ b ∷ []) =
    option_and_then (λ x. option_map (λ y. x ∷ y ∷ []) (operand_of b)) (operand_of a)
operands_of (a ∷ b ∷ c ∷ []) = option_and_then
    (λ x. option_and_then (λ y. option_map (λ z. x ∷ y ∷ z ∷ []) (operand_of c)) (operand_of b))
    (operand_of a)
operands_of fields = None

-- ---- instructions, by the table of their mnemonics and operands
-- the operands of a row's registers
abbrev pub for_registers : Row → List Operand → List Operand
for_registers row operands =
    if row.word_first then drop 1 operands else take row.shape.registers operands

-- those of its u32
abbrev pub for_word : Row → List Operand → List Operand
for_word row operands =
    if row.word_first then take 1 operands else drop row.shape.registers operands

abbrev pub register_in : Operand → Option ℕ
register_in (Register a) = Some a
register_in operand = None

-- the numbers of up to three registers, and 0 where there are fewer
unfoldable pub registers_of : List Operand → Option (List ℕ)
registers_of [] = Some (0 ∷ 0 ∷ 0 ∷ [])
registers_of (a ∷ []) = option_map (λ a. a ∷ 0 ∷ 0 ∷ []) (register_in a)
registers_of (a ∷ b ∷ []) =
    option_and_then (λ a. option_map (λ b. a ∷ b ∷ 0 ∷ []) (register_in b)) (register_in a)
registers_of (a ∷ b ∷ c ∷ []) = option_and_then
    (λ a. option_and_then (λ b. option_map (λ c. a ∷ b ∷ c ∷ []) (register_in c)) (register_in b))
    (register_in a)
registers_of operands = None

-- what operands give for a u32: a number, and the label that they name; beside its label, a target
-- is 0
pub record Given : Type 0 where
  pub number : ℕ
  pub label : List ℕ

abbrev pub numbered : ℕ → Given
numbered n = record { number = n; label = [] }

abbrev pub labelled : List ℕ → Given
labelled label = record { number = 0; label = label }

-- what they give where the u32 holds this
unfoldable pub given_for : Word → List Operand → Option Given
given_for holds.Nothing [] = Some (numbered 0)
given_for holds.Count (Number n ∷ []) = Some (numbered n)
given_for holds.Column (Number n ∷ []) = Some (numbered n)
given_for holds.Argument (Number n ∷ []) = Some (numbered n)
given_for holds.Target (Target label ∷ []) = Some (labelled label)
given_for word operands = None

-- the instruction of an op with these registers and this number, beside this label
abbrev pub with_parts : ℕ → List ℕ → Given → Option Line
with_parts op registers given = option_map
    (λ instr. Does instr given.label)
    (instr_of (record { op = op; registers = registers; word = given.number }))

-- the instruction of a row with these operands, which are as many as the row has
unfoldable pub with_row : Row → List Operand → Option Line
with_row row operands =
    let registers = for_registers row operands in
    if length registers == row.shape.registers
    then option_and_then
    (λ given. option_and_then (λ numbers. with_parts row.op numbers given) (registers_of registers))
    (given_for row.shape.word (for_word row operands))
    else None

-- the instruction of a mnemonic with these operands
unfoldable pub instruction_with : List ℕ → List Operand → Option Line
instruction_with mnemonic operands =
    option_and_then (λ row. with_row row operands) (row_named mnemonic)

-- an instruction with operands, which are parted by commas
unfoldable pub instruction_of : List ℕ → List ℕ → Option Line
instruction_of mnemonic text =
    option_and_then (instruction_with mnemonic) (operands_of (fields_of 44 text))

-- ---- lines
-- what comes before a colon at the end
unfoldable pub before_colon : List ℕ → Option (List ℕ)
before_colon [] = None
before_colon (b ∷ []) = if b == 58 then Some [] else None
before_colon (b ∷ c ∷ more) = option_map (λ front. b ∷ front) (before_colon (c ∷ more))

abbrev pub label_line : List ℕ → Option Line
label_line label = if is_label label then Some (Names label) else None

-- a word that isn't `end`: with a colon at its end a label, and else a mnemonic alone
abbrev pub label_or_instruction : List ℕ → Option (List ℕ) → Option Line
label_or_instruction word (Some label) = label_line label
label_or_instruction word None = instruction_with word []

-- a line of one word
unfoldable pub word_of : List ℕ → Option Line
word_of word =
    if bytes_eq word (codes "end")
    then Some Closes
    else label_or_instruction word (before_colon word)

-- a line that begins a procedure
unfoldable pub opening_of : List ℕ → List ℕ → List ℕ → Option Line
opening_of word name arity =
    if bytes_eq word (codes "proc") && is_name name
    then option_map (Opens name) (below (MAX_ARGUMENTS + 1) arity)
    else None

abbrev pub line_of_fields : List (List ℕ) → Option Line
line_of_fields (word ∷ []) = word_of word
line_of_fields (word ∷ operands ∷ []) = instruction_of word operands
line_of_fields (word ∷ name ∷ arity ∷ []) = opening_of word name arity
line_of_fields fields = None

-- the line that a text is, whose fields are parted by spaces
unfoldable pub line_of : List ℕ → Option Line
line_of text = line_of_fields (fields_of 32 text)

-- the line that bytes are, which may be no text
unfoldable pub line_of_bytes : List ℕ → Option Line
line_of_bytes bytes = if is_utf8 bytes then line_of bytes else None
