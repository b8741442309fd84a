-- The table: the mnemonic and the operands of each op, and what they make of an instruction's
-- parts.
use Rattle.std.specs.Prelude.{◌≡◌, ℕ, zero, suc, Bool, true, false, List, [], ◌∷◌, map, drop, All, codes, bytes_eq, Option, None, slice_get}
use Rattle.std.specs.List.{find}
use Rattle.tatp_instr.specs.declared.book.Word.{Word}
use Rattle.tatp_instr.specs.declared.book.Word.TheVariants.{Nothing, Count, Column, Argument, Target}
use Rattle.tatp_instr.specs.declared.book.Shape.{Shape}
use Rattle.tatp_instr.specs.declared.instr.Parts.{Parts}

-- this many registers, and a u32 that holds this
abbrev pub shape_with : ℕ → Word → Shape
shape_with registers word = record { registers = registers; word = word }

-- a row of the table; in the text, the u32 comes before the registers where it is first
pub record Row : Type 0 where
  pub op : ℕ
  pub mnemonic : List ℕ
  pub shape : Shape
  pub word_first : Bool

-- a row whose u32, if there is one, comes after the registers
abbrev pub row : ℕ → List ℕ → ℕ → Word → Row
row op mnemonic registers word = record {
  op = op;
  mnemonic = mnemonic;
  shape = shape_with registers word;
  word_first = false;
}

-- a row whose u32 comes before them
abbrev pub row_word_first : ℕ → List ℕ → Word → ℕ → Row
row_word_first op mnemonic word registers = record {
  op = op;
  mnemonic = mnemonic;
  shape = shape_with registers word;
  word_first = true;
}

-- the rows of the ops 1 to 22, in order
abbrev pub rows : List Row
rows =
    row 0x01 (codes "LDI") 1 Count
    ∷ row 0x02 (codes "MOV") 2 Nothing
    ∷ row 0x03 (codes "ARG") 1 Argument
    ∷ row 0x04 (codes "ADD") 3 Nothing
    ∷ row 0x05 (codes "SUB") 3 Nothing
    ∷ row 0x06 (codes "EQ") 3 Nothing
    ∷ row 0x07 (codes "LT") 3 Nothing
    ∷ row 0x08 (codes "JMP") 0 Target
    ∷ row 0x09 (codes "JZ") 1 Target
    ∷ row 0x0A (codes "FSUB") 2 Nothing
    ∷ row 0x0B (codes "FNUM") 2 Nothing
    ∷ row 0x0C (codes "FACC") 3 Nothing
    ∷ row 0x0D (codes "FFAC") 3 Nothing
    ∷ row 0x0E (codes "FCFW") 2 Nothing
    ∷ row 0x0F (codes "GET") 1 Column
    ∷ row_word_first 0x10 (codes "PUT") Column 1
    ∷ row 0x11 (codes "INS") 2 Nothing
    ∷ row 0x12 (codes "DEL") 0 Nothing
    ∷ row 0x13 (codes "OUT") 1 Nothing
    ∷ row 0x14 (codes "DONE") 0 Nothing
    ∷ row 0x15 (codes "FAIL") 0 Count
    ∷ row 0x16 (codes "LOOP") 1 Target
    ∷ []

-- the first of some rows with this mnemonic
abbrev pub named : List ℕ → List Row → Option Row
named mnemonic rows = find (λ row. bytes_eq row.mnemonic mnemonic) rows

-- the row with this mnemonic
unfoldable pub row_named : List ℕ → Option Row
row_named mnemonic = named mnemonic rows

-- the shapes of the ops 1 to 22, in order
abbrev pub shapes : List Shape
shapes = map (λ row. row.shape) rows

-- the shape of an op, if there is such an op
abbrev pub shape_at : ℕ → Option Shape
shape_at zero = None
shape_at (suc index) = slice_get shapes index

-- the registers and the u32 that the shape does not have are 0
pub record HasShape (p : Parts) (s : Shape) : Type 0 where
  pub registers : All (λ number. number ≡ 0) (drop s.registers p.registers)
  pub word : s.word ≡ Nothing → p.word ≡ 0
