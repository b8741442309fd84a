-- Operands, by the table of the instructions.
use Rattle.std.proofs.Common.{◌≡◌, ℕ, sym, ap, ◌∙◌, Bool, true, false, cond, eqb, List, [], ◌∷◌, ◌++◌, length, take, drop, refl, Some}
use Rattle.std.specs.List.{list_any}
use Rattle.std.specs.Option.{option_map, option_and_then}
use Rattle.std.proofs.lemmas.Bool.{eqb-true}
use Rattle.std.proofs.lemmas.List.{take-append-drop}
use Rattle.tatp_instr.specs.declared.instr.Instr.{Instr}
use Rattle.tatp_instr.specs.declared.book.Word.{Word}
use Rattle.tatp_instr.specs.declared.book.Word.TheVariants as holds
use Rattle.tatp_instr.specs.declared.book.Shape.{Shape}
use Rattle.tatp_instr.specs.Instrs.{parts_with}
use Rattle.tatp_instr.specs.Shapes.{Row, shape_at}
use Rattle.tatp_instr.specs.Parts.{is_not_zero, is_unused_word, has_unused, instr_of}
use Rattle.tatp_asm.specs.Lines.{Line, Does}
use Rattle.tatp_asm.specs.Words.{Operand, Register, Number, Target, for_registers, for_word, register_in, registers_of, Given, given_for, with_parts, with_row}
use Rattle.tatp_asm.proofs.Tools.{some_is, mapped, chained, guarded}

-- ---- what the op has no use for is 0
unused_registers : (os : List Operand) (numbers : List ℕ) → registers_of os ≡ Some numbers → list_any is_not_zero (drop (length os) numbers) ≡ false
unfolding registers_of
unused_registers [] numbers e = rw (← some_is _ numbers e) refl
unused_registers (a ∷ []) numbers e =
    let x = mapped (λ a. a ∷ 0 ∷ 0 ∷ []) (register_in a) numbers e in
    rw (← x.2) refl
unused_registers (a ∷ b ∷ []) numbers e =
    let x = chained (λ a. option_map (λ b. a ∷ b ∷ 0 ∷ []) (register_in b)) (register_in a) numbers e in
    let y = mapped (λ b. x.0 ∷ b ∷ 0 ∷ []) (register_in b) numbers x.2 in
    rw (← y.2) refl
unused_registers (a ∷ b ∷ c ∷ []) numbers e =
    let x = chained (λ a. option_and_then (λ b. option_map (λ c. a ∷ b ∷ c ∷ []) (register_in c)) (register_in b)) (register_in a) numbers e in
    let y = chained (λ b. option_map (λ c. x.0 ∷ b ∷ c ∷ []) (register_in c)) (register_in b) numbers x.2 in
    let z = mapped (λ c. x.0 ∷ y.0 ∷ c ∷ []) (register_in c) numbers y.2 in
    rw (← z.2) refl
unused_registers (a ∷ b ∷ c ∷ d ∷ os) numbers e = absurd cc

unused_word : (word : Word) (os : List Operand) (given : Given) → given_for word os ≡ Some given → is_unused_word word given.number ≡ false
unfolding given_for
unused_word holds.Nothing [] given e = rw (← some_is _ given e) refl
unused_word holds.Nothing (o ∷ os) given e = absurd cc
unused_word holds.Count os given e = refl
unused_word holds.Column os given e = refl
unused_word holds.Argument os given e = refl
unused_word holds.Target os given e = refl

pub no_unused : (op : ℕ) (shape : Shape) (registers word : List Operand) (numbers : List ℕ) (given : Given)
    → shape_at op ≡ Some shape → length registers ≡ shape.registers → registers_of registers ≡ Some numbers → given_for shape.word word ≡ Some given
    → has_unused (record { op = op; registers = numbers; word = given.number }) ≡ false
no_unused op shape registers word numbers given known count read taken =
    let first : list_any is_not_zero (drop shape.registers numbers) ≡ false = rw (← count) (unused_registers registers numbers read) in
    rw (known, first, unused_word shape.word word given taken) refl

-- ---- the operands that are taken for a row
abbrev pub three : ℕ → ℕ → ℕ → List Operand
three d a b = Register d ∷ Register a ∷ Register b ∷ []

-- what is given for a u32, as an operand
abbrev pub word_operands : Word → Given → List Operand
word_operands holds.Nothing given = []
word_operands holds.Count given = Number given.number ∷ []
word_operands holds.Column given = Number given.number ∷ []
word_operands holds.Argument given = Number given.number ∷ []
word_operands holds.Target given = Target given.label ∷ []

-- a target is 0 beside its label, and nothing else has one
abbrev pub IsGiven : Word → Given → Type 0
IsGiven holds.Target given = given.number ≡ 0
IsGiven word given = given.label ≡ []

abbrev in_order : Bool → List Operand → List Operand → List Operand
in_order word_first registers word = cond word_first (word ++ registers) (registers ++ word)

abbrev pub row_operands : Row → ℕ → ℕ → ℕ → Given → List Operand
row_operands row d a b given = in_order row.word_first (take row.shape.registers (three d a b)) (word_operands row.shape.word given)

register_takes : (o : Operand) (a : ℕ) → register_in o ≡ Some a → o ≡ Register a
register_takes (Register r) a e = cc
register_takes (Number n) a e = absurd cc
register_takes (Target label) a e = absurd cc

two_same : (x y : Operand) {d a : Operand} → x ≡ d → y ≡ a → x ∷ y ∷ [] ≡ d ∷ a ∷ []
two_same x y e f = rw (e, f) refl

three_same : (x y z : Operand) {d a b : Operand} → x ≡ d → y ≡ a → z ≡ b → x ∷ y ∷ z ∷ [] ≡ d ∷ a ∷ b ∷ []
three_same x y z e f g = rw (e, f, g) refl

-- as many registers as there are operands
record AreRegisters (os : List Operand) (found : List ℕ) : Type 0 where
  d : ℕ
  a : ℕ
  b : ℕ
  numbers : found ≡ d ∷ a ∷ b ∷ []
  operands : os ≡ take (length os) (three d a b)

registers_take : (os : List Operand) (numbers : List ℕ) → registers_of os ≡ Some numbers → AreRegisters os numbers
unfolding registers_of
registers_take [] numbers e = record { d = 0; a = 0; b = 0; numbers = cc; operands = refl }
registers_take (x ∷ []) numbers e =
    let d = mapped (λ d. d ∷ 0 ∷ 0 ∷ []) (register_in x) numbers e in
    record { d = d.0; a = 0; b = 0; numbers = sym d.2; operands = ap (λ (o : Operand). o ∷ []) (register_takes x d.0 d.1) }
registers_take (x ∷ y ∷ []) numbers e =
    let d = chained (λ d. option_map (λ a. d ∷ a ∷ 0 ∷ []) (register_in y)) (register_in x) numbers e in
    let a = mapped (λ a. d.0 ∷ a ∷ 0 ∷ []) (register_in y) numbers d.2 in
    record { d = d.0; a = a.0; b = 0; numbers = sym a.2; operands = two_same x y (register_takes x d.0 d.1) (register_takes y a.0 a.1) }
registers_take (x ∷ y ∷ z ∷ []) numbers e =
    let d = chained (λ d. option_and_then (λ a. option_map (λ b. d ∷ a ∷ b ∷ []) (register_in z)) (register_in y)) (register_in x) numbers e in
    let a = chained (λ a. option_map (λ b. d.0 ∷ a ∷ b ∷ []) (register_in z)) (register_in y) numbers d.2 in
    let b = mapped (λ b. d.0 ∷ a.0 ∷ b ∷ []) (register_in z) numbers a.2 in
    record { d = d.0; a = a.0; b = b.0; numbers = sym b.2; operands = three_same x y z (register_takes x d.0 d.1) (register_takes y a.0 a.1) (register_takes z b.0 b.1) }
registers_take (x ∷ y ∷ z ∷ w ∷ os) numbers e = absurd cc

given_takes : (word : Word) (os : List Operand) (given : Given) → given_for word os ≡ Some given → (os ≡ word_operands word given) × IsGiven word given
unfolding given_for
given_takes holds.Nothing [] given e = rw (← some_is _ given e) (refl, refl)
given_takes holds.Count (Number n ∷ []) given e = rw (← some_is _ given e) (refl, refl)
given_takes holds.Column (Number n ∷ []) given e = rw (← some_is _ given e) (refl, refl)
given_takes holds.Argument (Number n ∷ []) given e = rw (← some_is _ given e) (refl, refl)
given_takes holds.Target (Target label ∷ []) given e = rw (← some_is _ given e) (refl, refl)
given_takes _ _ given e = absurd cc

in_order_parted : (row : Row) (os : List Operand) → os ≡ in_order row.word_first (for_registers row os) (for_word row os)
in_order_parted row os = by row.word_first
  where
    by : (first : Bool) → os ≡ in_order first (cond first (drop 1 os) (take row.shape.registers os)) (cond first (take 1 os) (drop row.shape.registers os))
    by true = sym (take-append-drop 1 os)
    by false = sym (take-append-drop row.shape.registers os)

-- the line is the instruction of the row with these operands
pub record IsTaken (row : Row) (os : List Operand) (line : Line) : Type 0 where
  pub d : ℕ
  pub a : ℕ
  pub b : ℕ
  pub given : Given
  pub instr : Instr
  pub operands : os ≡ row_operands row d a b given
  pub is_given : IsGiven row.shape.word given
  pub made : instr_of (parts_with row.op d a b given.number) ≡ Some instr
  pub is_line : Does instr given.label ≡ line

pub row_takes : (row : Row) (os : List Operand) (line : Line) → with_row row os ≡ Some line → IsTaken row os line
unfolding with_row
row_takes row os line e =
    let registers = for_registers row os in
    let count = guarded (eqb (length registers) row.shape.registers) (option_and_then (λ given. option_and_then (λ numbers. with_parts row.op numbers given) (registers_of registers)) (given_for row.shape.word (for_word row os))) line e in
    let given = chained (λ given. option_and_then (λ numbers. with_parts row.op numbers given) (registers_of registers)) (given_for row.shape.word (for_word row os)) line count.1 in
    let numbers = chained (λ numbers. with_parts row.op numbers given.0) (registers_of registers) line given.2 in
    let made = mapped (λ instr. Does instr given.0.label) (instr_of (record { op = row.op; registers = numbers.0; word = given.0.number })) line numbers.2 in
    let are = registers_take registers numbers.0 numbers.1 in
    let word = given_takes row.shape.word (for_word row os) given.0 given.1 in
    let front : registers ≡ take row.shape.registers (three are.d are.a are.b) = are.operands ∙ ap (λ (k : ℕ). take k (three are.d are.a are.b)) (eqb-true (length registers) row.shape.registers count.0) in
    record {
      d = are.d;
      a = are.a;
      b = are.b;
      given = given.0;
      instr = made.0;
      operands = in_order_parted row os ∙ (ap (λ (x : List Operand). in_order row.word_first x (for_word row os)) front ∙ ap (in_order row.word_first (take row.shape.registers (three are.d are.a are.b))) word.0);
      is_given = word.1;
      made = ap (λ (x : List ℕ). instr_of (record { op = row.op; registers = x; word = given.0.number })) (sym are.numbers) ∙ made.1;
      is_line = made.2;
    }
