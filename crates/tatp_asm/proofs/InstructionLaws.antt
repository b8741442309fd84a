-- Instructions, their mnemonics and their operands.
use Rattle.std.proofs.Common.{◌≡◌, ℕ, ◌-◌, ◌<◌, ◌∙◌, sym, ap, subst, Bool, true, false, cond, leb, ◌||◌, List, [], ◌∷◌, ◌++◌, length, refl, arith, append_assoc, Some, None, decimal}
use Rattle.std.specs.Prelude.{codes}
use Rattle.std.specs.Str.{bytes_eq}
use Rattle.std.specs.List.{list_all}
use Rattle.std.proofs.lemmas.Bool.{lt-leb, leb-false}
use Rattle.tatp_limits.specs.declared.limits.TheConstants.{REGISTERS}
use Rattle.tatp_instr.specs.declared.instr.Instr.{Instr}
use Rattle.tatp_instr.specs.declared.instr.Instr.TheVariants.{Ldi, Mov, Arg, Add, Sub, Eq, Lt, Jmp, Jz, Fsub, Fnum, Facc, Ffac, Fcfw, Get, Put, Ins, Del, Out, Done, Fail, Loop}
use Rattle.tatp_asm.specs.Lines.{Line, Opens, Names, Does, Closes, instruction_text, line_text, IsLine}
use Rattle.tatp_instr.specs.Instrs.{parts_with}
use Rattle.tatp_instr.specs.Shapes.{Row, rows, named, row_named}
use Rattle.tatp_instr.specs.Parts.{instr_with, instr_of}
use Rattle.tatp_instr.proofs.BookLaws.{Each, find_each}
use Rattle.tatp_asm.specs.Words.{Operand, Register, Number, Target, registers_of, Given, given_for, with_row, instruction_with, before_colon}
use Rattle.tatp_asm.proofs.Tools.{some_is, word_is, chained, plain}
use Rattle.tatp_asm.proofs.TableLaws.{row_operands, IsGiven, row_takes}
use Rattle.tatp_asm.proofs.OperandLaws.{AreOperands, operands_text}

abbrev pub mnemonic : Instr → List ℕ
mnemonic (Ldi d n) = codes "LDI"
mnemonic (Mov d a) = codes "MOV"
mnemonic (Arg d k) = codes "ARG"
mnemonic (Add d a b) = codes "ADD"
mnemonic (Sub d a b) = codes "SUB"
mnemonic (Eq d a b) = codes "EQ"
mnemonic (Lt d a b) = codes "LT"
mnemonic (Jmp t) = codes "JMP"
mnemonic (Jz a t) = codes "JZ"
mnemonic (Fsub d a) = codes "FSUB"
mnemonic (Fnum d a) = codes "FNUM"
mnemonic (Facc d a b) = codes "FACC"
mnemonic (Ffac d a b) = codes "FFAC"
mnemonic (Fcfw d a) = codes "FCFW"
mnemonic (Get d c) = codes "GET"
mnemonic (Put a c) = codes "PUT"
mnemonic (Ins d a) = codes "INS"
mnemonic Del = codes "DEL"
mnemonic (Out a) = codes "OUT"
mnemonic Done = codes "DONE"
mnemonic (Fail n) = codes "FAIL"
mnemonic (Loop a t) = codes "LOOP"

abbrev pub operands : Instr → List ℕ → List Operand
operands (Ldi d n) label = Register d ∷ Number n ∷ []
operands (Mov d a) label = Register d ∷ Register a ∷ []
operands (Arg d k) label = Register d ∷ Number k ∷ []
operands (Add d a b) label = Register d ∷ Register a ∷ Register b ∷ []
operands (Sub d a b) label = Register d ∷ Register a ∷ Register b ∷ []
operands (Eq d a b) label = Register d ∷ Register a ∷ Register b ∷ []
operands (Lt d a b) label = Register d ∷ Register a ∷ Register b ∷ []
operands (Jmp t) label = Target label ∷ []
operands (Jz a t) label = Register a ∷ Target label ∷ []
operands (Fsub d a) label = Register d ∷ Register a ∷ []
operands (Fnum d a) label = Register d ∷ Register a ∷ []
operands (Facc d a b) label = Register d ∷ Register a ∷ Register b ∷ []
operands (Ffac d a b) label = Register d ∷ Register a ∷ Register b ∷ []
operands (Fcfw d a) label = Register d ∷ Register a ∷ []
operands (Get d c) label = Register d ∷ Number c ∷ []
operands (Put a c) label = Number c ∷ Register a ∷ []
operands (Ins d a) label = Register d ∷ Register a ∷ []
operands Del label = []
operands (Out a) label = Register a ∷ []
operands Done label = []
operands (Fail n) label = Number n ∷ []
operands (Loop a t) label = Register a ∷ Target label ∷ []

-- a mnemonic, and operands after a space
abbrev pub with_operands : List ℕ → List Operand → List ℕ
with_operands word [] = word
with_operands word (o ∷ os) = word ++ (32 ∷ operands_text (o ∷ os))

two_parts : (x y : List ℕ) (m : ℕ) → (x ++ (44 ∷ [])) ++ (m ∷ y) ≡ x ++ (44 ∷ m ∷ y)
two_parts x y m = append_assoc x (44 ∷ []) (m ∷ y)

two_marks : (x y : List ℕ) (m : ℕ) → (x ++ (44 ∷ m ∷ [])) ++ y ≡ x ++ (44 ∷ m ∷ y)
two_marks x y m = append_assoc x (44 ∷ m ∷ []) y

three_parts : (x y z : List ℕ) → (((x ++ (44 ∷ [])) ++ (114 ∷ y)) ++ (44 ∷ [])) ++ (114 ∷ z) ≡ x ++ (44 ∷ 114 ∷ (y ++ (44 ∷ 114 ∷ z)))
three_parts x y z =
    append_assoc ((x ++ (44 ∷ [])) ++ (114 ∷ y)) (44 ∷ []) (114 ∷ z)
    ∙ (append_assoc (x ++ (44 ∷ [])) (114 ∷ y) (44 ∷ 114 ∷ z)
    ∙ append_assoc x (44 ∷ []) (114 ∷ (y ++ (44 ∷ 114 ∷ z))))

pub text_is : (i : Instr) (label : List ℕ) → instruction_text i label ≡ with_operands (mnemonic i) (operands i label)
text_is (Ldi d n) label = ap (λ (x : List ℕ). codes "LDI r" ++ x) (two_marks (decimal d) (decimal n) 35)
text_is (Mov d a) label = ap (λ (x : List ℕ). codes "MOV r" ++ x) (two_parts (decimal d) (decimal a) 114)
text_is (Arg d k) label = ap (λ (x : List ℕ). codes "ARG r" ++ x) (two_marks (decimal d) (decimal k) 35)
text_is (Add d a b) label = ap (λ (x : List ℕ). codes "ADD r" ++ x) (three_parts (decimal d) (decimal a) (decimal b))
text_is (Sub d a b) label = ap (λ (x : List ℕ). codes "SUB r" ++ x) (three_parts (decimal d) (decimal a) (decimal b))
text_is (Eq d a b) label = ap (λ (x : List ℕ). codes "EQ r" ++ x) (three_parts (decimal d) (decimal a) (decimal b))
text_is (Lt d a b) label = ap (λ (x : List ℕ). codes "LT r" ++ x) (three_parts (decimal d) (decimal a) (decimal b))
text_is (Jmp t) label = refl
text_is (Jz a t) label = ap (λ (x : List ℕ). codes "JZ r" ++ x) (two_marks (decimal a) label 64)
text_is (Fsub d a) label = ap (λ (x : List ℕ). codes "FSUB r" ++ x) (two_parts (decimal d) (decimal a) 114)
text_is (Fnum d a) label = ap (λ (x : List ℕ). codes "FNUM r" ++ x) (two_parts (decimal d) (decimal a) 114)
text_is (Facc d a b) label = ap (λ (x : List ℕ). codes "FACC r" ++ x) (three_parts (decimal d) (decimal a) (decimal b))
text_is (Ffac d a b) label = ap (λ (x : List ℕ). codes "FFAC r" ++ x) (three_parts (decimal d) (decimal a) (decimal b))
text_is (Fcfw d a) label = ap (λ (x : List ℕ). codes "FCFW r" ++ x) (two_parts (decimal d) (decimal a) 114)
text_is (Get d c) label = ap (λ (x : List ℕ). codes "GET r" ++ x) (two_marks (decimal d) (decimal c) 35)
text_is (Put a c) label = ap (λ (x : List ℕ). codes "PUT #" ++ x) (two_parts (decimal c) (decimal a) 114)
text_is (Ins d a) label = ap (λ (x : List ℕ). codes "INS r" ++ x) (two_parts (decimal d) (decimal a) 114)
text_is Del label = refl
text_is (Out a) label = refl
text_is Done label = refl
text_is (Fail n) label = refl
text_is (Loop a t) label = ap (λ (x : List ℕ). codes "LOOP r" ++ x) (two_marks (decimal a) label 64)

-- ---- what is read
-- the line is the instruction of this mnemonic and these operands
abbrev pub IsMade : List ℕ → List Operand → Line → Type 0
IsMade word os (Does i label) = (word ≡ mnemonic i) × (os ≡ operands i label) × IsLine (Does i label)
IsMade word os line = ⊥

-- an instruction whose registers are in their ranges
not_bad : (t : Bool) (x i : Instr) → cond t None (Some x) ≡ Some i → (t ≡ false) × (x ≡ i)
not_bad true x i e = absurd cc
not_bad false x i e = (refl, some_is x i e)

made : (word : List ℕ) (os : List Operand) (t : Bool) (x i : Instr) (label : List ℕ) → cond t None (Some x) ≡ Some i → word ≡ mnemonic x → os ≡ operands x label → (t ≡ false → IsLine (Does x label)) → IsMade word os (Does i label)
made word os t x i label e w p l =
    let n = not_bad t x i e in
    subst (λ (j : Instr). IsMade word os (Does j label)) n.1 (w, p, l n.0)

-- what is taken for a row is an instruction of it
abbrev MakesItsOwn : Row → Type 0
MakesItsOwn row =
    (d a b : ℕ) (g : Given) (i : Instr) → AreOperands (row_operands row d a b g) → IsGiven row.shape.word g → instr_of (parts_with row.op d a b g.number) ≡ Some i
    → IsMade row.mnemonic (row_operands row d a b g) (Does i g.label)

key_within : (x y : Bool) → ((x || y) || false) ≡ false → y ≡ false
key_within true y e = absurd cc
key_within false true e = absurd cc
key_within false false e = refl

row_within : (x y : Bool) → (x || y) ≡ false → y ≡ false
row_within true y e = absurd cc
row_within false y e = e

infixr 10 ◌⨾◌
◌⨾◌ : {A B : Type 0} → A → B → A × B
first ⨾ others = (first, others)

each_makes_its_own : Each MakesItsOwn rows
unfolding instr_with
each_makes_its_own =
    (λ d a b g i h l e. made _ _ _ (Ldi d g.number) i g.label e refl refl (λ t. ((h.0, h.1.0), refl, l)))
    ⨾ (λ d a b g i h l e. made _ _ _ (Mov d a) i g.label e refl refl (λ t. ((h.0, h.1.0), refl, l)))
    ⨾ (λ d a b g i h l e. made _ _ _ (Arg d g.number) i g.label e refl refl (λ t. ((h.0, h.1.0), refl, l)))
    ⨾ (λ d a b g i h l e. made _ _ _ (Add d a b) i g.label e refl refl (λ t. ((h.0, h.1.0, h.1.1.0), refl, l)))
    ⨾ (λ d a b g i h l e. made _ _ _ (Sub d a b) i g.label e refl refl (λ t. ((h.0, h.1.0, h.1.1.0), refl, l)))
    ⨾ (λ d a b g i h l e. made _ _ _ (Eq d a b) i g.label e refl refl (λ t. ((h.0, h.1.0, h.1.1.0), refl, l)))
    ⨾ (λ d a b g i h l e. made _ _ _ (Lt d a b) i g.label e refl refl (λ t. ((h.0, h.1.0, h.1.1.0), refl, l)))
    ⨾ (λ d a b g i h l e. made _ _ false (Jmp g.number) i g.label e refl refl (λ t. (omega arith, ap Jmp (sym l), h.0)))
    ⨾ (λ d a b g i h l e. made _ _ _ (Jz d g.number) i g.label e refl refl (λ t. ((h.0, omega arith), ap (Jz d) (sym l), h.1.0)))
    ⨾ (λ d a b g i h l e. made _ _ _ (Fsub d a) i g.label e refl refl (λ t. ((h.0, h.1.0), refl, l)))
    ⨾ (λ d a b g i h l e. made _ _ _ (Fnum d a) i g.label e refl refl (λ t. ((h.0, h.1.0), refl, l)))
    ⨾ (λ d a b g i h l e. made _ _ _ (Facc d a b) i g.label e refl refl (λ t. ((h.0, h.1.0, h.1.1.0), refl, l)))
    ⨾ (λ d a b g i h l e. made _ _ _ (Ffac d a b) i g.label e refl refl (λ t. ((h.0, h.1.0, h.1.1.0), refl, l)))
    ⨾ (λ d a b g i h l e. made _ _ _ (Fcfw d a) i g.label e refl refl (λ t. ((h.0, leb-false (REGISTERS - 2) a (key_within _ _ t)), refl, l)))
    ⨾ (λ d a b g i h l e. made _ _ _ (Get d g.number) i g.label e refl refl (λ t. ((h.0, h.1.0), refl, l)))
    ⨾ (λ d a b g i h l e. made _ _ _ (Put d g.number) i g.label e refl refl (λ t. ((h.1.0, h.0), refl, l)))
    ⨾ (λ d a b g i h l e. made _ _ _ (Ins d a) i g.label e refl refl (λ t. ((h.0, leb-false (REGISTERS - 4) a (row_within _ _ t)), refl, l)))
    ⨾ (λ d a b g i h l e. made _ _ false Del i g.label e refl refl (λ t. (tt, refl, l)))
    ⨾ (λ d a b g i h l e. made _ _ _ (Out d) i g.label e refl refl (λ t. (h.0, refl, l)))
    ⨾ (λ d a b g i h l e. made _ _ false Done i g.label e refl refl (λ t. (tt, refl, l)))
    ⨾ (λ d a b g i h l e. made _ _ false (Fail g.number) i g.label e refl refl (λ t. (h.0, refl, l)))
    ⨾ (λ d a b g i h l e. made _ _ _ (Loop d g.number) i g.label e refl refl (λ t. ((h.0, omega arith), ap (Loop d) (sym l), h.1.0)))
    ⨾ tt

pub with_takes : (word : List ℕ) (os : List Operand) (line : Line) → AreOperands os → instruction_with word os ≡ Some line → IsMade word os line
unfolding instruction_with row_named
with_takes word os line h e =
    let row = chained (λ row. with_row row os) (named word rows) line e in
    let own = find_each MakesItsOwn (λ row. bytes_eq row.mnemonic word) rows row.0 each_makes_its_own row.1 in
    let t = row_takes row.0 os line row.2 in
    let m = own.1 t.d t.a t.b t.given t.instr (subst AreOperands t.operands h) t.is_given t.made in
    let same : row.0.mnemonic ≡ word = word_is row.0.mnemonic word own.0 in
    let x = subst (λ (w : List ℕ). IsMade w (row_operands row.0 t.d t.a t.b t.given) (Does t.instr t.given.label)) same m in
    let y = subst (λ (xs : List Operand). IsMade word xs (Does t.instr t.given.label)) (sym t.operands) x in
    subst (IsMade word os) t.is_line y

pub made_text : (word : List ℕ) (os : List Operand) (line : Line) → IsMade word os line → (with_operands word os ≡ line_text line) × IsLine line
made_text word os (Opens name arity) h = absurd h
made_text word os (Names label) h = absurd h
made_text word os Closes h = absurd h
made_text word os (Does i label) (w, p, h) = (ap (λ (x : List ℕ). with_operands x os) w ∙ (ap (with_operands (mnemonic i)) p ∙ sym (text_is i label)), h)

-- ---- what is written
pub operands_are : (i : Instr) (label : List ℕ) → IsLine (Does i label) → AreOperands (operands i label)
operands_are (Ldi d n) label (h, t, l) = (h.0, (h.1, tt))
operands_are (Mov d a) label (h, t, l) = (h.0, (h.1, tt))
operands_are (Arg d k) label (h, t, l) = (h.0, (h.1, tt))
operands_are (Add d a b) label (h, t, l) = (h.0, (h.1, (h.2, tt)))
operands_are (Sub d a b) label (h, t, l) = (h.0, (h.1, (h.2, tt)))
operands_are (Eq d a b) label (h, t, l) = (h.0, (h.1, (h.2, tt)))
operands_are (Lt d a b) label (h, t, l) = (h.0, (h.1, (h.2, tt)))
operands_are (Jmp x) label (h, t, l) = (l, tt)
operands_are (Jz a x) label (h, t, l) = (h.0, (l, tt))
operands_are (Fsub d a) label (h, t, l) = (h.0, (h.1, tt))
operands_are (Fnum d a) label (h, t, l) = (h.0, (h.1, tt))
operands_are (Facc d a b) label (h, t, l) = (h.0, (h.1, (h.2, tt)))
operands_are (Ffac d a b) label (h, t, l) = (h.0, (h.1, (h.2, tt)))
operands_are (Fcfw d a) label (h, t, l) = (h.0, (omega (arith, h.1), tt))
operands_are (Get d c) label (h, t, l) = (h.0, (h.1, tt))
operands_are (Put a c) label (h, t, l) = (h.1, (h.0, tt))
operands_are (Ins d a) label (h, t, l) = (h.0, (omega (arith, h.1), tt))
operands_are Del label h = tt
operands_are (Out a) label (h, t, l) = (h, tt)
operands_are Done label h = tt
operands_are (Fail n) label (h, t, l) = (h, tt)
operands_are (Loop a x) label (h, t, l) = (h.0, (l, tt))

pub mnemonic_plain : (i : Instr) → list_all plain (mnemonic i) ≡ true
mnemonic_plain (Ldi d n) = refl
mnemonic_plain (Mov d a) = refl
mnemonic_plain (Arg d k) = refl
mnemonic_plain (Add d a b) = refl
mnemonic_plain (Sub d a b) = refl
mnemonic_plain (Eq d a b) = refl
mnemonic_plain (Lt d a b) = refl
mnemonic_plain (Jmp t) = refl
mnemonic_plain (Jz a t) = refl
mnemonic_plain (Fsub d a) = refl
mnemonic_plain (Fnum d a) = refl
mnemonic_plain (Facc d a b) = refl
mnemonic_plain (Ffac d a b) = refl
mnemonic_plain (Fcfw d a) = refl
mnemonic_plain (Get d c) = refl
mnemonic_plain (Put a c) = refl
mnemonic_plain (Ins d a) = refl
mnemonic_plain Del = refl
mnemonic_plain (Out a) = refl
mnemonic_plain Done = refl
mnemonic_plain (Fail n) = refl
mnemonic_plain (Loop a t) = refl

-- no mnemonic is `end`, and none has a colon
pub mnemonic_not_end : (i : Instr) → bytes_eq (mnemonic i) (codes "end") ≡ false
mnemonic_not_end (Ldi d n) = refl
mnemonic_not_end _ = refl

pub mnemonic_no_colon : (i : Instr) → before_colon (mnemonic i) ≡ None
unfolding before_colon
mnemonic_no_colon (Ldi d n) = refl
mnemonic_no_colon _ = refl

pub few_operands : (i : Instr) (label : List ℕ) → length (operands i label) < 4
few_operands (Ldi d n) label = omega arith
few_operands (Add d a b) label = omega arith
few_operands (Mov d a) label = omega arith
few_operands _ label = omega arith

bare_line : (i : Instr) (label : List ℕ) → label ≡ [] → Does i [] ≡ Does i label
bare_line i label e = ap (λ (l : List ℕ). Does i l) (sym e)

low : (d : ℕ) → d < REGISTERS → leb REGISTERS d ≡ false
low d h = lt-leb REGISTERS d h

-- the row of its mnemonic, with its operands
pub with_again : (i : Instr) (label : List ℕ) → IsLine (Does i label) → instruction_with (mnemonic i) (operands i label) ≡ Some (Does i label)
unfolding instruction_with row_named with_row registers_of given_for instr_with
with_again (Ldi d n) label (h, t, l) = rw (low d h.0) (ap Some (bare_line (Ldi d n) label l))
with_again (Mov d a) label (h, t, l) = rw (low d h.0, low a h.1) (ap Some (bare_line (Mov d a) label l))
with_again (Arg d k) label (h, t, l) = rw (low d h.0) (ap Some (bare_line (Arg d k) label l))
with_again (Add d a b) label (h, t, l) = rw (low d h.0, low a h.1, low b h.2) (ap Some (bare_line (Add d a b) label l))
with_again (Sub d a b) label (h, t, l) = rw (low d h.0, low a h.1, low b h.2) (ap Some (bare_line (Sub d a b) label l))
with_again (Eq d a b) label (h, t, l) = rw (low d h.0, low a h.1, low b h.2) (ap Some (bare_line (Eq d a b) label l))
with_again (Lt d a b) label (h, t, l) = rw (low d h.0, low a h.1, low b h.2) (ap Some (bare_line (Lt d a b) label l))
with_again (Jmp x) label (h, t, l) = ap (λ (i : Instr). Some (Does i label)) t
with_again (Jz a x) label (h, t, l) = rw (low a h.0) (ap (λ (i : Instr). Some (Does i label)) t)
with_again (Fsub d a) label (h, t, l) = rw (low d h.0, low a h.1) (ap Some (bare_line (Fsub d a) label l))
with_again (Fnum d a) label (h, t, l) = rw (low d h.0, low a h.1) (ap Some (bare_line (Fnum d a) label l))
with_again (Facc d a b) label (h, t, l) = rw (low d h.0, low a h.1, low b h.2) (ap Some (bare_line (Facc d a b) label l))
with_again (Ffac d a b) label (h, t, l) = rw (low d h.0, low a h.1, low b h.2) (ap Some (bare_line (Ffac d a b) label l))
with_again (Fcfw d a) label (h, t, l) = rw (low d h.0, low a (omega arith), lt-leb (REGISTERS - 2) a h.1) (ap Some (bare_line (Fcfw d a) label l))
with_again (Get d c) label (h, t, l) = rw (low d h.0) (ap Some (bare_line (Get d c) label l))
with_again (Put a c) label (h, t, l) = rw (low a h.0) (ap Some (bare_line (Put a c) label l))
with_again (Ins d a) label (h, t, l) = rw (low d h.0, low a (omega arith), lt-leb (REGISTERS - 4) a h.1) (ap Some (bare_line (Ins d a) label l))
with_again Del label (h, t, l) = ap Some (bare_line Del label l)
with_again (Out a) label (h, t, l) = rw (low a h) (ap Some (bare_line (Out a) label l))
with_again Done label (h, t, l) = ap Some (bare_line Done label l)
with_again (Fail n) label (h, t, l) = ap Some (bare_line (Fail n) label l)
with_again (Loop a x) label (h, t, l) = rw (low a h.0) (ap (λ (i : Instr). Some (Does i label)) t)
