-- The text that is printed of a module is a text of it.
use Rattle.std.proofs.Common.{◌≡◌, ℕ, suc, ◌+◌, ◌<◌, ◌≤◌, ◌^◌, ◌∙◌, sym, subst, Bool, true, false, ◌&&◌, eqb, List, [], ◌∷◌, ◌++◌, length, refl, arith, decimal}
use Rattle.std.specs.Prelude.{nat_le, codes}
use Rattle.std.specs.Str.{all_ascii_digits}
use Rattle.std.specs.List.{All, list_all}
use Rattle.std.specs.Char.{is_ascii_digit}
use Rattle.std.proofs.lemmas.Bool.{lt-ltb, leb-true}
use Rattle.std.proofs.lemmas.Bool.Decides.{nat_tests}
use Rattle.std.proofs.lemmas.Fmt.{digits_decimal, length-decimal-le}
use Rattle.tatp_limits.specs.declared.limits.TheConstants.{MAX_ARGUMENTS, MAX_INSTRUCTIONS, MAX_NAME_BYTES}
use Rattle.tatp_lines.specs.Numbers.{is_between}
use Rattle.tatp_instr.specs.declared.instr.Instr.{Instr}
use Rattle.tatp_instr.specs.declared.instr.Instr.TheVariants.{Jmp, Jz, Loop}
use Rattle.tatp_instr.specs.declared.version.Version.{Version}
use Rattle.tatp_instr.specs.declared.version.Version.TheVariants.{One, Two}
use Rattle.tatp_encoding.specs.Modules.{Procedure, ModuleState, is_name, is_procedure, is_module}
use Rattle.tatp_encoding.specs.Spelling.{IsInstr}
use Rattle.tatp_lines.specs.Lines.{lines_of}
use Rattle.tatp_asm.specs.Lines.{Line, Opens, Names, Does, Closes, line_text, IsLine, is_label, is_label_byte}
use Rattle.tatp_asm.specs.Texts.{AreTexts, AreModuleTexts, IsTextOf}
use Rattle.tatp_asm.specs.Printing.{label_at, is_named, with_label, instruction_line, body_lines, module_lines, lines_text, version_text, disassembled}
use Rattle.tatp_lines.proofs.LineLaws.{lines_of-cons, lines_of-nil}
use Rattle.tatp_asm.proofs.Tools.{both, not_true, free, plain_no_feed, own}
use Rattle.tatp_asm.proofs.LineLaws.{line_all}
use Rattle.tatp_asm.proofs.Printed.{AreShort, printed_are}
use Rattle.tatp_asm.proofs.ModuleLaws.{tested}

-- ---- the lines of a text that is printed
not_empty : (line : Line) → [] ≡ line_text line → ⊥
not_empty (Opens name arity) e = absurd cc
not_empty (Names []) e = absurd cc
not_empty (Names (b ∷ l)) e = absurd cc
not_empty Closes e = absurd cc
not_empty (Does (Jmp t) l) e = absurd cc
not_empty (Does (Jz a t) l) e = absurd cc
not_empty (Does (Loop a t) l) e = absurd cc
not_empty (Does _ l) e = absurd cc

lines_next : (s rest : List ℕ) → list_all (free 10) s ≡ true → lines_of (s ++ (10 ∷ rest)) ≡ s ∷ lines_of rest
lines_next [] rest h = lines_of-cons 10 rest
lines_next (b ∷ bs) rest h = let r = both (free 10 b) (list_all (free 10) bs) h in lines_of-cons b (bs ++ (10 ∷ rest)) ∙ rw (not_true (eqb b 10) r.0, lines_next bs rest r.1) refl

texts_one : (s : List ℕ) (line : Line) (texts : List (List ℕ)) (lines : List Line) → s ≡ line_text line → IsLine line → AreTexts texts lines → AreTexts (s ∷ texts) (line ∷ lines)
texts_one [] line texts lines e h k = absurd (not_empty line e)
texts_one (b ∷ bs) line texts lines e h k = (e, h, k)

abbrev AreLines : List Line → Type 0
AreLines [] = Unit {0}
AreLines (line ∷ lines) = IsLine line × AreLines lines

texts_of_lines : (lines : List Line) → AreLines lines → AreTexts (lines_of (lines_text lines)) lines
texts_of_lines [] h = subst (λ (ts : List (List ℕ)). AreTexts ts []) (sym lines_of-nil) refl
texts_of_lines (line ∷ lines) (h, k) =
    let e : lines_of (lines_text (line ∷ lines)) ≡ line_text line ∷ lines_of (lines_text lines) =
    lines_next (line_text line) (lines_text lines) (line_all (free 10) plain_no_feed refl refl line h) in
    subst (λ (ts : List (List ℕ)). AreTexts ts (line ∷ lines)) (sym e) (texts_one (line_text line) line (lines_of (lines_text lines)) lines refl h (texts_of_lines lines k))

-- ---- the lines are in their ranges
digit_label : (d : ℕ) → is_ascii_digit d ≡ true → is_label_byte d ≡ true
digit_label d h = grind (arith, nat_tests)

digits_label : (ds : List ℕ) → all_ascii_digits ds ≡ true → list_all is_label_byte ds ≡ true
digits_label [] h = refl
digits_label (d ∷ ds) h = let r = both (is_ascii_digit d) (all_ascii_digits ds) h in rw (digit_label d r.0) (digits_label ds r.1)

label_at_is : (k : ℕ) → k < 2 ^ 32 → is_label (label_at k) ≡ true
unfolding is_label label_at
label_at_is k h =
    let l : length (decimal k) ≤ 10 = length-decimal-le 10 k (omega arith) (omega arith) (omega arith) in
    rw (digits_label (decimal k) (digits_decimal own k (omega arith)), lt-ltb (length (decimal k)) MAX_NAME_BYTES (omega arith)) refl

instruction_is : (i : Instr) → IsInstr i → IsLine (instruction_line i)
instruction_is (Jmp t) h = (omega arith, refl, label_at_is t h)
instruction_is (Jz a t) (h, k) = ((h, omega arith), refl, label_at_is t k)
instruction_is (Loop a t) (h, k) = ((h, omega arith), refl, label_at_is t k)
instruction_is _ h = (h, refl, refl)

before_are : (b : Bool) (k : ℕ) (lines : List Line) → k < 2 ^ 32 → AreLines lines → AreLines (with_label b k lines)
before_are true k lines h a = (label_at_is k h, a)
before_are false k lines h a = a

append_are : (lines after : List Line) → AreLines lines → AreLines after → AreLines (lines ++ after)
append_are [] after a b = b
append_are (line ∷ lines) after (h, a) b = (h, append_are lines after a b)

body_are : (all : List Instr) (k : ℕ) (code : List Instr) → k + length code < 2 ^ 32 → All IsInstr code → AreLines (body_lines all k code)
body_are all k [] h w = before_are (is_named all k) k [] (omega arith) tt
body_are all k (i ∷ code) h w =
    before_are (is_named all k) k (instruction_line i ∷ body_lines all (suc k) code) (omega arith)
    (instruction_is i (w 0 i (omega arith)), body_are all (suc k) code (omega arith) (λ n d l. w (suc n) d (omega (arith, l))))

record IsFit (p : Procedure) : Type 0 where
  name : is_name p.name ≡ true
  arity : p.arity ≤ MAX_ARGUMENTS
  most : length p.code ≤ MAX_INSTRUCTIONS

fits : (p : Procedure) → is_procedure p ≡ true → IsFit p
fits p h =
    let b = both (is_name p.name) (nat_le p.arity MAX_ARGUMENTS && is_between 1 MAX_INSTRUCTIONS (length p.code)) h in
    let c = both (nat_le p.arity MAX_ARGUMENTS) (is_between 1 MAX_INSTRUCTIONS (length p.code)) b.1 in
    let x = both (nat_le 1 (length p.code)) (nat_le (length p.code) MAX_INSTRUCTIONS) c.1 in
    record { name = b.0; arity = leb-true p.arity MAX_ARGUMENTS c.0; most = leb-true (length p.code) MAX_INSTRUCTIONS x.1 }

module_are : (ps : List Procedure) → list_all is_procedure ps ≡ true → All (λ p. All IsInstr p.code) ps → AreLines (module_lines ps)
module_are [] h w = tt
module_are (p ∷ ps) h w =
    let a = both (is_procedure p) (list_all is_procedure ps) h in
    let f = fits p a.0 in
    ((f.name, f.arity), append_are (body_lines p.code 0 p.code) (Closes ∷ module_lines ps) (body_are p.code 0 p.code (omega (arith, f.most)) (w 0 p (omega arith))) (tt, module_are ps a.1 (λ n d l. w (suc n) d (omega (arith, l)))))

short : (ps : List Procedure) → list_all is_procedure ps ≡ true → AreShort ps
short [] h = tt
short (p ∷ ps) h = let a = both (is_procedure p) (list_all is_procedure ps) h in let f = fits p a.0 in (omega (arith, f.most), short ps a.1)

module_texts : (v : Version) (lines : List Line) → AreLines lines → AreModuleTexts v (lines_of (version_text v ++ lines_text lines)) lines
module_texts One lines h = texts_of_lines lines h
module_texts Two lines h =
    let e : lines_of (codes "version 2" ++ (10 ∷ lines_text lines)) ≡ codes "version 2" ∷ lines_of (lines_text lines) = lines_next (codes "version 2") (lines_text lines) refl in
    subst (λ (ts : List (List ℕ)). AreModuleTexts Two ts lines) (sym e) (refl, texts_of_lines lines h)

pub disassembled_is : (m : ModuleState) → is_module m ≡ true → All (λ p. All IsInstr p.code) m.procedures → IsTextOf (disassembled m) m
unfolding disassembled
disassembled_is m h w =
    let ps = m.procedures in
    let t = tested m h in
    record { lines = module_lines ps; texts = module_texts m.version (module_lines ps) (module_are ps t.procedures w); procedures = printed_are ps (short ps t.procedures) t.jumps }
