-- A line and its text.
use Rattle.std.proofs.Common.{◌≡◌, ℕ, ◌<◌, ◌≤◌, ◌∙◌, sym, ap, subst, Bool, true, false, cond, eqb, ◌&&◌, List, [], ◌∷◌, ◌++◌, length, map, refl, arith, append_assoc, Option, Some, None, decimal}
use Rattle.std.specs.Prelude.{codes, IfSome}
use Rattle.std.specs.Option.{option_map, option_and_then}
use Rattle.std.specs.Str.{bytes_eq, is_utf8}
use Rattle.std.specs.List.{slice_split, join_with_byte, list_all}
use Rattle.std.proofs.lemmas.Bool.{eqb-true}
use Rattle.std.proofs.lemmas.List.Splits.{join_with_byte-slice_split}
use Rattle.std.proofs.lemmas.Str.{IsUtf8-from_ascii, is_utf8-from_IsUtf8}
use Rattle.tatp_limits.specs.declared.limits.TheConstants.{MAX_ARGUMENTS}
use Rattle.tatp_instr.specs.declared.instr.Instr.{Instr}
use Rattle.tatp_encoding.specs.Modules.{is_name}
use Rattle.tatp_asm.specs.Lines.{Line, Opens, Names, Does, Closes, line_text, instruction_text, IsLine, is_label}
use Rattle.tatp_asm.specs.Words.{Operand, below, operands_of, instruction_with, instruction_of, before_colon, label_line, label_or_instruction, word_of, opening_of, line_of_fields, line_of, line_of_bytes}
use Rattle.tatp_asm.proofs.RoundTrip.{below_takes, below_again}
use Rattle.tatp_asm.proofs.Tools.{some_is, word_is, mapped, chained, guarded, both, plain, ascii, free, mono, plain_ascii, plain_no_space, plain_no_comma, decimal_plain, label_plain, name_plain, Each, each_mono, all_append, each_join, split_join, ascii_at}
use Rattle.tatp_asm.proofs.FieldLaws.{some_field}
use Rattle.tatp_asm.proofs.OperandLaws.{operand_text, operands_text, AreOperands, operands_take, operands_again, operands_plain}
use Rattle.tatp_asm.proofs.InstructionLaws.{mnemonic, operands, with_operands, text_is, IsMade, with_takes, made_text, operands_are, mnemonic_plain, mnemonic_not_end, mnemonic_no_colon, few_operands, with_again}

-- ---- what is read is written so
abbrev IsRead : List ℕ → Line → Type 0
IsRead text line = (text ≡ line_text line) × IsLine line

colon_takes : (word front : List ℕ) → before_colon word ≡ Some front → word ≡ front ++ codes ":"
unfolding before_colon
colon_takes [] front e = absurd cc
colon_takes (b ∷ []) front e = let g = guarded (eqb b 58) (Some []) front e in let f : [] ≡ front = some_is [] front g.1 in rw (eqb-true b 58 g.0, ← f) refl
colon_takes (b ∷ c ∷ bs) front e =
    let m = mapped (λ (x : List ℕ). b ∷ x) (before_colon (c ∷ bs)) front e in
    rw (← m.2) (ap (λ (x : List ℕ). b ∷ x) (colon_takes (c ∷ bs) m.0 m.1))

label_takes : (word front : List ℕ) (line : Line) → before_colon word ≡ Some front → label_line front ≡ Some line → IsRead word line
label_takes word front line c e =
    let g = guarded (is_label front) (Some (Names front)) line e in
    subst (IsRead word) (some_is (Names front) line g.1) (colon_takes word front c, g.0)

word_takes : (word : List ℕ) (line : Line) → word_of word ≡ Some line → IsRead word line
unfolding word_of
word_takes word line e = by (bytes_eq word (codes "end")) (before_colon word) refl refl e
  where
    by : (p : Bool) (colon : Option (List ℕ)) → bytes_eq word (codes "end") ≡ p → before_colon word ≡ colon → cond p (Some Closes) (label_or_instruction word colon) ≡ Some line → IsRead word line
    by true colon x c k = subst (IsRead word) (some_is Closes line k) (word_is word _ x, tt)
    by false (Some front) x c k = label_takes word front line c k
    by false None x c k = made_text word [] line (with_takes word [] line tt k)

abbrev with_field : List ℕ → List ℕ → List ℕ
with_field word text = word ++ (32 ∷ text)

made_takes : (word text : List ℕ) (os : List Operand) (line : Line) → IsMade word os line → slice_split (λ b. eqb b 44) text ≡ map operand_text os → IsRead (with_field word text) line
made_takes word text [] line m f = let s = some_field 44 text in absurd cc
made_takes word text (o ∷ os) line m f =
    let t : text ≡ operands_text (o ∷ os) = sym (join_with_byte-slice_split 44 text) ∙ ap (join_with_byte 44) f in
    let r = made_text word (o ∷ os) line m in
    (ap (with_field word) t ∙ r.0, r.1)

instruction_takes : (word text : List ℕ) (line : Line) → instruction_of word text ≡ Some line → IsRead (with_field word text) line
unfolding instruction_of
instruction_takes word text line e =
    let c = chained (instruction_with word) (operands_of (slice_split (λ b. eqb b 44) text)) line e in
    let r = operands_take (slice_split (λ b. eqb b 44) text) c.0 c.1 in
    made_takes word text c.0 line (with_takes word c.0 line r.1 c.2) r.0

abbrev opening_text : List ℕ → List ℕ → List ℕ → List ℕ
opening_text word name arity = word ++ (32 ∷ (name ++ (32 ∷ arity)))

opening_is : (name : List ℕ) (arity : ℕ) → line_text (Opens name arity) ≡ opening_text (codes "proc") name (decimal arity)
opening_is name arity = ap (λ (x : List ℕ). codes "proc " ++ x) (append_assoc name (codes " ") (decimal arity))

opening_same : (word w name arity a : List ℕ) → word ≡ w → arity ≡ a → opening_text word name arity ≡ opening_text w name a
opening_same word w name arity a e f = rw (e, f) refl

opening_takes : (word name arity : List ℕ) (line : Line) → opening_of word name arity ≡ Some line → IsRead (opening_text word name arity) line
unfolding opening_of
opening_takes word name arity line e =
    let g = guarded (bytes_eq word (codes "proc") && is_name name) (option_map (Opens name) (below 9 arity)) line e in
    let b = both (bytes_eq word (codes "proc")) (is_name name) g.0 in
    let m = mapped (Opens name) (below 9 arity) line g.1 in
    let n = below_takes 9 arity m.0 m.1 in
    let w : word ≡ codes "proc" = word_is word _ b.0 in
    subst (IsRead (opening_text word name arity)) m.2 (opening_same word (codes "proc") name arity (decimal m.0) w n.0 ∙ sym (opening_is name m.0), (b.1, omega (arith, n.1)))

fields_take : (fs : List (List ℕ)) (line : Line) → line_of_fields fs ≡ Some line → IsRead (join_with_byte 32 fs) line
fields_take [] line e = absurd cc
fields_take (word ∷ []) line e = word_takes word line e
fields_take (word ∷ text ∷ []) line e = instruction_takes word text line e
fields_take (word ∷ name ∷ arity ∷ []) line e = opening_takes word name arity line e
fields_take (word ∷ name ∷ arity ∷ x ∷ fs) line e = absurd cc

text_takes : (text : List ℕ) (line : Line) → line_of text ≡ Some line → IsRead text line
unfolding line_of
text_takes text line e = subst (λ (t : List ℕ). IsRead t line) (join_with_byte-slice_split 32 text) (fields_take (slice_split (λ b. eqb b 32) text) line e)

pub line_takes : (bytes : List ℕ) (line : Line) → line_of_bytes bytes ≡ Some line → (bytes ≡ line_text line) × IsLine line
unfolding line_of_bytes
line_takes bytes line e = text_takes bytes line (guarded (is_utf8 bytes) (line_of bytes) line e).1

-- ---- what is written is read so
fields_again : (f : List ℕ) (fs : List (List ℕ)) (line : Line) → Each (free 32) (f ∷ fs) → Each ascii (f ∷ fs) → line_of_fields (f ∷ fs) ≡ Some line → line_of_bytes (join_with_byte 32 (f ∷ fs)) ≡ Some line
unfolding line_of_bytes line_of
fields_again f fs line h k e =
    rw (is_utf8-from_IsUtf8 _ (IsUtf8-from_ascii _ (ascii_at (join_with_byte 32 (f ∷ fs)) (each_join ascii 32 refl (f ∷ fs) k))), split_join 32 f fs h) e

plain_again : (f : List ℕ) (fs : List (List ℕ)) (line : Line) → Each plain (f ∷ fs) → line_of_fields (f ∷ fs) ≡ Some line → line_of_bytes (join_with_byte 32 (f ∷ fs)) ≡ Some line
plain_again f fs line h e = fields_again f fs line (each_mono plain (free 32) plain_no_space (f ∷ fs) h) (each_mono plain ascii plain_ascii (f ∷ fs) h) e

operands_again_all : (word : List ℕ) (o : Operand) (os : List Operand) (line : Line) → list_all plain word ≡ true → length (o ∷ os) < 4 → AreOperands (o ∷ os) → instruction_with word (o ∷ os) ≡ Some line → line_of_bytes (with_field word (operands_text (o ∷ os))) ≡ Some line
unfolding instruction_of
operands_again_all word o os line w n h e =
    let ts : List (List ℕ) = map operand_text (o ∷ os) in
    let p = operands_plain (o ∷ os) h in
    let s : slice_split (λ b. eqb b 44) (operands_text (o ∷ os)) ≡ ts = split_join 44 (operand_text o) (map operand_text os) (each_mono plain (free 44) plain_no_comma ts p) in
    fields_again word (operands_text (o ∷ os) ∷ []) line
    (mono plain (free 32) plain_no_space word w, (each_join (free 32) 44 refl ts (each_mono plain (free 32) plain_no_space ts p), tt))
    (mono plain ascii plain_ascii word w, (each_join ascii 44 refl ts (each_mono plain ascii plain_ascii ts p), tt))
    (ap (λ (fs : List (List ℕ)). option_and_then (instruction_with word) (operands_of fs)) s ∙ (ap (option_and_then (instruction_with word)) (operands_again (o ∷ os) (omega arith) n h) ∙ e))

colon_again : (front : List ℕ) → before_colon (front ++ codes ":") ≡ Some front
unfolding before_colon
colon_again [] = refl
colon_again (b ∷ []) = refl
colon_again (b ∷ c ∷ bs) = ap (option_map (λ (front : List ℕ). b ∷ front)) (colon_again (c ∷ bs))

word_not : (l c : List ℕ) → before_colon c ≡ None → bytes_eq (l ++ codes ":") c ≡ false
word_not l c e = by (bytes_eq (l ++ codes ":") c) refl
  where
    by : (b : Bool) → bytes_eq (l ++ codes ":") c ≡ b → b ≡ false
    by true h = let s = colon_again l in let q = ap before_colon (word_is (l ++ codes ":") c h) in absurd cc
    by false h = refl

end_no_label : before_colon (codes "end") ≡ None
unfolding before_colon
end_no_label = refl

names_again : (l : List ℕ) → is_label l ≡ true → word_of (l ++ codes ":") ≡ Some (Names l)
unfolding word_of
names_again l h = rw (word_not l (codes "end") end_no_label, colon_again l) (rw h refl)

opens_again : (name : List ℕ) (arity : ℕ) → is_name name ≡ true → arity ≤ MAX_ARGUMENTS → opening_of (codes "proc") name (decimal arity) ≡ Some (Opens name arity)
unfolding opening_of
opens_again name arity h k = rw (h, below_again 9 arity (omega arith) (omega arith)) refl

closes_again : word_of (codes "end") ≡ Some Closes
unfolding word_of
closes_again = refl

alone_again : (i : Instr) (label : List ℕ) → instruction_with (mnemonic i) [] ≡ Some (Does i label) → word_of (mnemonic i) ≡ Some (Does i label)
unfolding word_of
alone_again i label e = rw (mnemonic_not_end i, mnemonic_no_colon i) e

does_again : (i : Instr) (label : List ℕ) (os : List Operand) → os ≡ operands i label → IsLine (Does i label) → line_of_bytes (instruction_text i label) ≡ Some (Does i label)
does_again i label [] e h =
    let t : instruction_text i label ≡ with_operands (mnemonic i) [] = text_is i label ∙ ap (with_operands (mnemonic i)) (sym e) in
    let made : instruction_with (mnemonic i) [] ≡ Some (Does i label) = ap (instruction_with (mnemonic i)) e ∙ with_again i label h in
    ap line_of_bytes t ∙ plain_again (mnemonic i) [] (Does i label) (mnemonic_plain i, tt) (alone_again i label made)
does_again i label (o ∷ os) e h =
    let t : instruction_text i label ≡ with_operands (mnemonic i) (o ∷ os) = text_is i label ∙ ap (with_operands (mnemonic i)) (sym e) in
    let few : length (o ∷ os) < 4 = subst (λ (x : List Operand). length x < 4) (sym e) (few_operands i label) in
    let are : AreOperands (o ∷ os) = subst AreOperands (sym e) (operands_are i label h) in
    let made : instruction_with (mnemonic i) (o ∷ os) ≡ Some (Does i label) = ap (instruction_with (mnemonic i)) e ∙ with_again i label h in
    ap line_of_bytes t ∙ operands_again_all (mnemonic i) o os (Does i label) (mnemonic_plain i) few are made

pub line_again : (line : Line) → IsLine line → line_of_bytes (line_text line) ≡ Some line
line_again (Opens name arity) (h, k) =
    ap line_of_bytes (opening_is name arity) ∙ plain_again (codes "proc") (name ∷ decimal arity ∷ []) (Opens name arity) (refl, (name_plain name h, (decimal_plain arity (omega arith), tt))) (opens_again name arity h k)
line_again (Names l) h = plain_again (l ++ codes ":") [] (Names l) (all_append plain l (codes ":") (label_plain l h) refl, tt) (names_again l h)
line_again Closes h = plain_again (codes "end") [] Closes (refl, tt) closes_again
line_again (Does i label) h = does_again i label (operands i label) refl h

-- ---- the bytes of a line
alone_all : (p : ℕ → Bool) (f : (b : ℕ) → plain b ≡ true → p b ≡ true) (i : Instr) (os : List Operand) → p 32 ≡ true → p 44 ≡ true → AreOperands os → list_all p (with_operands (mnemonic i) os) ≡ true
alone_all p f i [] s c h = mono plain p f (mnemonic i) (mnemonic_plain i)
alone_all p f i (o ∷ os) s c h =
    let ts : List (List ℕ) = map operand_text (o ∷ os) in
    each_join p 32 s (mnemonic i ∷ operands_text (o ∷ os) ∷ [])
    (mono plain p f (mnemonic i) (mnemonic_plain i), (each_join p 44 c ts (each_mono plain p f ts (operands_plain (o ∷ os) h)), tt))

-- whatever test the plain bytes, the space and the comma pass
pub line_all : (p : ℕ → Bool) → ((b : ℕ) → plain b ≡ true → p b ≡ true) → p 32 ≡ true → p 44 ≡ true → (line : Line) → IsLine line → list_all p (line_text line) ≡ true
line_all p f s c (Opens name arity) (h, k) =
    ap (list_all p) (opening_is name arity) ∙ each_join p 32 s (codes "proc" ∷ name ∷ decimal arity ∷ []) (mono plain p f (codes "proc") refl, (mono plain p f name (name_plain name h), (mono plain p f (decimal arity) (decimal_plain arity (omega arith)), tt)))
line_all p f s c (Names l) h = mono plain p f (l ++ codes ":") (all_append plain l (codes ":") (label_plain l h) refl)
line_all p f s c Closes h = mono plain p f (codes "end") refl
line_all p f s c (Does i label) h = ap (list_all p) (text_is i label) ∙ alone_all p f i (operands i label) s c (operands_are i label h)

-- what is read as a line is one
pub within : {X : Type 0} (view : X → Line) (o : Option X) (bytes : List ℕ) → option_map view o ≡ line_of_bytes bytes → IfSome o (λ x. IsLine (view x))
within view None bytes e = tt
within view (Some x) bytes e = (line_takes bytes (view x) (sym e)).1
