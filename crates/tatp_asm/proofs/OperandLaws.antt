-- Operands and their texts.
use Rattle.std.proofs.Common.{◌≡◌, ℕ, ◌<◌, ◌^◌, ap, subst, Bool, true, false, cond, eqb, List, [], ◌∷◌, ◌++◌, length, map, refl, arith, Some, None, decimal}
use Rattle.std.specs.Prelude.{codes}
use Rattle.std.specs.Option.{option_map, option_and_then}
use Rattle.std.specs.List.{join_with_byte, list_all}
use Rattle.std.proofs.lemmas.Bool.{eqb-true}
use Rattle.tatp_limits.specs.declared.limits.TheConstants.{REGISTERS}
use Rattle.tatp_instr.specs.Instrs.{register_text}
use Rattle.tatp_asm.specs.Lines.{is_label}
use Rattle.tatp_asm.specs.Words.{Operand, Register, Number, Target, below, operand_of, operands_of}
use Rattle.tatp_asm.proofs.RoundTrip.{below_takes, below_again}
use Rattle.tatp_asm.proofs.Tools.{mapped, chained, guarded, some_is, plain, Each, decimal_plain, label_plain}

abbrev pub operand_text : Operand → List ℕ
operand_text (Register r) = register_text r
operand_text (Number n) = codes "#" ++ decimal n
operand_text (Target label) = codes "@" ++ label

abbrev pub IsOperand : Operand → Type 0
IsOperand (Register r) = r < REGISTERS
IsOperand (Number n) = n < 2 ^ 32
IsOperand (Target label) = is_label label ≡ true

abbrev pub AreOperands : List Operand → Type 0
AreOperands [] = Unit {0}
AreOperands (o ∷ os) = IsOperand o × AreOperands os

-- parted by commas
abbrev pub operands_text : List Operand → List ℕ
operands_text os = join_with_byte 44 (map operand_text os)

same_cons : (b c : ℕ) (bs xs : List ℕ) → b ≡ c → bs ≡ xs → b ∷ bs ≡ c ∷ xs
same_cons b c bs xs e f = rw (e, f) refl

-- ---- what is read is written so
abbrev IsRead : List ℕ → Operand → Type 0
IsRead text o = (text ≡ operand_text o) × IsOperand o

operand_takes : (text : List ℕ) (o : Operand) → operand_of text ≡ Some o → IsRead text o
unfolding operand_of
operand_takes [] o e = absurd cc
operand_takes (b ∷ bs) o e = by (eqb b 114) (eqb b 35) (eqb b 64) refl refl refl e
  where
    by : (p q r : Bool) → eqb b 114 ≡ p → eqb b 35 ≡ q → eqb b 64 ≡ r
        → cond p (option_map Register (below REGISTERS bs)) (cond q (option_map Number (below (2 ^ 32) bs)) (cond r (cond (is_label bs) (Some (Target bs)) None) None)) ≡ Some o → IsRead (b ∷ bs) o
    by true q r h i j k =
        let m = mapped Register (below REGISTERS bs) o k in
        let t = below_takes REGISTERS bs m.0 m.1 in
        subst (IsRead (b ∷ bs)) m.2 (same_cons b 114 bs (decimal m.0) (eqb-true b 114 h) t.0, t.1)
    by false true r h i j k =
        let m = mapped Number (below (2 ^ 32) bs) o k in
        let t = below_takes (2 ^ 32) bs m.0 m.1 in
        subst (IsRead (b ∷ bs)) m.2 (same_cons b 35 bs (decimal m.0) (eqb-true b 35 i) t.0, t.1)
    by false false true h i j k =
        let g = guarded (is_label bs) (Some (Target bs)) o k in
        subst (IsRead (b ∷ bs)) (some_is (Target bs) o g.1) (same_cons b 64 bs bs (eqb-true b 64 j) refl, g.0)
    by false false false h i j k = absurd cc

fields_1 : (a x : List ℕ) → a ≡ x → a ∷ [] ≡ x ∷ []
fields_1 a x e = ap (λ (t : List ℕ). t ∷ []) e

fields_2 : (a b x y : List ℕ) → a ≡ x → b ≡ y → a ∷ b ∷ [] ≡ x ∷ y ∷ []
fields_2 a b x y e f = rw (e, f) refl

fields_3 : (a b c x y z : List ℕ) → a ≡ x → b ≡ y → c ≡ z → a ∷ b ∷ c ∷ [] ≡ x ∷ y ∷ z ∷ []
fields_3 a b c x y z e f g = rw (e, f, g) refl

abbrev pub AreRead : List (List ℕ) → List Operand → Type 0
AreRead fs os = (fs ≡ map operand_text os) × AreOperands os

pub operands_take : (fs : List (List ℕ)) (os : List Operand) → operands_of fs ≡ Some os → AreRead fs os
unfolding operands_of
operands_take [] os e = absurd cc
operands_take (a ∷ []) os e =
    let x = mapped (λ x. x ∷ []) (operand_of a) os e in
    let r = operand_takes a x.0 x.1 in
    subst (AreRead (a ∷ [])) x.2 (fields_1 a (operand_text x.0) r.0, (r.1, tt))
operands_take (a ∷ b ∷ []) os e =
    let x = chained (λ x. option_map (λ y. x ∷ y ∷ []) (operand_of b)) (operand_of a) os e in
    let y = mapped (λ y. x.0 ∷ y ∷ []) (operand_of b) os x.2 in
    let r = operand_takes a x.0 x.1 in
    let s = operand_takes b y.0 y.1 in
    subst (AreRead (a ∷ b ∷ [])) y.2 (fields_2 a b (operand_text x.0) (operand_text y.0) r.0 s.0, (r.1, (s.1, tt)))
operands_take (a ∷ b ∷ c ∷ []) os e =
    let x = chained (λ x. option_and_then (λ y. option_map (λ z. x ∷ y ∷ z ∷ []) (operand_of c)) (operand_of b)) (operand_of a) os e in
    let y = chained (λ y. option_map (λ z. x.0 ∷ y ∷ z ∷ []) (operand_of c)) (operand_of b) os x.2 in
    let z = mapped (λ z. x.0 ∷ y.0 ∷ z ∷ []) (operand_of c) os y.2 in
    let r = operand_takes a x.0 x.1 in
    let s = operand_takes b y.0 y.1 in
    let t = operand_takes c z.0 z.1 in
    subst (AreRead (a ∷ b ∷ c ∷ [])) z.2 (fields_3 a b c (operand_text x.0) (operand_text y.0) (operand_text z.0) r.0 s.0 t.0, (r.1, (s.1, (t.1, tt))))
operands_take (a ∷ b ∷ c ∷ d ∷ fs) os e = absurd cc

-- ---- what is written is read so
operand_again : (o : Operand) → IsOperand o → operand_of (operand_text o) ≡ Some o
unfolding operand_of
operand_again (Register r) h = rw (below_again REGISTERS r h (omega arith)) refl
operand_again (Number n) h = rw (below_again (2 ^ 32) n h (omega arith)) refl
operand_again (Target label) h = rw h refl

pub operands_again : (os : List Operand) → 0 < length os → length os < 4 → AreOperands os → operands_of (map operand_text os) ≡ Some os
unfolding operands_of
operands_again [] h k a = absurd (omega arith)
operands_again (x ∷ []) h k (p, a) = rw (operand_again x p) refl
operands_again (x ∷ y ∷ []) h k (p, (q, a)) = rw (operand_again x p, operand_again y q) refl
operands_again (x ∷ y ∷ z ∷ []) h k (p, (q, (r, a))) = rw (operand_again x p, operand_again y q, operand_again z r) refl
operands_again (x ∷ y ∷ z ∷ w ∷ os) h k a = absurd (omega arith)

-- ---- their bytes
operand_plain : (o : Operand) → IsOperand o → list_all plain (operand_text o) ≡ true
operand_plain (Register r) h = decimal_plain r (omega arith)
operand_plain (Number n) h = decimal_plain n (omega arith)
operand_plain (Target label) h = label_plain label h

pub operands_plain : (os : List Operand) → AreOperands os → Each plain (map operand_text os)
operands_plain [] h = tt
operands_plain (o ∷ os) (p, h) = (operand_plain o p, operands_plain os h)
