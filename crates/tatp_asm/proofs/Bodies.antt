-- The labels and the code of a procedure's lines.
use Rattle.std.proofs.Common.{◌≡◌, ℕ, suc, ◌+◌, ◌∙◌, sym, ap, subst, Bool, true, false, cond, List, [], ◌∷◌, refl, arith, Option, Some, None, inl, inr, ◌⊎◌}
use Rattle.std.specs.Str.{bytes_eq}
use Rattle.std.proofs.lemmas.Slice.Eq.{bytes_eq-Decides}
use Rattle.tatp_instr.specs.declared.instr.Instr.{Instr}
use Rattle.tatp_asm.specs.Instrs.{has_target, aimed}
use Rattle.tatp_asm.specs.Lines.{Line, Opens, Names, Does, Closes}
use Rattle.tatp_asm.specs.Texts.{count, Stands, NoneTwice, Means, IsCode}
use Rattle.tatp_asm.specs.Reading.{position_of}
use Rattle.tatp_asm.proofs.Tools.{same_bytes}

-- the labels with their positions, from the position k on
abbrev pub labels_from : ℕ → List Line → List (List ℕ × ℕ)
labels_from k [] = []
labels_from k (Names label ∷ lines) = (label, k) ∷ labels_from k lines
labels_from k (Does i label ∷ lines) = labels_from (suc k) lines
labels_from k (_ ∷ lines) = labels_from k lines

-- the instructions with the labels that they name
abbrev pub code_of : List Line → List (Instr × List ℕ)
code_of [] = []
code_of (Does i label ∷ lines) = (i, label) ∷ code_of lines
code_of (_ ∷ lines) = code_of lines

abbrev pub aimed_at : Bool → Option ℕ → Instr → Option Instr
aimed_at false position i = Some i
aimed_at true (Some position) i = Some (aimed i position)
aimed_at true None i = None

infixl 10 ◌>>>◌
abbrev pub ◌>>>◌ : {A B : Type 0} → Option A → (A → Option B) → Option B
(Some x) >>> f = f x
None >>> f = None

-- the code with its targets
abbrev pub targets : List (List ℕ × ℕ) → List (Instr × List ℕ) → Option (List Instr)
targets labels [] = Some []
targets labels (c ∷ cs) = aimed_at (has_target c.0) (position_of labels c.1) c.0 >>> λ i. targets labels cs >>> λ code. Some (i ∷ code)

-- nothing but labels and instructions
abbrev pub IsInner : List Line → Type 0
IsInner [] = Unit {0}
IsInner (Opens name arity ∷ lines) = ⊥
IsInner (Closes ∷ lines) = ⊥
IsInner (_ ∷ lines) = IsInner lines

-- ---- labels as a list and as a relation

pub stands_later : (x : Line) (lines : List Line) (label : List ℕ) (position : ℕ) → Stands lines label position → Stands (x ∷ lines) label (count (x ∷ []) + position)
stands_later (Opens n a) lines label position (before, after, e, c) = (Opens n a ∷ before, after, ap (λ (l : List Line). Opens n a ∷ l) e, omega arith)
stands_later (Names l) lines label position (before, after, e, c) = (Names l ∷ before, after, ap (λ (ls : List Line). Names l ∷ ls) e, omega arith)
stands_later (Does i l) lines label position (before, after, e, c) = (Does i l ∷ before, after, ap (λ (ls : List Line). Does i l ∷ ls) e, omega arith)
stands_later Closes lines label position (before, after, e, c) = (Closes ∷ before, after, ap (λ (ls : List Line). Closes ∷ ls) e, omega arith)

-- where a label stands in a list with one line more
pub stands_first : (x : Line) (lines : List Line) (label : List ℕ) (position : ℕ) → Stands (x ∷ lines) label position → ((x ≡ Names label) × (position ≡ 0)) ⊎ ((k : ℕ) × (position ≡ count (x ∷ []) + k) × Stands lines label k)
stands_first x lines label position ([], after, e, c) = inl (cc, c)
stands_first (Opens n a) lines label position (y ∷ before, after, e, c) = let h : Opens n a ≡ y = cc in inr (count before, c ∙ rw (← h) (omega arith), (before, after, cc, refl))
stands_first (Names l) lines label position (y ∷ before, after, e, c) = let h : Names l ≡ y = cc in inr (count before, c ∙ rw (← h) (omega arith), (before, after, cc, refl))
stands_first (Does i l) lines label position (y ∷ before, after, e, c) = let h : Does i l ≡ y = cc in inr (count before, c ∙ rw (← h) (omega arith), (before, after, cc, refl))
stands_first Closes lines label position (y ∷ before, after, e, c) = let h : Closes ≡ y = cc in inr (count before, c ∙ rw (← h) (omega arith), (before, after, cc, refl))

pub stands_none : (label : List ℕ) (position : ℕ) → Stands [] label position → ⊥
stands_none label position ([], after, e, c) = cc
stands_none label position (y ∷ before, after, e, c) = cc

-- what is found stands there
pub found_stands : (k : ℕ) (lines : List Line) (label : List ℕ) (m : ℕ) → position_of (labels_from k lines) label ≡ Some m → (position : ℕ) × (m ≡ k + position) × Stands lines label position
found_stands k [] label m e = absurd cc
found_stands k (Opens n a ∷ lines) label m e = let r = found_stands k lines label m e in (r.0, r.1, let h : Stands (Opens n a ∷ lines) label (0 + r.0) = stands_later (Opens n a) lines label r.0 r.2 in let z : 0 + r.0 ≡ r.0 = omega arith in subst (λ (p : ℕ). Stands (Opens n a ∷ lines) label p) z h)
found_stands k (Closes ∷ lines) label m e = let r = found_stands k lines label m e in (r.0, r.1, let h : Stands (Closes ∷ lines) label (0 + r.0) = stands_later Closes lines label r.0 r.2 in let z : 0 + r.0 ≡ r.0 = omega arith in subst (λ (p : ℕ). Stands (Closes ∷ lines) label p) z h)
found_stands k (Does i l ∷ lines) label m e = let r = found_stands (suc k) lines label m e in (1 + r.0, omega (arith, r.1), stands_later (Does i l) lines label r.0 r.2)
found_stands k (Names l ∷ lines) label m e = by (bytes_eq label l) refl (found_stands k lines label m) e
  where
    by : (t : Bool) → bytes_eq label l ≡ t → (position_of (labels_from k lines) label ≡ Some m → (position : ℕ) × (m ≡ k + position) × Stands lines label position) → cond t (Some k) (position_of (labels_from k lines) label) ≡ Some m → (position : ℕ) × (m ≡ k + position) × Stands (Names l ∷ lines) label position
    by true d rest h = (0, let q : k ≡ m = cc in omega arith, ([], lines, ap (λ (x : List ℕ). Names x ∷ lines) (sym ((bytes_eq-Decides label l).0 d)), refl))
    by false d rest h = let r = rest h in (r.0, r.1, let s : Stands (Names l ∷ lines) label (0 + r.0) = stands_later (Names l) lines label r.0 r.2 in let z : 0 + r.0 ≡ r.0 = omega arith in subst (λ (p : ℕ). Stands (Names l ∷ lines) label p) z s)

-- a label that stands further on isn't the first
passed : (k : ℕ) (l : List ℕ) (lines : List Line) (label : List ℕ) (j m : ℕ) → NoneTwice (Names l ∷ lines) → position_of (labels_from k lines) label ≡ Some m → Stands lines label j → position_of (labels_from k (Names l ∷ lines)) label ≡ Some m
passed k l lines label j m u e t = by (bytes_eq label l) refl
  where
    by : (b : Bool) → bytes_eq label l ≡ b → cond b (Some k) (position_of (labels_from k lines) label) ≡ Some m
    by true d = absurd (u.0 j (subst (λ (q : List ℕ). Stands lines q j) ((bytes_eq-Decides label l).0 d) t))
    by false d = e

-- what stands once is found
pub stands_found : (k : ℕ) (lines : List Line) (label : List ℕ) (position : ℕ) → NoneTwice lines → Stands lines label position → position_of (labels_from k lines) label ≡ Some (k + position)
stands_found k [] label position u s = absurd (stands_none label position s)
stands_found k (Opens n a ∷ lines) label position u s = elim (stands_first (Opens n a) lines label position s) [
  | inl (e, z) ↦ absurd cc
  | inr (j, z, t) ↦ stands_found k lines label j u t ∙ ap Some (omega arith)
]
stands_found k (Closes ∷ lines) label position u s = elim (stands_first Closes lines label position s) [
  | inl (e, z) ↦ absurd cc
  | inr (j, z, t) ↦ stands_found k lines label j u t ∙ ap Some (omega arith)
]
stands_found k (Does i l ∷ lines) label position u s = elim (stands_first (Does i l) lines label position s) [
  | inl (e, z) ↦ absurd cc
  | inr (j, z, t) ↦ stands_found (suc k) lines label j u t ∙ ap Some (omega arith)
]
stands_found k (Names l ∷ lines) label position u s = elim (stands_first (Names l) lines label position s) [
  | inl (e, z) ↦ let h : l ≡ label = cc in rw (h, same_bytes label) (ap Some (omega arith))
  | inr (j, z, t) ↦ passed k l lines label j (k + position) u (stands_found k lines label j u.1 t ∙ ap Some (omega arith)) t
]

-- ---- the code

pub bind_some : {A B : Type 0} (o : Option A) (f : A → Option B) (y : B) → (o >>> f) ≡ Some y → (x : A) × (o ≡ Some x) × (f x ≡ Some y)
bind_some (Some x) f y e = (x, refl, e)
bind_some None f y e = absurd cc

means_from : (body : List Line) (i : Instr) (label : List ℕ) (j : Instr) → aimed_at (has_target i) (position_of (labels_from 0 body) label) i ≡ Some j → Means (has_target i) body i label j
means_from body i label j e = by (has_target i) (position_of (labels_from 0 body) label) refl e
  where
    by : (b : Bool) (p : Option ℕ) → position_of (labels_from 0 body) label ≡ p → aimed_at b p i ≡ Some j → Means b body i label j
    by false p h e = cc
    by true (Some m) h e = let r = found_stands 0 body label m h in (r.0, r.2, let q : m ≡ r.0 = omega (arith, r.1) in rw (← q) cc)
    by true None h e = absurd cc

means_to : (body : List Line) (i : Instr) (label : List ℕ) (j : Instr) → NoneTwice body → Means (has_target i) body i label j → aimed_at (has_target i) (position_of (labels_from 0 body) label) i ≡ Some j
means_to body i label j u a = by (has_target i) a
  where
    by : (b : Bool) → Means b body i label j → aimed_at b (position_of (labels_from 0 body) label) i ≡ Some j
    by false e = ap Some (sym e)
    by true (position, s, e) = let z : 0 + position ≡ position = omega arith in rw (stands_found 0 body label position u s, z) (ap Some (sym e))

pub code_from : (body lines : List Line) (code : List Instr) → IsInner lines → targets (labels_from 0 body) (code_of lines) ≡ Some code → IsCode body lines code
code_from body [] code n e = cc
code_from body (Opens a b ∷ lines) code n e = absurd n
code_from body (Closes ∷ lines) code n e = absurd n
code_from body (Names l ∷ lines) code n e = code_from body lines code n e
code_from body (Does i l ∷ lines) code n e =
    let a = bind_some (aimed_at (has_target i) (position_of (labels_from 0 body) l) i) (λ j. targets (labels_from 0 body) (code_of lines) >>> λ c. Some (j ∷ c)) code e in
    let b = bind_some (targets (labels_from 0 body) (code_of lines)) (λ c. Some (a.0 ∷ c)) code a.2 in
    let r : a.0 ∷ b.0 ≡ code = cc in
    subst (λ (c : List Instr). IsCode body (Does i l ∷ lines) c) r (means_from body i l a.0 a.1, code_from body lines b.0 n b.1)

pub code_to : (body lines : List Line) (code : List Instr) → NoneTwice body → IsCode body lines code → IsInner lines × (targets (labels_from 0 body) (code_of lines) ≡ Some code)
code_to body [] code u e = (tt, ap Some (sym e))
code_to body (Opens a b ∷ lines) code u e = absurd e
code_to body (Closes ∷ lines) code u e = absurd e
code_to body (Names l ∷ lines) code u e = code_to body lines code u e
code_to body (Does i l ∷ lines) [] u e = absurd e
code_to body (Does i l ∷ lines) (j ∷ code) u (a, c) = let r = code_to body lines code u c in (r.0, rw (means_to body i l j u a, r.1) refl)
