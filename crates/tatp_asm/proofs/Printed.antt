-- The lines that are printed of procedures are those procedures.
use Rattle.std.proofs.Common.{◌≡◌, ℕ, suc, ◌+◌, ◌<◌, ◌≤◌, ◌^◌, ◌∙◌, sym, ap, Bool, true, false, cond, eqb, ◌||◌, List, [], ◌∷◌, length, refl, arith, Option, Some, None, decimal}
use Rattle.std.specs.Prelude.{IfSome}
use Rattle.std.specs.List.{list_all}
use Rattle.std.specs.Str.{bytes_eq}
use Rattle.std.specs.Str.Parse.{digits_value}
use Rattle.std.proofs.lemmas.Bool.{eqb-true, eq-eqb, leb-true}
use Rattle.std.proofs.lemmas.Slice.Eq.{bytes_eq-Decides}
use Rattle.std.proofs.lemmas.Fmt.{digits_value-decimal}
use Rattle.tatp_instr.specs.declared.instr.Instr.{Instr}
use Rattle.tatp_instr.specs.declared.instr.Instr.TheVariants.{Jmp, Jz, Loop}
use Rattle.tatp_encoding.specs.Modules.{Procedure, jumps_within, jumps_stay}
use Rattle.tatp_asm.specs.Instrs.{target_of, has_target, aimed}
use Rattle.tatp_asm.specs.Lines.{Line}
use Rattle.tatp_asm.specs.Texts.{Stands, NoneTwice, AreProcedureLines}
use Rattle.tatp_asm.specs.Reading.{position_of}
use Rattle.tatp_asm.specs.Printing.{label_at, is_target, is_named, with_label, label_of, instruction_line, body_lines, module_lines}
use Rattle.tatp_asm.proofs.Tools.{both, own}
use Rattle.tatp_asm.proofs.Bodies.{labels_from, code_of, aimed_at, targets, IsInner, code_from, stands_found}

-- ---- labels of positions
abbrev rest_of : List ℕ → List ℕ
rest_of [] = []
rest_of (b ∷ bs) = bs

label_at-one : (j k : ℕ) → j < 2 ^ 64 → k < 2 ^ 64 → label_at j ≡ label_at k → j ≡ k
unfolding label_at
label_at-one j k h l e = let d : decimal j ≡ decimal k = ap rest_of e in sym (digits_value-decimal own j h) ∙ (ap (digits_value 10) d ∙ digits_value-decimal own k l)

other_label : (j k : ℕ) → j < 2 ^ 64 → k < 2 ^ 64 → (j ≡ k → ⊥) → bytes_eq (label_at j) (label_at k) ≡ false
other_label j k h l d = by (bytes_eq (label_at j) (label_at k)) refl
  where
    by : (b : Bool) → bytes_eq (label_at j) (label_at k) ≡ b → b ≡ false
    by true e = absurd (d (label_at-one j k h l ((bytes_eq-Decides (label_at j) (label_at k)).0 e)))
    by false e = refl

-- ---- where the labels stand
before_labels : (b : Bool) (k m : ℕ) (lines : List Line) (l : List ℕ) → position_of (labels_from m (with_label b k lines)) l ≡ cond b (cond (bytes_eq l (label_at k)) (Some m) (position_of (labels_from m lines) l)) (position_of (labels_from m lines) l)
before_labels true k m lines l = refl
before_labels false k m lines l = refl

pass : (b c : Bool) (m : ℕ) (o : Option ℕ) → c ≡ false → cond b (cond c (Some m) o) o ≡ o
pass true c m o e = rw e refl
pass false c m o e = refl

-- a position before all of them has no label
none_before : (all : List Instr) (k j : ℕ) (code : List Instr) → j < k → k + length code < 2 ^ 64 → position_of (labels_from k (body_lines all k code)) (label_at j) ≡ None
none_before all k j [] h l = before_labels (is_named all k) k k [] (label_at j) ∙ pass (is_named all k) _ k None (other_label j k (omega arith) (omega arith) (omega arith))
none_before all k j (i ∷ code) h l =
    before_labels (is_named all k) k k (instruction_line i ∷ body_lines all (suc k) code) (label_at j)
    ∙ (pass (is_named all k) _ k _ (other_label j k (omega arith) (omega arith) (omega arith))
    ∙ none_before all (suc k) j code (omega arith) (omega arith))

-- a named position has its own
there : (all : List Instr) (k j : ℕ) (code : List Instr) → is_named all j ≡ true → k ≤ j → j ≤ k + length code → k + length code < 2 ^ 64 → position_of (labels_from k (body_lines all k code)) (label_at j) ≡ Some j
there all k j [] n h m l =
    let q : j ≡ k = omega arith in
    let t : bytes_eq (label_at j) (label_at k) ≡ true = (bytes_eq-Decides (label_at j) (label_at k)).1 (ap label_at q) in
    let y : is_named all k ≡ true = ap (is_named all) (sym q) ∙ n in
    before_labels (is_named all k) k k [] (label_at j) ∙ rw (y, t) (ap Some (sym q))
there all k j (i ∷ code) n h m l = by (eqb j k) refl (λ g. there all (suc k) j code n g (omega arith) (omega arith))
  where
    by : (b : Bool) → eqb j k ≡ b → (suc k ≤ j → position_of (labels_from (suc k) (body_lines all (suc k) code)) (label_at j) ≡ Some j) → position_of (labels_from k (body_lines all k (i ∷ code))) (label_at j) ≡ Some j
    by true e r =
        let q : j ≡ k = eqb-true j k e in
        let t : bytes_eq (label_at j) (label_at k) ≡ true = (bytes_eq-Decides (label_at j) (label_at k)).1 (ap label_at q) in
        let y : is_named all k ≡ true = ap (is_named all) (sym q) ∙ n in
        before_labels (is_named all k) k k (instruction_line i ∷ body_lines all (suc k) code) (label_at j) ∙ rw (y, t) (ap Some (sym q))
    by false e r =
        let d : j ≡ k → ⊥ = λ q. (let t = eq-eqb j k q in absurd cc) in
        before_labels (is_named all k) k k (instruction_line i ∷ body_lines all (suc k) code) (label_at j)
        ∙ (pass (is_named all k) _ k _ (other_label j k (omega arith) (omega arith) d) ∙ r (omega arith))

-- ---- no label twice
none_twice_before : (b : Bool) (k : ℕ) (lines : List Line) → NoneTwice lines → ((position : ℕ) → Stands lines (label_at k) position → ⊥) → NoneTwice (with_label b k lines)
none_twice_before true k lines u h = (h, u)
none_twice_before false k lines u h = u

stands_not : (lines : List Line) (k m : ℕ) (l : List ℕ) → NoneTwice lines → position_of (labels_from k lines) l ≡ None → Stands lines l m → ⊥
stands_not lines k m l u e s = let f = stands_found k lines l m u s in cc

none_twice_body : (all : List Instr) (k : ℕ) (code : List Instr) → k + length code < 2 ^ 64 → NoneTwice (body_lines all k code)
none_twice_body all k [] h = none_twice_before (is_named all k) k [] tt (λ m s. stands_not [] k m (label_at k) tt refl s)
none_twice_body all k (i ∷ code) h =
    let u = none_twice_body all (suc k) code (omega arith) in
    none_twice_before (is_named all k) k (instruction_line i ∷ body_lines all (suc k) code) u
    (λ m s. stands_not (instruction_line i ∷ body_lines all (suc k) code) k m (label_at k) u (none_before all (suc k) k code (omega arith) (omega arith)) s)

-- ---- the code
inner_before : (b : Bool) (k : ℕ) (lines : List Line) → IsInner lines → IsInner (with_label b k lines)
inner_before true k lines h = h
inner_before false k lines h = h

inner_body : (all : List Instr) (k : ℕ) (code : List Instr) → IsInner (body_lines all k code)
inner_body all k [] = inner_before (is_named all k) k [] tt
inner_body all k (i ∷ code) = inner_before (is_named all k) k (instruction_line i ∷ body_lines all (suc k) code) (inner_body all (suc k) code)

abbrev symbols : List Instr → List (Instr × List ℕ)
symbols [] = []
symbols (i ∷ code) = (aimed i 0, label_of (target_of i)) ∷ symbols code

code_before : (b : Bool) (k : ℕ) (lines : List Line) → code_of (with_label b k lines) ≡ code_of lines
code_before true k lines = refl
code_before false k lines = refl

code_body : (all : List Instr) (k : ℕ) (code : List Instr) → code_of (body_lines all k code) ≡ symbols code
code_body all k [] = code_before (is_named all k) k []
code_body all k (i ∷ code) = code_before (is_named all k) k (instruction_line i ∷ body_lines all (suc k) code) ∙ ap (λ (cs : List (Instr × List ℕ)). (aimed i 0, label_of (target_of i)) ∷ cs) (code_body all (suc k) code)

back : (labels : List (List ℕ × ℕ)) (i : Instr) → IfSome (target_of i) (λ t. position_of labels (label_at t) ≡ Some t) → aimed_at (has_target (aimed i 0)) (position_of labels (label_of (target_of i))) (aimed i 0) ≡ Some i
back labels (Jmp t) h = rw h refl
back labels (Jz r t) h = rw h refl
back labels (Loop r t) h = rw h refl
back labels _ h = refl

or_left : (a b : Bool) → a ≡ true → (a || b) ≡ true
or_left true b e = refl
or_left false b e = absurd cc

or_right : (a b : Bool) → b ≡ true → (a || b) ≡ true
or_right true b e = refl
or_right false b e = e

first_named : (i : Instr) (code : List Instr) → IfSome (target_of i) (λ t. is_named (i ∷ code) t ≡ true)
first_named (Jmp t) code = or_left (eqb t t) (is_named code t) (eq-eqb t t refl)
first_named (Jz r t) code = or_left (eqb t t) (is_named code t) (eq-eqb t t refl)
first_named (Loop r t) code = or_left (eqb t t) (is_named code t) (eq-eqb t t refl)
first_named _ code = tt

at_some : (o : Option ℕ) (P Q : ℕ → Type 0) → ((t : ℕ) → P t → Q t) → IfSome o P → IfSome o Q
at_some None P Q f h = tt
at_some (Some t) P Q f h = f t h

all_back : (labels : List (List ℕ × ℕ)) (code : List Instr) → ((t : ℕ) → is_named code t ≡ true → position_of labels (label_at t) ≡ Some t) → targets labels (symbols code) ≡ Some code
all_back labels [] h = refl
all_back labels (i ∷ code) h =
    rw (
      back labels i (at_some (target_of i) (λ t. is_named (i ∷ code) t ≡ true) (λ t. position_of labels (label_at t) ≡ Some t) h (first_named i code)),
      all_back labels code (λ t n. h t (or_right (is_target (target_of i) t) (is_named code t) n)),
    ) refl

-- ---- positions that are named lie within
jump_within : (i : Instr) (n t : ℕ) → jumps_within n i ≡ true → is_target (target_of i) t ≡ true → t ≤ n
jump_within (Jmp x) n t h e = let q = eqb-true x t e in let l = leb-true x n h in omega arith
jump_within (Jz a x) n t h e = let q = eqb-true x t e in let l = leb-true x n h in omega arith
jump_within (Loop a x) n t h e = let q = eqb-true x t e in let l = leb-true x n h in omega arith
jump_within _ n t h e = absurd cc

named_within : (code : List Instr) (n t : ℕ) → list_all (jumps_within n) code ≡ true → is_named code t ≡ true → t ≤ n
named_within [] n t h e = absurd cc
named_within (i ∷ code) n t h e = by (is_target (target_of i) t) refl (named_within code n t (both (jumps_within n i) (list_all (jumps_within n) code) h).1) e
  where
    by : (b : Bool) → is_target (target_of i) t ≡ b → (is_named code t ≡ true → t ≤ n) → (b || is_named code t) ≡ true → t ≤ n
    by true q r e = jump_within i n t (both (jumps_within n i) (list_all (jumps_within n) code) h).0 q
    by false q r e = r e

-- ---- procedures
abbrev pub AreShort : List Procedure → Type 0
AreShort [] = Unit {0}
AreShort (p ∷ ps) = (length p.code < 2 ^ 64) × AreShort ps

pub printed_are : (ps : List Procedure) → AreShort ps → list_all jumps_stay ps ≡ true → AreProcedureLines (module_lines ps) ps
printed_are [] s h = refl
printed_are (p ∷ ps) (l, s) h =
    let body = body_lines p.code 0 p.code in
    let j = both (jumps_stay p) (list_all jumps_stay ps) h in
    let c : targets (labels_from 0 body) (code_of body) ≡ Some p.code = rw (code_body p.code 0 p.code) (all_back (labels_from 0 body) p.code (λ t n. there p.code 0 t p.code n (omega arith) (omega (arith, named_within p.code (length p.code) t j.0 n)) (omega arith))) in
    (body, module_lines ps, refl, none_twice_body p.code 0 p.code (omega arith), code_from body body p.code (inner_body p.code 0 p.code) c, printed_are ps s j.1)
