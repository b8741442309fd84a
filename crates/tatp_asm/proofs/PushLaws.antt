-- Text that grows by one line after another.
use Rattle.std.proofs.Common.{◌≡◌, ℕ, suc, ◌+◌, ◌<◌, ◌≤◌, ◌||◌, eqb, get_or, set, ◌∙◌, sym, ap, Bool, true, false, List, [], ◌∷◌, ◌++◌, length, take, drop, refl, arith, decimal, append_assoc, add-one, drop-cons}
use Rattle.std.specs.Prelude.{codes}
use Rattle.std.proofs.lemmas.Bool.{eqb-true, eq-eqb, ne_eqb}
use Rattle.std.proofs.lemmas.List.{append-nil, drop_all, get_or-set_same, get_or-set_other}
use Rattle.tatp_limits.specs.declared.limits.TheConstants.{MAX_INSTRUCTIONS}
use Rattle.tatp_instr.specs.declared.instr.Instr.{Instr}
use Rattle.tatp_instr.specs.declared.instr.Instr.TheVariants.{Jmp, Jz, Loop}
use Rattle.tatp_instr.specs.Instrs.{text_of}
use Rattle.tatp_encoding.specs.Modules.{Procedure}
use Rattle.tatp_asm.specs.Instrs.{target_of}
use Rattle.tatp_asm.specs.Lines.{Line, Opens, Closes, line_text}
use Rattle.tatp_asm.specs.Printing.{label_at, is_target, is_named, with_label, instruction_line, body_lines, module_lines, procedure_lines, lines_text}

-- a jump's text names the label of its target
target_text : (a t : List ℕ) → (a ++ (44 ∷ 64 ∷ 76 ∷ [])) ++ t ≡ (a ++ (44 ∷ 64 ∷ [])) ++ (76 ∷ t)
target_text a t = append_assoc a (44 ∷ 64 ∷ 76 ∷ []) t ∙ sym (append_assoc a (44 ∷ 64 ∷ []) (76 ∷ t))

pub text_of_line : (i : Instr) → text_of i ≡ line_text (instruction_line i)
unfolding label_at
text_of_line (Jmp t) = refl
text_of_line (Jz a t) = ap (λ (x : List ℕ). codes "JZ r" ++ x) (target_text (decimal a) (decimal t))
text_of_line (Loop a t) = ap (λ (x : List ℕ). codes "LOOP r" ++ x) (target_text (decimal a) (decimal t))
text_of_line _ = refl

pub instruction_pushed : (out text : List ℕ) (i : Instr) → text ≡ text_of i → (out ++ text) ++ (10 ∷ []) ≡ out ++ lines_text (instruction_line i ∷ [])
instruction_pushed out text i e = append_assoc out text (10 ∷ []) ∙ ap (λ (x : List ℕ). out ++ (x ++ (10 ∷ []))) (e ∙ text_of_line i)

pub lines_text-append : (xs ys : List Line) → lines_text (xs ++ ys) ≡ lines_text xs ++ lines_text ys
lines_text-append [] ys = refl
lines_text-append (x ∷ xs) ys = ap (λ (t : List ℕ). line_text x ++ (10 ∷ t)) (lines_text-append xs ys) ∙ sym (append_assoc (line_text x) (10 ∷ lines_text xs) (lines_text ys))

with_label-append : (b : Bool) (k : ℕ) (lines : List Line) → with_label b k lines ≡ with_label b k [] ++ lines
with_label-append true k lines = refl
with_label-append false k lines = refl

-- ---- the body of a procedure
body_goes : (all rest : List Instr) (k : ℕ) (i : Instr) (out : List ℕ)
    → (out ++ lines_text (with_label (is_named all k) k [])) ++ lines_text (instruction_line i ∷ []) ++ lines_text (body_lines all (suc k) rest) ≡ out ++ lines_text (body_lines all k (i ∷ rest))
body_goes all rest k i out =
    let named = with_label (is_named all k) k [] in
    let more = body_lines all (suc k) rest in
    append_assoc (out ++ lines_text named) (lines_text (instruction_line i ∷ [])) (lines_text more)
    ∙ (append_assoc out (lines_text named) (lines_text (instruction_line i ∷ []) ++ lines_text more)
    ∙ ap (λ (t : List ℕ). out ++ t)
    (ap (λ (t : List ℕ). lines_text named ++ t) (sym (lines_text-append (instruction_line i ∷ []) more))
    ∙ (sym (lines_text-append named (instruction_line i ∷ more))
    ∙ ap lines_text (sym (with_label-append (is_named all k) k (instruction_line i ∷ more))))))

pub drop_read : (code : List Instr) (k : ℕ) (i : Instr) → k < length code → i ≡ get_or code k i → drop k code ≡ i ∷ drop (k + 1) code
drop_read code k i lt is = drop-cons code k i lt ∙ (ap (λ (x : Instr). x ∷ drop (suc k) code) (sym is) ∙ ap (λ (n : ℕ). i ∷ drop n code) (sym (add-one k)))

pub body_goes_on : (all code : List Instr) (k : ℕ) (i : Instr) (out named next whole : List ℕ) → drop k code ≡ i ∷ drop (k + 1) code
    → named ≡ out ++ lines_text (with_label (is_named all k) k []) → next ≡ named ++ lines_text (instruction_line i ∷ [])
    → out ++ lines_text (body_lines all k (drop k code)) ≡ whole → next ++ lines_text (body_lines all (k + 1) (drop (k + 1) code)) ≡ whole
body_goes_on all code k i out named next whole d e f w =
    ap (λ (x : List ℕ). x ++ lines_text (body_lines all (k + 1) (drop (k + 1) code))) (f ∙ ap (λ (x : List ℕ). x ++ lines_text (instruction_line i ∷ [])) e)
    ∙ (ap (λ (n : ℕ). (out ++ lines_text (with_label (is_named all k) k [])) ++ lines_text (instruction_line i ∷ []) ++ lines_text (body_lines all n (drop (k + 1) code))) (add-one k)
    ∙ (body_goes all (drop (k + 1) code) k i out
    ∙ (ap (λ (x : List Instr). out ++ lines_text (body_lines all k x)) (sym d) ∙ w)))

pub body_ends : (all code : List Instr) (k : ℕ) (out last whole : List ℕ) → length code ≤ k
    → last ≡ out ++ lines_text (with_label (is_named all k) k []) → out ++ lines_text (body_lines all k (drop k code)) ≡ whole → last ≡ whole
body_ends all code k out last whole h e w = e ∙ (ap (λ (x : List Instr). out ++ lines_text (body_lines all k x)) (sym (drop_all k code h)) ∙ w)

-- ---- a procedure
opening_text : (out name arity body : List ℕ) → ((((((out ++ codes "proc ") ++ name) ++ codes " ") ++ arity) ++ (10 ∷ [])) ++ body) ++ (101 ∷ 110 ∷ 100 ∷ 10 ∷ []) ≡ out ++ (((codes "proc " ++ name) ++ codes " ") ++ arity) ++ (10 ∷ (body ++ (101 ∷ 110 ∷ 100 ∷ 10 ∷ [])))
opening_text out name arity body = simp append_assoc

pub procedure_pushed : (out arity : List ℕ) (p : Procedure) → arity ≡ decimal p.arity
    → ((((((out ++ codes "proc ") ++ p.name) ++ codes " ") ++ arity) ++ (10 ∷ [])) ++ lines_text (body_lines p.code 0 p.code)) ++ (101 ∷ 110 ∷ 100 ∷ 10 ∷ []) ≡ out ++ lines_text (procedure_lines p)
procedure_pushed out arity p e =
    let body = body_lines p.code 0 p.code in
    let opens = line_text (Opens p.name p.arity) in
    opening_text out p.name arity (lines_text body)
    ∙ (append_assoc out (((codes "proc " ++ p.name) ++ codes " ") ++ arity) (10 ∷ (lines_text body ++ (101 ∷ 110 ∷ 100 ∷ 10 ∷ [])))
    ∙ ap (λ (t : List ℕ). out ++ t)
    (ap (λ (a : List ℕ). (((codes "proc " ++ p.name) ++ codes " ") ++ a) ++ (10 ∷ (lines_text body ++ (101 ∷ 110 ∷ 100 ∷ 10 ∷ [])))) e
    ∙ ap (λ (t : List ℕ). opens ++ (10 ∷ t)) (sym (lines_text-append body (Closes ∷ [])))))

-- ---- a module
procedure_lines-more : (p : Procedure) (ps : List Procedure) → module_lines (p ∷ ps) ≡ procedure_lines p ++ module_lines ps
procedure_lines-more p ps = ap (λ (x : List Line). Opens p.name p.arity ∷ x) (sym (append_assoc (body_lines p.code 0 p.code) (Closes ∷ []) (module_lines ps)))

pub module_text-push : (ps : List Procedure) (p : Procedure) → lines_text (module_lines (ps ++ (p ∷ []))) ≡ lines_text (module_lines ps) ++ lines_text (procedure_lines p)
module_text-push [] p = ap lines_text (procedure_lines-more p []) ∙ (ap lines_text (append-nil (procedure_lines p)))
module_text-push (q ∷ ps) p =
    ap lines_text (procedure_lines-more q (ps ++ (p ∷ [])))
    ∙ (lines_text-append (procedure_lines q) (module_lines (ps ++ (p ∷ [])))
    ∙ (ap (λ (t : List ℕ). lines_text (procedure_lines q) ++ t) (module_text-push ps p)
    ∙ (sym (append_assoc (lines_text (procedure_lines q)) (lines_text (module_lines ps)) (lines_text (procedure_lines p)))
    ∙ ap (λ (t : List ℕ). t ++ lines_text (procedure_lines p)) (sym (ap lines_text (procedure_lines-more q ps) ∙ lines_text-append (procedure_lines q) (module_lines ps))))))

-- the same, one piece after another
pub procedure_steps : (out a b c d e f g name arity : List ℕ) (code : List Instr) (p : Procedure) → name ≡ p.name → arity ≡ decimal p.arity → code ≡ p.code
    → a ≡ out ++ codes "proc " → b ≡ a ++ name → c ≡ b ++ codes " " → d ≡ c ++ arity → e ≡ d ++ (10 ∷ []) → f ≡ e ++ lines_text (body_lines code 0 code) → g ≡ f ++ (101 ∷ 110 ∷ 100 ∷ 10 ∷ [])
    → g ≡ out ++ lines_text (procedure_lines p)
procedure_steps out a b c d e f g name arity code p n r o s t u v w x y = rw (y, x, w, v, u, t, s, n, o) (procedure_pushed out arity p r)

-- ---- positions that are named
pub marked : (xs : List Bool) (p k : ℕ) → p < length xs → get_or (set xs p true) k false ≡ (eqb p k || get_or xs k false)
marked xs p k h = by (eqb p k) refl
  where
    by : (t : Bool) → eqb p k ≡ t → get_or (set xs p true) k false ≡ (t || get_or xs k false)
    by true e = let q : p ≡ k = eqb-true p k e in rw (← q) (get_or-set_same xs p true false h)
    by false e = get_or-set_other xs p k true false (λ q. (let r = eq-eqb p k (sym q) in absurd cc))

pub not_marked : (xs : List Bool) (p k : ℕ) → MAX_INSTRUCTIONS + 1 ≤ p → k ≤ MAX_INSTRUCTIONS → get_or xs k false ≡ (eqb p k || get_or xs k false)
not_marked xs p k h l = let n : eqb p k ≡ false = ne_eqb p k (λ e. omega arith) in rw n refl

named_push : (front : List Instr) (i : Instr) (k : ℕ) → is_named (front ++ (i ∷ [])) k ≡ (is_target (target_of i) k || is_named front k)
named_push [] i k = refl
named_push (x ∷ front) i k = rw (named_push front i k) (by (is_target (target_of x) k) (is_target (target_of i) k) (is_named front k))
  where
    by : (a b c : Bool) → (a || (b || c)) ≡ (b || (a || c))
    by true true c = refl
    by true false c = refl
    by false b c = refl

pub one_more_named : (code : List Instr) (n : ℕ) (i : Instr) (xs ys : List Bool) → take (n + 1) code ≡ take n code ++ (i ∷ [])
    → ((k : ℕ) → k ≤ MAX_INSTRUCTIONS → get_or xs k false ≡ is_named (take n code) k)
    → ((k : ℕ) → k ≤ MAX_INSTRUCTIONS → get_or ys k false ≡ (is_target (target_of i) k || get_or xs k false))
    → (k : ℕ) → k ≤ MAX_INSTRUCTIONS → get_or ys k false ≡ is_named (take (n + 1) code) k
one_more_named code n i xs ys e h m k l =
    m k l ∙ (ap (λ (b : Bool). is_target (target_of i) k || b) (h k l) ∙ (sym (named_push (take n code) i k) ∙ ap (λ (c : List Instr). is_named c k) (sym e)))
