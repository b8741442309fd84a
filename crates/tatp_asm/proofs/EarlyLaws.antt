-- Reading up to a line, and faults before the first label or instruction.
use Rattle.std.proofs.Common.{◌≡◌, ◌≢◌, ℕ, zero, suc, ◌+◌, ◌-◌, ◌≤◌, ◌∙◌, sym, ap, subst, Bool, true, false, cond, eqb, ltb, List, [], ◌∷◌, ◌++◌, length, drop, refl, arith, Option, Some, None, Result, Ok, Err, is_some}
use Rattle.std.specs.Prelude.{slice_get}
use Rattle.std.proofs.lemmas.Bool.{eqb-true}
use Rattle.tatp_limits.specs.declared.limits.TheConstants.{MAX_INSTRUCTIONS, MAX_PROCEDURES}
use Rattle.tatp_instr.specs.declared.instr.Instr.{Instr}
use Rattle.tatp_encoding.specs.Modules.{Procedure, ModuleState}
use Rattle.tatp_lines.specs.Lines.{lines_of}
use Rattle.tatp_asm.specs.declared.fault.AsmFault.{AsmFault}
use Rattle.tatp_asm.specs.declared.fault.AsmFaultKind.TheVariants.{Syntax, NoSuchLabel, LabelTwice, TooLong}
use Rattle.tatp_asm.specs.Instrs.{has_target}
use Rattle.tatp_asm.specs.Lines.{Line, Opens, Names, Does, Closes}
use Rattle.tatp_instr.specs.declared.version.Version.{Version}
use Rattle.tatp_asm.specs.Heads.{head_of}
use Rattle.tatp_asm.specs.declared.fault.AsmError.{AsmError}
use Rattle.tatp_asm.specs.declared.fault.AsmError.TheVariants as errors
use Rattle.tatp_asm.specs.Reading.{IsErrorOf, ◌>>=◌, Pending, Open, State, position_of, resolved, resolve, step, step_of, finish, line_in, reads, start, procedures_after, assembled}
use Rattle.tatp_asm.specs.BeforeCode.{is_code, HasNoCodeUpTo, IsBare}
use Rattle.tatp_asm.proofs.Grammar.{guard_yes, opened, labelled, longer}
use Rattle.tatp_asm.proofs.HeadLaws.{head_placed}

-- ---- the line of a fault is none before
-- instructions of the line n or later ones
abbrev AreFrom : ℕ → List Pending → Type 0
AreFrom n [] = Unit {0}
AreFrom n (p ∷ ps) = (n ≤ p.line) × AreFrom n ps

abbrev IsOpenFrom : ℕ → Option Open → Type 0
IsOpenFrom n None = Unit {0}
IsOpenFrom n (Some o) = AreFrom n o.code

-- a state whose instructions are so, or a fault of such a line
abbrev GoesOnFrom : ℕ → Result State AsmFault → Type 0
GoesOnFrom n (Ok t) = IsOpenFrom n t.current
GoesOnFrom n (Err f) = n ≤ f.line

push_from : (n : ℕ) (ps : List Pending) (p : Pending) → AreFrom n ps → n ≤ p.line → AreFrom n (ps ++ (p ∷ []))
push_from n [] p w h = (h, tt)
push_from n (q ∷ ps) p (g, w) h = (g, push_from n ps p w h)

abbrev failed : {X : Type 0} → AsmFault → Result X AsmFault
failed f = Err f

fault_is : {X : Type 0} (f g : AsmFault) → failed {X = X} f ≡ failed g → f ≡ g
fault_is f g e = cc

resolved_from : (n : ℕ) (b : Bool) (o : Option ℕ) (p : Pending) (f : AsmFault) → n ≤ p.line → resolved b o p ≡ Err f → n ≤ f.line
resolved_from n false o p f h e = absurd cc
resolved_from n true (Some k) p f h e = absurd cc
resolved_from n true None p f h e = subst (λ (g : AsmFault). n ≤ g.line) (fault_is (record { kind = NoSuchLabel; line = p.line }) f e) h

resolve_from : (n : ℕ) (labels : List (List ℕ × ℕ)) (ps : List Pending) (f : AsmFault) → AreFrom n ps → resolve labels ps ≡ Err f → n ≤ f.line
resolve_from n labels [] f w e = absurd cc
resolve_from n labels (p ∷ ps) f (h, w) e = by (resolved (has_target p.instr) (position_of labels p.label) p) refl (resolve labels ps) (λ g k. resolve_from n labels ps g w k) e
  where
    by : (r : Result Instr AsmFault) → resolved (has_target p.instr) (position_of labels p.label) p ≡ r → (rs : Result (List Instr) AsmFault) → ((g : AsmFault) → rs ≡ Err g → n ≤ g.line) → (r >>= λ i. rs >>= λ code. Ok (i ∷ code)) ≡ Err f → n ≤ f.line
    by (Ok i) d (Ok code) again k = absurd cc
    by (Ok i) d (Err g) again k = subst (λ (x : AsmFault). n ≤ x.line) (fault_is g f k) (again g refl)
    by (Err g) d rs again k = resolved_from n (has_target p.instr) (position_of labels p.label) p f h (d ∙ ap failed (fault_is g f k))

either : (n : ℕ) (b : Bool) (r s : Result State AsmFault) → GoesOnFrom n r → GoesOnFrom n s → GoesOnFrom n (cond b r s)
either n true r s g h = g
either n false r s g h = h

closed_from : (n : ℕ) (closed : List Procedure) (o : Open) (rs : Result (List Instr) AsmFault) → ((f : AsmFault) → rs ≡ Err f → n ≤ f.line)
    → GoesOnFrom n (rs >>= λ code. Ok (record { closed = closed ++ (record { name = o.name; arity = o.arity; code = code } ∷ []); current = None }))
closed_from n closed o (Ok code) h = tt
closed_from n closed o (Err f) h = h f refl

step_from : (m n : ℕ) (closed : List Procedure) (current : Option Open) (line : Line) → m ≤ n → IsOpenFrom m current → GoesOnFrom m (step closed current n line)
step_from m n closed None (Opens name arity) h w = either m (ltb (length closed) MAX_PROCEDURES) (Ok (record { closed = closed; current = Some (opened name arity) })) (Err (record { kind = TooLong; line = n })) tt h
step_from m n closed None (Names l) h w = h
step_from m n closed None (Does i l) h w = h
step_from m n closed None Closes h w = h
step_from m n closed (Some o) (Opens name arity) h w = h
step_from m n closed (Some o) (Names l) h w = either m (is_some (position_of o.labels l)) (Err (record { kind = LabelTwice; line = n })) (Ok (record { closed = closed; current = Some (labelled o l) })) h w
step_from m n closed (Some o) (Does i l) h w =
    either m (ltb (length o.code) MAX_INSTRUCTIONS) (Ok (record { closed = closed; current = Some (longer o i l n) })) (Err (record { kind = TooLong; line = n })) (push_from m o.code (record { instr = i; label = l; line = n }) w h) h
step_from m n closed (Some o) Closes h w =
    either m (eqb (length o.code) 0) (Err (record { kind = Syntax; line = n })) (resolve o.labels o.code >>= λ code. Ok (record { closed = closed ++ (record { name = o.name; arity = o.arity; code = code } ∷ []); current = None })) h
    (closed_from m closed o (resolve o.labels o.code) (λ f e. resolve_from m o.labels o.code f w e))

step_of_from : (m n : ℕ) (s : State) (o : Option Line) → m ≤ n → IsOpenFrom m s.current → GoesOnFrom m (step_of s n o)
step_of_from m n s None h w = h
step_of_from m n s (Some line) h w = step_from m n s.closed s.current line h w

finish_from : (n : ℕ) (closed : List Procedure) (current : Option Open) (f : AsmFault) → finish closed current n ≡ Err f → f.line ≡ n
finish_from n [] None f e = sym (ap (λ (g : AsmFault). g.line) (fault_is (record { kind = Syntax; line = n }) f e))
finish_from n (p ∷ ps) None f e = absurd cc
finish_from n [] (Some o) f e = sym (ap (λ (g : AsmFault). g.line) (fault_is (record { kind = Syntax; line = n }) f e))
finish_from n (p ∷ ps) (Some o) f e = sym (ap (λ (g : AsmFault). g.line) (fault_is (record { kind = Syntax; line = n }) f e))

goes_from : (v : Version) (m n : ℕ) (texts : List (List ℕ)) (f : AsmFault) (r : Result State AsmFault) → GoesOnFrom m r → ((t : State) → IsOpenFrom m t.current → reads v (n + 1) t texts ≡ Err f → m ≤ f.line) → (r >>= λ t. reads v (n + 1) t texts) ≡ Err f → m ≤ f.line
goes_from v m n texts f (Ok t) g again e = again t g e
goes_from v m n texts f (Err d) g again e = subst (λ (x : AsmFault). m ≤ x.line) (fault_is d f e) g

reads_from : (v : Version) (m n : ℕ) (s : State) (texts : List (List ℕ)) (f : AsmFault) → m ≤ n → IsOpenFrom m s.current → reads v n s texts ≡ Err f → m ≤ f.line
reads_from v m n s [] f h w e = let q = finish_from n s.closed s.current f e in omega (arith, q, h)
reads_from v m n s ([] ∷ texts) f h w e = reads_from v m (n + 1) s texts f (omega (arith, h)) w e
reads_from v m n s ((b ∷ bs) ∷ texts) f h w e =
    goes_from v m n texts f (step_of s n (line_in v (b ∷ bs))) (step_of_from m n s (line_in v (b ∷ bs)) h w) (λ t g k. reads_from v m (n + 1) t texts f (omega (arith, h)) g k) e

-- ---- nothing is kept yet
bare_from : (n : ℕ) (current : Option Open) → IsBare current → IsOpenFrom n current
bare_from n None h = tt
bare_from n (Some o) h = by o.code h
  where
    by : (ps : List Pending) → length ps ≡ 0 → AreFrom n ps
    by [] e = tt
    by (p ∷ ps) e = absurd (omega arith)

closes_not : (b : Bool) (f : AsmFault) (r : Result State AsmFault) (t : State) → b ≡ true → cond b (Err f) r ≡ Ok t → ⊥
closes_not true f r t q e = cc
closes_not false f r t q e = cc

step_bare : (closed : List Procedure) (current : Option Open) (n : ℕ) (line : Line) (t : State) → IsBare current → is_code (Some line) ≡ false → step closed current n line ≡ Ok t → IsBare t.current
step_bare closed None n (Opens name arity) t h c e =
    let g = guard_yes (ltb (length closed) MAX_PROCEDURES) (record { closed = closed; current = Some (opened name arity) }) t (record { kind = TooLong; line = n }) e in
    subst (λ (s : State). IsBare s.current) g.1 refl
step_bare closed None n (Names l) t h c e = absurd cc
step_bare closed None n (Does i l) t h c e = absurd cc
step_bare closed None n Closes t h c e = absurd cc
step_bare closed (Some o) n (Opens name arity) t h c e = absurd cc
step_bare closed (Some o) n (Names l) t h c e = absurd cc
step_bare closed (Some o) n (Does i l) t h c e = absurd cc
step_bare closed (Some o) n Closes t h c e =
    absurd (closes_not (eqb (length o.code) 0) (record { kind = Syntax; line = n }) (resolve o.labels o.code >>= λ code. Ok (record { closed = closed ++ (record { name = o.name; arity = o.arity; code = code } ∷ []); current = None })) t (ap (λ k. eqb k 0) h) e)

-- ---- reading up to a line
abbrev pub version_of : List ℕ → Version
version_of text = (head_of text).version

abbrev pub procedures_of : List ℕ → Result (List Procedure) AsmFault
procedures_of text = procedures_after (head_of text)

-- the lines before the line n were read, and led to this state; these are left
pub record IsOnTheWay (text : List ℕ) (n : ℕ) (s : State) (texts : List (List ℕ)) : Type 0 where
  pub first : 1 ≤ n
  pub left : drop (n - 1) (lines_of text) ≡ texts
  pub reading : reads (version_of text) n s texts ≡ procedures_of text
  pub bare : (f : AsmFault) → procedures_of text ≡ Err f → HasNoCodeUpTo text f.line → IsBare s.current

pub starts : (text : List ℕ) → IsOnTheWay text (head_of text).line start (head_of text).left
starts text = let p = head_placed text in record { first = p.later; left = p.left; reading = refl; bare = λ f e h. tt }

drop_next : {A : Type 0} (xs : List A) (k : ℕ) (x : A) (more : List A) → drop k xs ≡ x ∷ more → (slice_get xs k ≡ Some x) × (drop (suc k) xs ≡ more)
drop_next [] zero x more e = absurd cc
drop_next [] (suc k) x more e = absurd cc
drop_next (y ∷ xs) zero x more e = (cc, cc)
drop_next (y ∷ xs) (suc k) x more e = drop_next xs k x more e

left_next : (text : List ℕ) (n : ℕ) (line : List ℕ) (texts : List (List ℕ)) → 1 ≤ n → drop (n - 1) (lines_of text) ≡ line ∷ texts → drop (n + 1 - 1) (lines_of text) ≡ texts
left_next text n line texts h e =
    let q : n + 1 - 1 ≡ suc (n - 1) = omega (arith, h) in
    ap (λ k. drop k (lines_of text)) q ∙ (drop_next (lines_of text) (n - 1) line texts e).1

pub passes_empty : (text : List ℕ) (n : ℕ) (s : State) (texts : List (List ℕ)) → IsOnTheWay text n s ([] ∷ texts) → IsOnTheWay text (n + 1) s texts
passes_empty text n s texts w = record { first = omega arith; left = left_next text n [] texts w.first w.left; reading = w.reading; bare = w.bare }

-- the line n, which lies before the fault, is neither label nor instruction
pub no_code_here : (text : List ℕ) (n : ℕ) (s : State) (line : List ℕ) (texts : List (List ℕ)) (f : AsmFault) → IsOnTheWay text n s (line ∷ texts) → procedures_of text ≡ Err f → HasNoCodeUpTo text f.line → is_code (line_in (version_of text) line) ≡ false
no_code_here text n s line texts f w e h =
    let late : n ≤ f.line = reads_from (version_of text) n n s (line ∷ texts) f (omega arith) (bare_from n s.current (w.bare f e h)) (w.reading ∙ e) in
    h (n - 1) line (omega (arith, late, w.first)) (drop_next (lines_of text) (n - 1) line texts w.left).0

pub passes_line : (text : List ℕ) (n : ℕ) (s t : State) (b : ℕ) (bs : List ℕ) (texts : List (List ℕ)) (line : Line) → IsOnTheWay text n s ((b ∷ bs) ∷ texts) → line_in (version_of text) (b ∷ bs) ≡ Some line → step s.closed s.current n line ≡ Ok t
    → IsOnTheWay text (n + 1) t texts
passes_line text n s t b bs texts line w is goes = record {
  first = omega arith;
  left = left_next text n (b ∷ bs) texts w.first w.left;
  reading = sym (rw (is, goes) refl) ∙ w.reading;
  bare = λ f e h. step_bare s.closed s.current n line t (w.bare f e h) (ap is_code (sym is) ∙ no_code_here text n s (b ∷ bs) texts f w e h) goes;
}

-- so no memory was asked for: an error is the fault
pub error_is : (text : List ℕ) (n : ℕ) (s : State) (b : ℕ) (bs : List ℕ) (texts : List (List ℕ)) (line : Line) (e : AsmError) (f : AsmFault)
    → IsOnTheWay text n s ((b ∷ bs) ∷ texts) → line_in (version_of text) (b ∷ bs) ≡ Some line → IsErrorOf e (step s.closed s.current n line) → (IsBare s.current → is_code (Some line) ≡ false → e ≢ errors.NoMemory)
    → procedures_of text ≡ Err f → HasNoCodeUpTo text f.line → e ≡ errors.Fault f
error_is text n s b bs texts line errors.NoMemory f w is gives early found h = absurd (early (w.bare f found h) (ap is_code (sym is) ∙ no_code_here text n s (b ∷ bs) texts f w found h) refl)
error_is text n s b bs texts line (errors.Fault g) f w is gives early found h =
    let read : reads (version_of text) n s ((b ∷ bs) ∷ texts) ≡ Err g = rw (is, gives) refl in
    ap errors.Fault (fault_is g f (sym read ∙ w.reading ∙ found))

-- ---- the same of a line as the program has it
pub passes_none : (text : List ℕ) (n : ℕ) (s : State) (bytes : List ℕ) (texts : List (List ℕ)) → eqb (length bytes) 0 ≡ true → IsOnTheWay text n s (bytes ∷ texts) → IsOnTheWay text (n + 1) s texts
passes_none text n s [] texts z w = passes_empty text n s texts w
passes_none text n s (b ∷ bs) texts z w = absurd (omega (arith, eqb-true (length (b ∷ bs)) 0 z))

pub passes_some : (text : List ℕ) (n : ℕ) (s t : State) (bytes : List ℕ) (texts : List (List ℕ)) (line : Line) → eqb (length bytes) 0 ≡ false → IsOnTheWay text n s (bytes ∷ texts) → line_in (version_of text) bytes ≡ Some line → step s.closed s.current n line ≡ Ok t
    → IsOnTheWay text (n + 1) t texts
passes_some text n s t [] texts line z w is goes = absurd cc
passes_some text n s t (b ∷ bs) texts line z w is goes = passes_line text n s t b bs texts line w is goes

pub fails_some : (text : List ℕ) (n : ℕ) (s : State) (bytes : List ℕ) (texts : List (List ℕ)) (line : Line) (e : AsmError) (f : AsmFault) → eqb (length bytes) 0 ≡ false
    → IsOnTheWay text n s (bytes ∷ texts) → line_in (version_of text) bytes ≡ Some line → IsErrorOf e (step s.closed s.current n line) → (IsBare s.current → is_code (Some line) ≡ false → e ≢ errors.NoMemory)
    → procedures_of text ≡ Err f → HasNoCodeUpTo text f.line → e ≡ errors.Fault f
fails_some text n s [] texts line e f z w is gives early found h = absurd cc
fails_some text n s (b ∷ bs) texts line e f z w is gives early found h = error_is text n s b bs texts line e f w is gives early found h

-- ---- the module, where the procedures are read
pub assembled_fault : (text : List ℕ) (f : AsmFault) → assembled text ≡ Err f → procedures_of text ≡ Err f
unfolding assembled
assembled_fault text f e = by (procedures_of text) e
  where
    module_of : List Procedure → Result ModuleState AsmFault
    module_of ps = Ok (record { version = version_of text; procedures = ps })

    by : (r : Result (List Procedure) AsmFault) → (r >>= module_of) ≡ Err f → r ≡ Err f
    by (Ok ps) k = absurd cc
    by (Err g) k = cc
