-- What is assembled is a module, and a module is within the limits of the assembler.
use Rattle.std.proofs.Common.{◌≡◌, ℕ, zero, suc, ◌+◌, ◌<◌, ◌≤◌, ◌∙◌, ap, subst, Bool, true, false, cond, eqb, ltb, ◌&&◌, List, [], ◌∷◌, ◌++◌, length, refl, arith, Option, Some, None, Ok, Err, length-append}
use Rattle.std.specs.Prelude.{nat_le, is_some}
use Rattle.std.specs.Str.{bytes_eq}
use Rattle.std.specs.List.{All, list_all}
use Rattle.std.proofs.lemmas.Bool.{le-leb, leb-true, ltb-true}
use Rattle.std.proofs.lemmas.List.Folds.{list_all-append}
use Rattle.tatp_limits.specs.declared.limits.TheConstants.{MAX_ARGUMENTS, MAX_INSTRUCTIONS, MAX_PROCEDURES}
use Rattle.tatp_lines.specs.Numbers.{is_between}
use Rattle.tatp_instr.specs.declared.instr.Instr.{Instr}
use Rattle.tatp_instr.specs.declared.instr.Instr.TheVariants.{Jmp, Jz, Loop}
use Rattle.tatp_instr.specs.declared.version.Version.{Version}
use Rattle.tatp_encoding.specs.Modules.{Procedure, ModuleState, is_name, is_procedure, jumps_within, jumps_stay, has_version, is_module}
use Rattle.tatp_asm.specs.declared.fault.AsmFaultKind.TheVariants.{Syntax, LabelTwice, TooLong}
use Rattle.tatp_asm.specs.Instrs.{has_target, aimed}
use Rattle.tatp_asm.specs.Lines.{Line, Opens, Names, Does, Closes, IsLine}
use Rattle.tatp_asm.specs.Words.{line_of_bytes}
use Rattle.tatp_asm.specs.Heads.{head_of}
use Rattle.tatp_asm.specs.Reading.{◌>>=◌, Pending, Open, State, position_of, resolved, resolve, step, step_of, finish, line_in, reads, start, assembled}
use Rattle.tatp_asm.proofs.Tools.{both}
use Rattle.tatp_asm.proofs.LineLaws.{line_takes}
use Rattle.tatp_asm.proofs.VersionLaws.{version_takes}
use Rattle.tatp_asm.proofs.Grammar.{Bounded, bind_ok, guard_yes, guard_no, done, ok_is, step_some, assembled_found}

-- ---- labels and jumps
abbrev LabelsWithin : ℕ → List (List ℕ × ℕ) → Type 0
LabelsWithin n [] = Unit {0}
LabelsWithin n (l ∷ labels) = (l.1 ≤ n) × LabelsWithin n labels

within_more : (n m : ℕ) (labels : List (List ℕ × ℕ)) → n ≤ m → LabelsWithin n labels → LabelsWithin m labels
within_more n m [] h w = tt
within_more n m (l ∷ labels) h (k, w) = (omega (arith, h, k), within_more n m labels h w)

within_push : (n : ℕ) (labels : List (List ℕ × ℕ)) (label : List ℕ) (k : ℕ) → k ≤ n → LabelsWithin n labels → LabelsWithin n (labels ++ ((label, k) ∷ []))
within_push n [] label k h w = (h, tt)
within_push n (l ∷ labels) label k h (p, w) = (p, within_push n labels label k h w)

position_within : (n : ℕ) (labels : List (List ℕ × ℕ)) (label : List ℕ) (k : ℕ) → LabelsWithin n labels → position_of labels label ≡ Some k → k ≤ n
position_within n [] label k w e = absurd cc
position_within n (l ∷ labels) label k (p, w) e = by (bytes_eq label l.0) (position_within n labels label k w) e
  where
    by : (t : Bool) → (position_of labels label ≡ Some k → k ≤ n) → cond t (Some l.1) (position_of labels label) ≡ Some k → k ≤ n
    by true r e = let q : l.1 ≡ k = cc in omega (arith, p)
    by false r e = r e

aimed_within : (i : Instr) (k n : ℕ) → k ≤ n → jumps_within n (aimed i k) ≡ true
aimed_within (Jmp t) k n h = le-leb k n h
aimed_within (Jz a t) k n h = le-leb k n h
aimed_within (Loop a t) k n h = le-leb k n h
aimed_within _ k n h = refl

bare_within : (i : Instr) (n : ℕ) → has_target i ≡ false → jumps_within n i ≡ true
bare_within (Jmp t) n e = absurd cc
bare_within (Jz a t) n e = absurd cc
bare_within (Loop a t) n e = absurd cc
bare_within _ n e = refl

resolved_within : (n : ℕ) (p : Pending) (b : Bool) (o : Option ℕ) (j : Instr) → has_target p.instr ≡ b → ((k : ℕ) → o ≡ Some k → k ≤ n) → resolved b o p ≡ Ok j → jumps_within n j ≡ true
resolved_within n p false o j h w e = subst (λ (i : Instr). jumps_within n i ≡ true) (ok_is p.instr j e) (bare_within p.instr n h)
resolved_within n p true (Some k) j h w e = subst (λ (i : Instr). jumps_within n i ≡ true) (ok_is (aimed p.instr k) j e) (aimed_within p.instr k n (w k refl))
resolved_within n p true None j h w e = absurd cc

-- the code has as many instructions as were pending, and its jumps are within
abbrev IsResolved : ℕ → List Pending → List Instr → Type 0
IsResolved n ps code = (length code ≡ length ps) × (list_all (jumps_within n) code ≡ true)

resolve_within : (n : ℕ) (labels : List (List ℕ × ℕ)) (ps : List Pending) (code : List Instr) → LabelsWithin n labels → resolve labels ps ≡ Ok code → IsResolved n ps code
resolve_within n labels [] code w e = subst (IsResolved n []) (ok_is [] code e) (refl, refl)
resolve_within n labels (p ∷ ps) code w e =
    let a = bind_ok (resolved (has_target p.instr) (position_of labels p.label) p) (λ i. resolve labels ps >>= λ more. Ok (i ∷ more)) code e in
    let b = bind_ok (resolve labels ps) (λ more. done (a.0 ∷ more)) code a.2 in
    let r = resolve_within n labels ps b.0 w b.1 in
    let j = resolved_within n p (has_target p.instr) (position_of labels p.label) a.0 refl (λ k f. position_within n labels p.label k w f) a.1 in
    subst (IsResolved n (p ∷ ps)) (ok_is (a.0 ∷ b.0) code b.2) (ap suc r.0, rw (j, r.1) refl)

-- ---- states
abbrev AreFit : List Procedure → Type 0
AreFit ps = (list_all is_procedure ps ≡ true) × (list_all jumps_stay ps ≡ true)

record IsFitOpen (o : Open) : Type 0 where
  name : is_name o.name ≡ true
  arity : o.arity ≤ MAX_ARGUMENTS
  code : length o.code ≤ MAX_INSTRUCTIONS
  labels : LabelsWithin (length o.code) o.labels

abbrev IsFitState : List Procedure → Option Open → Type 0
IsFitState closed None = AreFit closed × (length closed ≤ MAX_PROCEDURES)
IsFitState closed (Some o) = AreFit closed × (length closed < MAX_PROCEDURES) × IsFitOpen o

abbrev IsFit : State → Type 0
IsFit s = IsFitState s.closed s.current

positive : (n : ℕ) → eqb n 0 ≡ false → 1 ≤ n
positive zero e = absurd cc
positive (suc n) e = omega arith

push_all : (p : Procedure → Bool) (closed : List Procedure) (x : Procedure) → list_all p closed ≡ true → p x ≡ true → list_all p (closed ++ (x ∷ [])) ≡ true
push_all p closed x h k = list_all-append p closed (x ∷ []) ∙ rw (h, k) refl

closed_fits : (closed : List Procedure) (o : Open) (code : List Instr) → AreFit closed → IsFitOpen o → 1 ≤ length o.code → IsResolved (length o.code) o.code code → AreFit (closed ++ (record { name = o.name; arity = o.arity; code = code } ∷ []))
closed_fits closed o code f h some s =
    let p : Procedure = record { name = o.name; arity = o.arity; code = code } in
    let least : 1 ≤ length code = omega (arith, s.0) in
    let most : length code ≤ MAX_INSTRUCTIONS = omega (arith, s.0, h.code) in
    let stays : list_all (jumps_within (length code)) code ≡ true = rw s.0 s.1 in (
      push_all is_procedure closed p f.0 (rw (h.name, le-leb o.arity MAX_ARGUMENTS h.arity, le-leb 1 (length code) least, le-leb (length code) MAX_INSTRUCTIONS most) refl),
      push_all jumps_stay closed p f.1 stays,
    )

step_fits : (closed : List Procedure) (current : Option Open) (n : ℕ) (line : Line) (t : State) → IsFitState closed current → IsLine line → step closed current n line ≡ Ok t → IsFit t
step_fits closed None n (Opens name arity) t f h e =
    let o : Open = record { name = name; arity = arity; labels = []; code = [] } in
    let g = guard_yes (ltb (length closed) MAX_PROCEDURES) (record { closed = closed; current = Some o }) t (record { kind = TooLong; line = n }) e in
    subst IsFit g.1 (f.0, ltb-true (length closed) MAX_PROCEDURES g.0, record { name = h.0; arity = h.1; code = omega arith; labels = tt })
step_fits closed None n (Names l) t f h e = absurd cc
step_fits closed None n (Does i l) t f h e = absurd cc
step_fits closed None n Closes t f h e = absurd cc
step_fits closed (Some o) n (Opens name arity) t f h e = absurd cc
step_fits closed (Some o) n (Names l) t (f, room, d) h e =
    let p : Open = record o { labels = o.labels ++ ((l, length o.code) ∷ []) } in
    let g = guard_no (is_some (position_of o.labels l)) (record { closed = closed; current = Some p }) t (record { kind = LabelTwice; line = n }) e in
    subst IsFit g.1 (f, room, record { name = d.name; arity = d.arity; code = d.code; labels = within_push (length o.code) o.labels l (length o.code) (omega arith) d.labels })
step_fits closed (Some o) n (Does i l) t (f, room, d) h e =
    let x : Pending = record { instr = i; label = l; line = n } in
    let p : Open = record o { code = o.code ++ (x ∷ []) } in
    let g = guard_yes (ltb (length o.code) MAX_INSTRUCTIONS) (record { closed = closed; current = Some p }) t (record { kind = TooLong; line = n }) e in
    let less = ltb-true (length o.code) MAX_INSTRUCTIONS g.0 in
    let long : length (o.code ++ (x ∷ [])) ≡ length o.code + 1 = length-append o.code (x ∷ []) in
    subst IsFit g.1 (f, room, record { name = d.name; arity = d.arity; code = omega (arith, long); labels = within_more (length o.code) (length (o.code ++ (x ∷ []))) o.labels (omega (arith, long)) d.labels })
step_fits closed (Some o) n Closes t (f, room, d) h e = by (eqb (length o.code) 0) refl e
  where
    by : (b : Bool) → eqb (length o.code) 0 ≡ b → cond b (Err (record { kind = Syntax; line = n })) (resolve o.labels o.code >>= λ code. Ok (record { closed = closed ++ (record { name = o.name; arity = o.arity; code = code } ∷ []); current = None })) ≡ Ok t → IsFit t
    by true z e = absurd cc
    by false z e =
        let b = bind_ok (resolve o.labels o.code) (λ code. done (record { closed = closed ++ (record { name = o.name; arity = o.arity; code = code } ∷ []); current = None })) t e in
        let p : Procedure = record { name = o.name; arity = o.arity; code = b.0 } in
        let s = resolve_within (length o.code) o.labels o.code b.0 d.labels b.1 in
        subst IsFit (ok_is (record { closed = closed ++ (p ∷ []); current = None }) t b.2)
        (closed_fits closed o b.0 f d (positive (length o.code) z) s, omega (arith, length-append closed (p ∷ [])))

abbrev AreFitProcedures : List Procedure → Type 0
AreFitProcedures ps = AreFit ps × (1 ≤ length ps) × (length ps ≤ MAX_PROCEDURES)

finish_fits : (closed : List Procedure) (current : Option Open) (n : ℕ) (all : List Procedure) → IsFitState closed current → finish closed current n ≡ Ok all → AreFitProcedures all
finish_fits [] None n all f e = absurd cc
finish_fits (p ∷ ps) None n all f e = subst AreFitProcedures (ok_is (p ∷ ps) all e) (f.0, omega arith, f.1)
finish_fits [] (Some o) n all f e = absurd cc
finish_fits (p ∷ ps) (Some o) n all f e = absurd cc

reads_fits : (v : Version) (n : ℕ) (s : State) (texts : List (List ℕ)) (all : List Procedure) → IsFit s → reads v n s texts ≡ Ok all → AreFitProcedures all
reads_fits v n s [] all f e = finish_fits s.closed s.current n all f e
reads_fits v n s ([] ∷ texts) all f e = reads_fits v (n + 1) s texts all f e
reads_fits v n s ((b ∷ bs) ∷ texts) all f e =
    let a = bind_ok (step_of s n (line_in v (b ∷ bs))) (λ t. reads v (n + 1) t texts) all e in
    let l = step_some s n (line_in v (b ∷ bs)) a.0 a.1 in
    let w = version_takes v (line_of_bytes (b ∷ bs)) l.0 l.1 in
    let t = line_takes (b ∷ bs) l.0 w.0 in
    reads_fits v (n + 1) a.0 texts all (step_fits s.closed s.current n l.0 a.0 f t.1 l.2) a.2

-- ---- whole texts
assembled_fits : (text : List ℕ) (m : ModuleState) → assembled text ≡ Ok m → AreFitProcedures m.procedures
unfolding assembled
assembled_fits text m e =
    let h = head_of text in
    let b = bind_ok (reads h.version h.line start h.left) (λ ps. done (record { version = h.version; procedures = ps })) m e in
    subst (λ (x : ModuleState). AreFitProcedures x.procedures) (ok_is (record { version = h.version; procedures = b.0 }) m b.2) (reads_fits h.version h.line start h.left b.0 ((refl, refl), omega arith) b.1)

pub module_of_text : (text : List ℕ) (m : ModuleState) → assembled text ≡ Ok m → is_module m ≡ true
module_of_text text m e =
    let ps = m.procedures in
    let f = assembled_fits text m e in
    let w = (assembled_found text m e).1 in
    rw (le-leb 1 (length ps) f.1, le-leb (length ps) MAX_PROCEDURES f.2, f.0.0, f.0.1, w) refl

-- ---- the tests of a module
pub record IsTested (m : ModuleState) : Type 0 where
  pub count : is_between 1 MAX_PROCEDURES (length m.procedures) ≡ true
  pub procedures : list_all is_procedure m.procedures ≡ true
  pub jumps : list_all jumps_stay m.procedures ≡ true
  pub version : list_all (has_version m.version) m.procedures ≡ true

pub tested : (m : ModuleState) → is_module m ≡ true → IsTested m
tested m h =
    let ps = m.procedures in
    let versions = list_all (has_version m.version) ps in
    let a = both (is_between 1 MAX_PROCEDURES (length ps)) (list_all is_procedure ps && (list_all jumps_stay ps && versions)) h in
    let b = both (list_all is_procedure ps) (list_all jumps_stay ps && versions) a.1 in
    let c = both (list_all jumps_stay ps) versions b.1 in
    record { count = a.0; procedures = b.0; jumps = c.0; version = c.1 }

codes_of : (ps : List Procedure) → list_all is_procedure ps ≡ true → All (λ p. (0 < length p.code) × (length p.code < 257)) ps
codes_of [] h i d l = absurd (omega arith)
codes_of (p ∷ ps) h zero d l =
    let a = both (is_procedure p) (list_all is_procedure ps) h in
    let b = both (is_name p.name) (nat_le p.arity MAX_ARGUMENTS && is_between 1 MAX_INSTRUCTIONS (length p.code)) a.0 in
    let c = both (nat_le p.arity MAX_ARGUMENTS) (is_between 1 MAX_INSTRUCTIONS (length p.code)) b.1 in
    let x = both (nat_le 1 (length p.code)) (nat_le (length p.code) MAX_INSTRUCTIONS) c.1 in
    let least = leb-true 1 (length p.code) x.0 in
    let most = leb-true (length p.code) MAX_INSTRUCTIONS x.1 in
    (omega arith, omega arith)
codes_of (p ∷ ps) h (suc i) d l = codes_of ps (both (is_procedure p) (list_all is_procedure ps) h).1 i d (omega arith)

pub bounded : (m : ModuleState) → IsTested m → Bounded [] m.procedures
bounded m t =
    let ps = m.procedures in
    let x = both (nat_le 1 (length ps)) (nat_le (length ps) MAX_PROCEDURES) t.count in
    let least = leb-true 1 (length ps) x.0 in
    let most = leb-true (length ps) MAX_PROCEDURES x.1 in
    record { some = omega arith; few = omega arith; codes = codes_of ps t.procedures }
