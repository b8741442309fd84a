-- What is read is in the grammar, and what is in the grammar is read.
use Rattle.std.proofs.Common.{◌≡◌, ℕ, suc, ◌+◌, ◌<◌, ◌∙◌, sym, ap, subst, Bool, true, false, cond, eqb, ltb, List, [], ◌∷◌, ◌++◌, length, refl, arith, Option, Some, None, Result, Ok, Err, append_assoc, inl, inr, is_some, length-append, add-one}
use Rattle.std.specs.Prelude.{codes}
use Rattle.std.specs.Str.{bytes_eq}
use Rattle.std.specs.List.{All, list_all}
use Rattle.std.proofs.lemmas.Bool.{lt-ltb, ne_eqb}
use Rattle.std.proofs.lemmas.Slice.Eq.{bytes_eq-Decides}
use Rattle.std.proofs.lemmas.List.{append-nil}
use Rattle.tatp_limits.specs.declared.limits.TheConstants.{MAX_INSTRUCTIONS, MAX_PROCEDURES}
use Rattle.tatp_instr.specs.declared.instr.Instr.{Instr}
use Rattle.tatp_asm.specs.declared.fault.AsmFaultKind.TheVariants.{Syntax, LabelTwice, TooLong}
use Rattle.tatp_asm.specs.declared.fault.AsmFault.{AsmFault}
use Rattle.tatp_asm.specs.Instrs.{has_target}
use Rattle.tatp_lines.specs.Lines.{lines_of}
use Rattle.tatp_asm.specs.Lines.{Line, Opens, Names, Does, Closes, line_text}
use Rattle.tatp_asm.specs.Words.{line_of_bytes}
use Rattle.tatp_instr.specs.declared.version.Version.{Version}
use Rattle.tatp_instr.specs.declared.version.Version.TheVariants.{One, Two}
use Rattle.tatp_encoding.specs.Modules.{Procedure, ModuleState, has_version}
use Rattle.tatp_asm.specs.Texts.{Stands, NoneTwice, IsCode, AreProcedureLines, AreTexts, AreModuleTexts, IsTextOf}
use Rattle.tatp_asm.specs.Heads.{head_from, head_of}
use Rattle.tatp_asm.specs.Reading.{◌>>=◌, Pending, Open, State, position_of, resolved, resolve, step, step_of, finish, of_version, line_in, reads, start, assembled_after, assembled}
use Rattle.tatp_asm.proofs.Bodies.{labels_from, code_of, aimed_at, ◌>>>◌, targets, IsInner, code_from, code_to, stands_later, stands_first, stands_none, bind_some}
use Rattle.tatp_asm.proofs.Tools.{same_bytes, word_is}
use Rattle.tatp_asm.proofs.LineLaws.{line_takes, line_again}
use Rattle.tatp_asm.proofs.VersionLaws.{AreLinesOf, version_takes, version_again, procedures_of_lines, lines_of_procedures}

-- ---- labels that are added

push_same : (ls : List (List ℕ × ℕ)) (l : List ℕ) (k : ℕ) → position_of ls l ≡ None → position_of (ls ++ ((l, k) ∷ [])) l ≡ Some k
push_same [] l k e = rw (same_bytes l) refl
push_same (x ∷ ls) l k e = by (bytes_eq l x.0) (push_same ls l k) e
  where
    by : (t : Bool) → (position_of ls l ≡ None → position_of (ls ++ ((l, k) ∷ [])) l ≡ Some k) → cond t (Some x.1) (position_of ls l) ≡ None → cond t (Some x.1) (position_of (ls ++ ((l, k) ∷ [])) l) ≡ Some k
    by true r e = absurd cc
    by false r e = r e

push_none : (ls : List (List ℕ × ℕ)) (m : List ℕ) (k : ℕ) (l : List ℕ) → position_of (ls ++ ((m, k) ∷ [])) l ≡ None → position_of ls l ≡ None
push_none [] m k l e = refl
push_none (x ∷ ls) m k l e = by (bytes_eq l x.0) (push_none ls m k l) e
  where
    by : (t : Bool) → (position_of (ls ++ ((m, k) ∷ [])) l ≡ None → position_of ls l ≡ None) → cond t (Some x.1) (position_of (ls ++ ((m, k) ∷ [])) l) ≡ None → cond t (Some x.1) (position_of ls l) ≡ None
    by true r e = absurd cc
    by false r e = r e

push_other : (ls : List (List ℕ × ℕ)) (m : List ℕ) (k : ℕ) (l : List ℕ) → (l ≡ m → ⊥) → position_of ls l ≡ None → position_of (ls ++ ((m, k) ∷ [])) l ≡ None
push_other [] m k l d e = by (bytes_eq l m) refl
  where
    by : (t : Bool) → bytes_eq l m ≡ t → cond t (Some k) (position_of [] l) ≡ None
    by true h = absurd (d ((bytes_eq-Decides l m).0 h))
    by false h = refl
push_other (x ∷ ls) m k l d e = by (bytes_eq l x.0) (push_other ls m k l d) e
  where
    by : (t : Bool) → (position_of ls l ≡ None → position_of (ls ++ ((m, k) ∷ [])) l ≡ None) → cond t (Some x.1) (position_of ls l) ≡ None → cond t (Some x.1) (position_of (ls ++ ((m, k) ∷ [])) l) ≡ None
    by true r e = absurd cc
    by false r e = r e

-- ---- a procedure's lines, one after another

abbrev pub Continues : List (List ℕ × ℕ) → List (Instr × List ℕ) → List Line → List Instr → Type 0
Continues labels code [] c = targets labels code ≡ Some c
Continues labels code (Names l ∷ body) c = (position_of labels l ≡ None) × Continues (labels ++ ((l, length code) ∷ [])) code body c
Continues labels code (Does i l ∷ body) c = Continues labels (code ++ ((i, l) ∷ [])) body c
Continues labels code (_ ∷ body) c = ⊥

-- the same of all lines at once
pub record Whole (labels : List (List ℕ × ℕ)) (code : List (Instr × List ℕ)) (body : List Line) (c : List Instr) : Type 0 where
  pub inner : IsInner body
  pub none_twice : NoneTwice body
  pub fresh : (l : List ℕ) (k : ℕ) → Stands body l k → position_of labels l ≡ None
  pub resolved_code : targets (labels ++ labels_from (length code) body) (code ++ code_of body) ≡ Some c

here : (l : List ℕ) (body : List Line) → Stands (Names l ∷ body) l 0
here l body = ([], body, refl, refl)

pushed : (code : List (Instr × List ℕ)) (x : Instr × List ℕ) → length (code ++ (x ∷ [])) ≡ suc (length code)
pushed code x = length-append code (x ∷ []) ∙ add-one (length code)

pub whole : (labels : List (List ℕ × ℕ)) (code : List (Instr × List ℕ)) (body : List Line) (c : List Instr) → Continues labels code body c → Whole labels code body c
whole labels code [] c h = record { inner = tt; none_twice = tt; fresh = λ l k s. absurd (stands_none l k s); resolved_code = rw (append-nil labels, append-nil code) h }
whole labels code (Opens n a ∷ body) c h = absurd h
whole labels code (Closes ∷ body) c h = absurd h
whole labels code (Names l ∷ body) c (f, h) =
    let r = whole (labels ++ ((l, length code) ∷ [])) code body c h in
    record {
      inner = r.inner;
      none_twice = (λ k s. let a = r.fresh l k s in let b = push_same labels l (length code) f in absurd cc, r.none_twice);
      fresh = λ m k s. elim (stands_first (Names l) body m k s) [
        | inl (e, z) ↦ let q : l ≡ m = cc in rw (← q) f
        | inr (j, z, t) ↦ push_none labels l (length code) m (r.fresh m j t)
      ];
      resolved_code = rw (append_assoc labels ((l, length code) ∷ []) (labels_from (length code) body)) at r.resolved_code;
    }
whole labels code (Does i l ∷ body) c h =
    let r = whole labels (code ++ ((i, l) ∷ [])) body c h in
    record {
      inner = r.inner;
      none_twice = r.none_twice;
      fresh = λ m k s. elim (stands_first (Does i l) body m k s) [
        | inl (e, z) ↦ absurd cc
        | inr (j, z, t) ↦ r.fresh m j t
      ];
      resolved_code = rw (append_assoc code ((i, l) ∷ []) (code_of body), pushed code (i, l)) at r.resolved_code;
    }

pub unwhole : (labels : List (List ℕ × ℕ)) (code : List (Instr × List ℕ)) (body : List Line) (c : List Instr) → Whole labels code body c → Continues labels code body c
unwhole labels code [] c w = rw (append-nil labels, append-nil code) at w.resolved_code
unwhole labels code (Opens n a ∷ body) c w = absurd w.inner
unwhole labels code (Closes ∷ body) c w = absurd w.inner
unwhole labels code (Names l ∷ body) c w = (
  w.fresh l 0 (here l body),
  unwhole (labels ++ ((l, length code) ∷ [])) code body c (record {
    inner = w.inner;
    none_twice = w.none_twice.1;
    fresh = λ m k s. push_other labels l (length code) m (λ e. w.none_twice.0 k (subst (λ (q : List ℕ). Stands body q k) e s)) (w.fresh m (0 + k) (stands_later (Names l) body m k s));
    resolved_code = rw (append_assoc labels ((l, length code) ∷ []) (labels_from (length code) body)) w.resolved_code;
  }),
)
unwhole labels code (Does i l ∷ body) c w =
    unwhole labels (code ++ ((i, l) ∷ [])) body c (record {
      inner = w.inner;
      none_twice = w.none_twice;
      fresh = λ m k s. w.fresh m (1 + k) (stands_later (Does i l) body m k s);
      resolved_code = rw (append_assoc code ((i, l) ∷ []) (code_of body), pushed code (i, l)) w.resolved_code;
    })

pub body_from : (body : List Line) (c : List Instr) → Continues [] [] body c → NoneTwice body × IsCode body body c
body_from body c h = let w = whole [] [] body c h in (w.none_twice, code_from body body c w.inner w.resolved_code)

pub body_to : (body : List Line) (c : List Instr) → NoneTwice body → IsCode body body c → Continues [] [] body c
body_to body c u h = let r = code_to body body c u h in unwhole [] [] body c (record { inner = r.0; none_twice = u; fresh = λ l k s. refl; resolved_code = r.1 })

-- ---- the code is resolved

abbrev pub bare : List Pending → List (Instr × List ℕ)
bare [] = []
bare (p ∷ ps) = (p.instr, p.label) ∷ bare ps

length-bare : (ps : List Pending) → length (bare ps) ≡ length ps
length-bare [] = refl
length-bare (p ∷ ps) = ap suc (length-bare ps)

bare-push : (ps : List Pending) (p : Pending) → bare (ps ++ (p ∷ [])) ≡ bare ps ++ ((p.instr, p.label) ∷ [])
bare-push [] p = refl
bare-push (q ∷ ps) p = ap (λ (cs : List (Instr × List ℕ)). (q.instr, q.label) ∷ cs) (bare-push ps p)

pub bind_ok : {A B : Type 0} (r : Result A AsmFault) (f : A → Result B AsmFault) (y : B) → (r >>= f) ≡ Ok y → (x : A) × (r ≡ Ok x) × (f x ≡ Ok y)
bind_ok (Ok x) f y e = (x, refl, e)
bind_ok (Err d) f y e = absurd cc

resolved_target : (b : Bool) (o : Option ℕ) (p : Pending) (i : Instr) → resolved b o p ≡ Ok i → aimed_at b o p.instr ≡ Some i
resolved_target false o p i e = cc
resolved_target true (Some k) p i e = cc
resolved_target true None p i e = absurd cc

target_resolved : (b : Bool) (o : Option ℕ) (p : Pending) (i : Instr) → aimed_at b o p.instr ≡ Some i → resolved b o p ≡ Ok i
target_resolved false o p i e = cc
target_resolved true (Some k) p i e = cc
target_resolved true None p i e = absurd cc

resolve_targets : (labels : List (List ℕ × ℕ)) (ps : List Pending) (c : List Instr) → resolve labels ps ≡ Ok c → targets labels (bare ps) ≡ Some c
resolve_targets labels [] c e = cc
resolve_targets labels (p ∷ ps) c e =
    let a = bind_ok (resolved (has_target p.instr) (position_of labels p.label) p) (λ i. resolve labels ps >>= λ code. Ok (i ∷ code)) c e in
    let b = bind_ok (resolve labels ps) (λ code. Ok (a.0 ∷ code)) c a.2 in
    let r : a.0 ∷ b.0 ≡ c = cc in
    rw (resolved_target (has_target p.instr) (position_of labels p.label) p a.0 a.1, resolve_targets labels ps b.0 b.1) (ap Some r)

targets_resolve : (labels : List (List ℕ × ℕ)) (ps : List Pending) (c : List Instr) → targets labels (bare ps) ≡ Some c → resolve labels ps ≡ Ok c
targets_resolve labels [] c e = cc
targets_resolve labels (p ∷ ps) c e =
    let a = bind_some (aimed_at (has_target p.instr) (position_of labels p.label) p.instr) (λ i. targets labels (bare ps) >>> λ code. Some (i ∷ code)) c e in
    let b = bind_some (targets labels (bare ps)) (λ code. Some (a.0 ∷ code)) c a.2 in
    let r : a.0 ∷ b.0 ≡ c = cc in
    rw (target_resolved (has_target p.instr) (position_of labels p.label) p a.0 a.1, targets_resolve labels ps b.0 b.1) (ap Ok r)

length-targets : (labels : List (List ℕ × ℕ)) (cs : List (Instr × List ℕ)) (c : List Instr) → targets labels cs ≡ Some c → length c ≡ length cs
length-targets labels [] c e = let q : [] ≡ c = cc in sym (ap length q)
length-targets labels (x ∷ cs) c e =
    let a = bind_some (aimed_at (has_target x.0) (position_of labels x.1) x.0) (λ i. targets labels cs >>> λ code. Some (i ∷ code)) c e in
    let b = bind_some (targets labels cs) (λ code. Some (a.0 ∷ code)) c a.2 in
    let r : a.0 ∷ b.0 ≡ c = cc in
    sym (ap length r) ∙ ap suc (length-targets labels cs b.0 b.1)

-- the code so far is no longer than all of it
length-continues : (labels : List (List ℕ × ℕ)) (code : List (Instr × List ℕ)) (body : List Line) (c : List Instr) → Continues labels code body c → length code + length (code_of body) ≡ length c
length-continues labels code body c h = let w = whole labels code body c h in sym (length-targets (labels ++ labels_from (length code) body) (code ++ code_of body) c w.resolved_code ∙ length-append code (code_of body))

-- ---- what is left to read

abbrev pub opened : List ℕ → ℕ → Open
opened name arity = record { name = name; arity = arity; labels = []; code = [] }

abbrev pub labelled : Open → List ℕ → Open
labelled o l = record o { labels = o.labels ++ ((l, length o.code) ∷ []) }

abbrev pub longer : Open → Instr → List ℕ → ℕ → Open
longer o i l n = record o { code = o.code ++ (record { instr = i; label = l; line = n } ∷ []) }

abbrev pub Tail : Option Open → List Line → List Procedure → Type 0
Tail None lines ps = AreProcedureLines lines ps
Tail (Some o) lines [] = ⊥
Tail (Some o) lines (p ∷ ps) = (body rest : List Line) × (lines ≡ body ++ (Closes ∷ rest)) × (p.name ≡ o.name) × (p.arity ≡ o.arity) × Continues o.labels (bare o.code) body p.code × AreProcedureLines rest ps

tail_opens : (name : List ℕ) (arity : ℕ) (lines : List Line) (ps : List Procedure) → Tail (Some (opened name arity)) lines ps → Tail None (Opens name arity ∷ lines) ps
tail_opens name arity lines [] h = absurd h
tail_opens name arity lines (p ∷ ps) (body, rest, e, n, a, c, r) =
    let b = body_from body p.code c in
    (body, rest, rw (e, n, a) refl, b.0, b.1, r)

opens_tail : (name : List ℕ) (arity : ℕ) (lines : List Line) (ps : List Procedure) → Tail None (Opens name arity ∷ lines) ps → Tail (Some (opened name arity)) lines ps
opens_tail name arity lines [] h = absurd cc
opens_tail name arity lines (p ∷ ps) (body, rest, e, u, c, r) =
    (body, rest, cc, cc, cc, body_to body p.code u c, r)

tail_names : (o : Open) (l : List ℕ) (lines : List Line) (ps : List Procedure) → position_of o.labels l ≡ None → Tail (Some (labelled o l)) lines ps → Tail (Some o) (Names l ∷ lines) ps
tail_names o l lines [] f h = absurd h
tail_names o l lines (p ∷ ps) f (body, rest, e, n, a, c, r) = (Names l ∷ body, rest, ap (λ (x : List Line). Names l ∷ x) e, n, a, (f, rw (length-bare o.code) c), r)

names_tail : (o : Open) (l : List ℕ) (lines : List Line) (ps : List Procedure) → Tail (Some o) (Names l ∷ lines) ps → (position_of o.labels l ≡ None) × Tail (Some (labelled o l)) lines ps
names_tail o l lines [] h = absurd h
names_tail o l lines (p ∷ ps) ([], rest, e, n, a, c, r) = absurd cc
names_tail o l lines (p ∷ ps) (x ∷ body, rest, e, n, a, c, r) =
    let h : x ≡ Names l = cc in
    let d : Continues o.labels (bare o.code) (Names l ∷ body) p.code = subst (λ (y : Line). Continues o.labels (bare o.code) (y ∷ body) p.code) h c in
    (d.0, (body, rest, cc, n, a, rw (length-bare o.code) at d.1, r))

tail_does : (o : Open) (i : Instr) (l : List ℕ) (m : ℕ) (lines : List Line) (ps : List Procedure) → Tail (Some (longer o i l m)) lines ps → Tail (Some o) (Does i l ∷ lines) ps
tail_does o i l m lines [] h = absurd h
tail_does o i l m lines (p ∷ ps) (body, rest, e, n, a, c, r) = (Does i l ∷ body, rest, ap (λ (x : List Line). Does i l ∷ x) e, n, a, rw (bare-push o.code (record { instr = i; label = l; line = m })) at c, r)

does_tail : (o : Open) (i : Instr) (l : List ℕ) (m : ℕ) (lines : List Line) (ps : List Procedure) → Tail (Some o) (Does i l ∷ lines) ps → Tail (Some (longer o i l m)) lines ps
does_tail o i l m lines [] h = absurd h
does_tail o i l m lines (p ∷ ps) ([], rest, e, n, a, c, r) = absurd cc
does_tail o i l m lines (p ∷ ps) (x ∷ body, rest, e, n, a, c, r) =
    let h : x ≡ Does i l = cc in
    let d : Continues o.labels (bare o.code) (Does i l ∷ body) p.code = subst (λ (y : Line). Continues o.labels (bare o.code) (y ∷ body) p.code) h c in
    (body, rest, cc, n, a, rw (bare-push o.code (record { instr = i; label = l; line = m })) d, r)

tail_closes : (o : Open) (code : List Instr) (lines : List Line) (ps : List Procedure) → resolve o.labels o.code ≡ Ok code → AreProcedureLines lines ps → Tail (Some o) (Closes ∷ lines) (record { name = o.name; arity = o.arity; code = code } ∷ ps)
tail_closes o code lines ps e h = ([], lines, refl, refl, refl, resolve_targets o.labels o.code code e, h)

closes_tail : (o : Open) (lines : List Line) (p : Procedure) (ps : List Procedure) → Tail (Some o) (Closes ∷ lines) (p ∷ ps) → (p.name ≡ o.name) × (p.arity ≡ o.arity) × (resolve o.labels o.code ≡ Ok p.code) × AreProcedureLines lines ps
closes_tail o lines p ps ([], rest, e, n, a, c, r) = (n, a, targets_resolve o.labels o.code p.code c, let h : rest ≡ lines = cc in subst (λ (x : List Line). AreProcedureLines x ps) h r)
closes_tail o lines p ps (x ∷ body, rest, e, n, a, c, r) =
    let h : x ≡ Closes = cc in
    absurd (subst (λ (y : Line). Continues o.labels (bare o.code) (y ∷ body) p.code) h c)

opens_inside : (o : Open) (name : List ℕ) (arity : ℕ) (lines : List Line) (ps : List Procedure) → Tail (Some o) (Opens name arity ∷ lines) ps → ⊥
opens_inside o name arity lines [] h = h
opens_inside o name arity lines (p ∷ ps) ([], rest, e, n, a, c, r) = cc
opens_inside o name arity lines (p ∷ ps) (x ∷ body, rest, e, n, a, c, r) =
    let h : x ≡ Opens name arity = cc in
    subst (λ (y : Line). Continues o.labels (bare o.code) (y ∷ body) p.code) h c

-- ---- one line

pub guard_yes : {X : Type 0} (b : Bool) (x y : X) (f : AsmFault) → cond b (Ok x) (Err f) ≡ Ok y → (b ≡ true) × (x ≡ y)
guard_yes true x y f e = (refl, cc)
guard_yes false x y f e = absurd cc

pub guard_no : {X : Type 0} (b : Bool) (x y : X) (f : AsmFault) → cond b (Err f) (Ok x) ≡ Ok y → (b ≡ false) × (x ≡ y)
guard_no true x y f e = absurd cc
guard_no false x y f e = (refl, cc)

none_of : {X : Type 0} (o : Option X) → is_some o ≡ false → o ≡ None
none_of None e = refl
none_of (Some x) e = absurd cc

abbrev pub done : {X : Type 0} → X → Result X AsmFault
done x = Ok x

pub ok_is : {X : Type 0} (x y : X) → done x ≡ done y → x ≡ y
ok_is x y e = cc

-- what is left after a line, put after it
step_found : (closed : List Procedure) (current : Option Open) (n : ℕ) (line : Line) (t : State) (all ps : List Procedure) (lines : List Line)
    → step closed current n line ≡ Ok t → all ≡ t.closed ++ ps → Tail t.current lines ps
    → (qs : List Procedure) × (all ≡ closed ++ qs) × Tail current (line ∷ lines) qs
step_found closed None n (Opens name arity) t all ps lines e q h =
    let g = guard_yes (ltb (length closed) MAX_PROCEDURES) (record { closed = closed; current = Some (opened name arity) }) t (record { kind = TooLong; line = n }) e in
    (ps, q ∙ ap (λ (s : State). s.closed ++ ps) (sym g.1), tail_opens name arity lines ps (subst (λ (s : State). Tail s.current lines ps) (sym g.1) h))
step_found closed None n (Names l) t all ps lines e q h = absurd cc
step_found closed None n (Does i l) t all ps lines e q h = absurd cc
step_found closed None n Closes t all ps lines e q h = absurd cc
step_found closed (Some o) n (Opens name arity) t all ps lines e q h = absurd cc
step_found closed (Some o) n (Names l) t all ps lines e q h =
    let g = guard_no (is_some (position_of o.labels l)) (record { closed = closed; current = Some (labelled o l) }) t (record { kind = LabelTwice; line = n }) e in
    (ps, q ∙ ap (λ (s : State). s.closed ++ ps) (sym g.1), tail_names o l lines ps (none_of (position_of o.labels l) g.0) (subst (λ (s : State). Tail s.current lines ps) (sym g.1) h))
step_found closed (Some o) n (Does i l) t all ps lines e q h =
    let g = guard_yes (ltb (length o.code) MAX_INSTRUCTIONS) (record { closed = closed; current = Some (longer o i l n) }) t (record { kind = TooLong; line = n }) e in
    (ps, q ∙ ap (λ (s : State). s.closed ++ ps) (sym g.1), tail_does o i l n lines ps (subst (λ (s : State). Tail s.current lines ps) (sym g.1) h))
step_found closed (Some o) n Closes t all ps lines e q h = by (eqb (length o.code) 0) e
  where
    by : (b : Bool) → cond b (Err (record { kind = Syntax; line = n })) (resolve o.labels o.code >>= λ code. Ok (record { closed = closed ++ (record { name = o.name; arity = o.arity; code = code } ∷ []); current = None })) ≡ Ok t → (qs : List Procedure) × (all ≡ closed ++ qs) × Tail (Some o) (Closes ∷ lines) qs
    by true e = absurd cc
    by false e =
        let b = bind_ok (resolve o.labels o.code) (λ code. done (record { closed = closed ++ (record { name = o.name; arity = o.arity; code = code } ∷ []); current = None })) t e in
        let p : Procedure = record { name = o.name; arity = o.arity; code = b.0 } in
        let g = ok_is (record { closed = closed ++ (p ∷ []); current = None }) t b.2 in (
          p ∷ ps,
          q ∙ (ap (λ (s : State). s.closed ++ ps) (sym g) ∙ append_assoc closed (p ∷ []) ps),
          tail_closes o b.0 lines ps b.1 (subst (λ (s : State). Tail s.current lines ps) (sym g) h),
        )

pub step_some : (s : State) (n : ℕ) (o : Option Line) (t : State) → step_of s n o ≡ Ok t → (line : Line) × (o ≡ Some line) × (step s.closed s.current n line ≡ Ok t)
step_some s n None t e = absurd cc
step_some s n (Some line) t e = (line, refl, e)

finish_found : (closed : List Procedure) (current : Option Open) (n : ℕ) (all : List Procedure) → finish closed current n ≡ Ok all → (all ≡ closed) × Tail current [] []
finish_found [] None n all e = absurd cc
finish_found (p ∷ ps) None n all e = (cc, refl)
finish_found [] (Some o) n all e = absurd cc
finish_found (p ∷ ps) (Some o) n all e = absurd cc

-- what is read is in the grammar
pub reads_found : (v : Version) (n : ℕ) (s : State) (texts : List (List ℕ)) (all : List Procedure) → reads v n s texts ≡ Ok all
    → (ps : List Procedure) × (all ≡ s.closed ++ ps) × (lines : List Line) × AreTexts texts lines × Tail s.current lines ps × AreLinesOf v lines
reads_found v n s [] all e = let r = finish_found s.closed s.current n all e in ([], r.0 ∙ sym (append-nil s.closed), [], refl, r.1, tt)
reads_found v n s ([] ∷ texts) all e = reads_found v (n + 1) s texts all e
reads_found v n s ((b ∷ bs) ∷ texts) all e =
    let a = bind_ok (step_of s n (line_in v (b ∷ bs))) (λ t. reads v (n + 1) t texts) all e in
    let l = step_some s n (line_in v (b ∷ bs)) a.0 a.1 in
    let r = reads_found v (n + 1) a.0 texts all a.2 in
    let f = step_found s.closed s.current n l.0 a.0 all r.0 r.2 l.2 r.1 r.4 in
    let w = version_takes v (line_of_bytes (b ∷ bs)) l.0 l.1 in
    let t = line_takes (b ∷ bs) l.0 w.0 in
    (f.0, f.1, l.0 ∷ r.2, (t.0, t.1, r.3), f.2, (w.1, r.5))

-- ---- and back

pub record Bounded (closed ps : List Procedure) : Type 0 where
  pub some : 0 < length closed + length ps
  pub few : length closed + length ps < 17
  pub codes : All (λ p. (0 < length p.code) × (length p.code < 257)) ps

same_procedure : (p : Procedure) (name : List ℕ) (arity : ℕ) → p.name ≡ name → p.arity ≡ arity → p ≡ record { name = name; arity = arity; code = p.code }
same_procedure p name arity e f = rw (← e, ← f) refl

step_only : (closed : List Procedure) (current : Option Open) (n : ℕ) (line : Line) (lines : List Line) (ps : List Procedure)
    → Tail current (line ∷ lines) ps → Bounded closed ps
    → (t : State) × (step closed current n line ≡ Ok t) × (qs : List Procedure) × (t.closed ++ qs ≡ closed ++ ps) × Tail t.current lines qs × Bounded t.closed qs
step_only closed None n (Opens name arity) lines [] h b = absurd cc
step_only closed None n (Opens name arity) lines (p ∷ ps) h b =
    let l : ltb (length closed) MAX_PROCEDURES ≡ true = lt-ltb _ _ (omega (arith, b.few)) in
    (record { closed = closed; current = Some (opened name arity) }, rw l refl, p ∷ ps, refl, opens_tail name arity lines (p ∷ ps) h, b)
step_only closed None n (Names l) lines [] h b = absurd cc
step_only closed None n (Names l) lines (p ∷ ps) (body, rest, e, u, c, r) b = absurd cc
step_only closed None n (Does i l) lines [] h b = absurd cc
step_only closed None n (Does i l) lines (p ∷ ps) (body, rest, e, u, c, r) b = absurd cc
step_only closed None n Closes lines [] h b = absurd cc
step_only closed None n Closes lines (p ∷ ps) (body, rest, e, u, c, r) b = absurd cc
step_only closed (Some o) n (Opens name arity) lines ps h b = absurd (opens_inside o name arity lines ps h)
step_only closed (Some o) n (Names l) lines ps h b =
    let t = names_tail o l lines ps h in
    (record { closed = closed; current = Some (labelled o l) }, rw t.0 refl, ps, refl, t.1, b)
step_only closed (Some o) n (Does i l) lines [] h b = absurd h
step_only closed (Some o) n (Does i l) lines (p ∷ ps) h b =
    let t = does_tail o i l n lines (p ∷ ps) h in
    let k = length-continues o.labels (bare (longer o i l n).code) t.0 p.code t.5 in
    let m : length (bare (longer o i l n).code) ≡ suc (length o.code) = length-bare (longer o i l n).code ∙ (length-append o.code (record { instr = i; label = l; line = n } ∷ []) ∙ add-one (length o.code)) in
    let c = b.codes 0 p (omega arith) in
    let z : ltb (length o.code) MAX_INSTRUCTIONS ≡ true = lt-ltb _ _ (omega (arith, k, m, c.1)) in
    (record { closed = closed; current = Some (longer o i l n) }, rw z refl, p ∷ ps, refl, t, b)
step_only closed (Some o) n Closes lines [] h b = absurd h
step_only closed (Some o) n Closes lines (p ∷ ps) h b =
    let t = closes_tail o lines p ps h in
    let c = b.codes 0 p (omega arith) in
    let k : length p.code ≡ length o.code = length-targets o.labels (bare o.code) p.code (resolve_targets o.labels o.code p.code t.2) ∙ length-bare o.code in
    let z : eqb (length o.code) 0 ≡ false = ne_eqb _ _ (omega (arith, k, c.0)) in
    let q : Procedure = record { name = o.name; arity = o.arity; code = p.code } in
    let same : p ≡ q = same_procedure p o.name o.arity t.0 t.1 in (
      record { closed = closed ++ (q ∷ []); current = None },
      rw (z, t.2) refl,
      ps,
      append_assoc closed (q ∷ []) ps ∙ ap (λ (x : Procedure). closed ++ (x ∷ ps)) (sym same),
      t.3,
      record { some = omega (arith, length-append closed (q ∷ [])); few = omega (arith, b.few, length-append closed (q ∷ [])); codes = λ i d l. b.codes (suc i) d (omega arith) },
    )

finish_only : (closed : List Procedure) (current : Option Open) (n : ℕ) (ps : List Procedure) → Tail current [] ps → Bounded closed ps → finish closed current n ≡ Ok (closed ++ ps)
finish_only closed (Some o) n [] h b = absurd h
finish_only closed (Some o) n (p ∷ ps) ([], rest, e, n', a, c, r) b = absurd cc
finish_only closed (Some o) n (p ∷ ps) (x ∷ body, rest, e, n', a, c, r) b = absurd cc
finish_only closed None n (p ∷ ps) (body, rest, e, u, c, r) b = absurd cc
finish_only [] None n [] h b = absurd (omega (arith, b.some))
finish_only (q ∷ qs) None n [] h b = rw (append-nil qs) refl

-- what is in the grammar is read
pub reads_only : (v : Version) (n : ℕ) (s : State) (texts : List (List ℕ)) (lines : List Line) (ps : List Procedure) → AreTexts texts lines → AreLinesOf v lines → Tail s.current lines ps → Bounded s.closed ps
    → reads v n s texts ≡ Ok (s.closed ++ ps)
reads_only v n s [] lines ps e w h b = finish_only s.closed s.current n ps (subst (λ (ls : List Line). Tail s.current ls ps) e h) b
reads_only v n s ([] ∷ texts) lines ps e w h b = reads_only v (n + 1) s texts lines ps e w h b
reads_only v n s ((x ∷ xs) ∷ texts) [] ps e w h b = absurd e
reads_only v n s ((x ∷ xs) ∷ texts) (line ∷ lines) ps (e, f, g) (k, w) h b =
    let t = step_only s.closed s.current n line lines ps h b in
    let r = reads_only v (n + 1) t.0 texts lines t.2 g w t.4 t.5 in
    let l : line_of_bytes (x ∷ xs) ≡ Some line = ap line_of_bytes e ∙ line_again line f in
    let m : line_in v (x ∷ xs) ≡ Some line = ap (of_version v) l ∙ version_again v line k in
    rw (m, t.1) (r ∙ ap Ok t.3)

-- ---- the lines after the front of a text

-- a module of these procedures
abbrev of_them : Version → List Procedure → ModuleState
of_them v ps = record { version = v; procedures = ps }

abbrev AreOf : Version → List (List ℕ) → ModuleState → Type 0
AreOf v texts m = (m.version ≡ v) × (lines : List Line) × AreTexts texts lines × AreProcedureLines lines m.procedures × AreLinesOf v lines

after_found : (v : Version) (n : ℕ) (texts : List (List ℕ)) (m : ModuleState) → assembled_after (record { version = v; line = n; left = texts }) ≡ Ok m → AreOf v texts m
after_found v n texts m e =
    let b = bind_ok (reads v n start texts) (λ ps. done (of_them v ps)) m e in
    let r = reads_found v n start texts b.0 b.1 in
    let q : b.0 ≡ r.0 = r.1 in
    subst (AreOf v texts) (ok_is (of_them v b.0) m b.2) (refl, r.2, r.3, subst (λ (x : List Procedure). AreProcedureLines r.2 x) (sym q) r.4, r.5)

after_only : (v : Version) (n : ℕ) (texts : List (List ℕ)) (lines : List Line) (ps : List Procedure) → AreTexts texts lines → AreLinesOf v lines → AreProcedureLines lines ps → Bounded [] ps
    → assembled_after (record { version = v; line = n; left = texts }) ≡ Ok (of_them v ps)
after_only v n texts lines ps e w h b = rw (reads_only v n start texts lines ps e w h b) refl

-- ---- the front

abbrev AreOfModule : List (List ℕ) → ModuleState → Type 0
AreOfModule texts m = (lines : List Line) × AreModuleTexts m.version texts lines × AreProcedureLines lines m.procedures × AreLinesOf m.version lines

empty_front : (v : Version) (texts : List (List ℕ)) (lines : List Line) → AreModuleTexts v texts lines → AreModuleTexts v ([] ∷ texts) lines
empty_front One texts lines h = h
empty_front Two texts lines h = h

told : (texts : List (List ℕ)) (m : ModuleState) (v : Version) (lines : List Line) → m.version ≡ v → AreModuleTexts v texts lines → AreProcedureLines lines m.procedures → AreLinesOf v lines → AreOfModule texts m
told texts m v lines e t p w = (lines, subst (λ (x : Version). AreModuleTexts x texts lines) (sym e) t, p, subst (λ (x : Version). AreLinesOf x lines) (sym e) w)

head_found : (n : ℕ) (texts : List (List ℕ)) (m : ModuleState) → assembled_after (head_from n texts) ≡ Ok m → AreOfModule texts m
head_found n [] m e = absurd cc
head_found n ([] ∷ texts) m e = let r = head_found (n + 1) texts m e in (r.0, empty_front m.version texts r.0 r.1, r.2, r.3)
head_found n ((b ∷ bs) ∷ texts) m e = by (bytes_eq (b ∷ bs) (codes "version 2")) refl e
  where
    by : (t : Bool) → bytes_eq (b ∷ bs) (codes "version 2") ≡ t → assembled_after (cond t (record { version = Two; line = n + 1; left = texts }) (record { version = One; line = n; left = (b ∷ bs) ∷ texts })) ≡ Ok m → AreOfModule ((b ∷ bs) ∷ texts) m
    by true d k = let r = after_found Two (n + 1) texts m k in told ((b ∷ bs) ∷ texts) m Two r.1 r.0 (word_is (b ∷ bs) (codes "version 2") d, r.2) r.3 r.4
    by false d k = let r = after_found One n ((b ∷ bs) ∷ texts) m k in told ((b ∷ bs) ∷ texts) m One r.1 r.0 r.2 r.3 r.4

-- a line that begins a procedure doesn't tell version 2
opens_first : (line : Line) (lines : List Line) (ps : List Procedure) → AreProcedureLines (line ∷ lines) ps → bytes_eq (line_text line) (codes "version 2") ≡ false
opens_first (Opens name arity) lines ps h = refl
opens_first line lines [] h = absurd cc
opens_first (Names l) lines (p ∷ ps) (body, rest, e, u, c, r) = absurd cc
opens_first (Does i l) lines (p ∷ ps) (body, rest, e, u, c, r) = absurd cc
opens_first Closes lines (p ∷ ps) (body, rest, e, u, c, r) = absurd cc

head_only : (v : Version) (n : ℕ) (texts : List (List ℕ)) (lines : List Line) (ps : List Procedure) → AreModuleTexts v texts lines → AreLinesOf v lines → AreProcedureLines lines ps → Bounded [] ps
    → assembled_after (head_from n texts) ≡ Ok (of_them v ps)
head_only One n [] lines ps e w h b = after_only One n [] lines ps e w h b
head_only One n ([] ∷ texts) lines ps e w h b = head_only One (n + 1) texts lines ps e w h b
head_only One n ((x ∷ xs) ∷ texts) [] ps e w h b = absurd e
head_only One n ((x ∷ xs) ∷ texts) (line ∷ lines) ps e w h b =
    let d : bytes_eq (x ∷ xs) (codes "version 2") ≡ false = ap (λ (bs : List ℕ). bytes_eq bs (codes "version 2")) e.0 ∙ opens_first line lines ps h in
    rw d (after_only One n ((x ∷ xs) ∷ texts) (line ∷ lines) ps e w h b)
head_only Two n [] lines ps e w h b = absurd e
head_only Two n ([] ∷ texts) lines ps e w h b = head_only Two (n + 1) texts lines ps e w h b
head_only Two n ((x ∷ xs) ∷ texts) lines ps (e, f) w h b =
    let d : bytes_eq (x ∷ xs) (codes "version 2") ≡ true = ap (λ (bs : List ℕ). bytes_eq bs (codes "version 2")) e ∙ same_bytes (codes "version 2") in
    rw d (after_only Two (n + 1) texts lines ps f w h b)

-- ---- whole texts

pub assembled_found : (text : List ℕ) (m : ModuleState) → assembled text ≡ Ok m → IsTextOf text m × (list_all (has_version m.version) m.procedures ≡ true)
unfolding assembled head_of
assembled_found text m e =
    let r = head_found 1 (lines_of text) m e in
    (record { lines = r.0; texts = r.1; procedures = r.2 }, procedures_of_lines m.version r.0 m.procedures r.2 r.3)

pub assembled_only : (text : List ℕ) (m : ModuleState) → Bounded [] m.procedures → list_all (has_version m.version) m.procedures ≡ true → IsTextOf text m → assembled text ≡ Ok m
unfolding assembled head_of
assembled_only text m b w t =
    head_only m.version 1 (lines_of text) t.lines m.procedures t.texts (lines_of_procedures m.version t.lines m.procedures t.procedures w) t.procedures b
