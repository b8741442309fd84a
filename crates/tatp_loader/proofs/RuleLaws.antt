-- A module breaks no rule exactly where it is lawful.
use Rattle.std.proofs.Common.{◌≡◌, ◌≢◌, ℕ, zero, suc, ◌+◌, ◌-◌, ◌<◌, Bool, true, false, cond, not, ◌&&◌, List, [], ◌∷◌, ◌++◌, length, take, Option, Some, None, refl, sym, ◌∙◌, ap, arith, leb-false}
use Rattle.std.proofs.lemmas.Bool.{lt-leb}
use Rattle.std.specs.Prelude.{slice_get, count_by, nat_le, IsSomeAnd}
use Rattle.std.specs.List.{list_any}
use Rattle.std.proofs.lemmas.List.{take_all, append_assoc, append-nil}
use Rattle.std.proofs.lemmas.Slice.Eq.{bytes_eq-Decides}
use Rattle.tatp_limits.specs.declared.limits.TheConstants.{MAX_OUTPUTS, MAX_WRITES}
use Rattle.tatp_instr.specs.declared.instr.Instr.{Instr}
use Rattle.tatp_instr.specs.declared.version.Version.{Version}
use Rattle.tatp_instr.specs.declared.version.Version.TheVariants.{One, Two}
use Rattle.tatp_encoding.specs.Modules.{Procedure, ModuleState}
use Rattle.tatp_loader.specs.declared.fault.LoadFault.{LoadFault}
use Rattle.tatp_loader.specs.declared.fault.LoadFaultKind.{LoadFaultKind}
use Rattle.tatp_loader.specs.declared.fault.LoadFaultKind.TheVariants.{NameTwice, NoSuchArgument, FixedColumn, BackwardJump, ForwardLoop, BadTarget, TooManyOut, TooManyWrites, NoEnd}
use Rattle.tatp_loader.specs.Lawful.{reads_argument_below, has_fit_column, jumps_ahead, loops_back, jumps_below, is_out, is_write, is_end, IsFit, AreFew, IsLawfulProcedure, IsLawful}
use Rattle.tatp_loader.specs.Rules.{fault, first_of, misfit, excess, broken_at, fault_at, first_broken, is_end_at, ends, missing_end, has_name, fault_after, first_fault_after, first_fault}
use Rattle.tatp_loader.proofs.ListLaws.{front_has, in_front, none_passes, no_pass, count_within, count_before}

-- ---- tests that fail none
-- a chain of tests finds nothing where the first test passes and the others find nothing
none_found : {A : Type 0} (b : Bool) (a : A) (rest : Option A) → cond b (Some a) rest ≡ None → (b ≡ false) × (rest ≡ None)
none_found true a rest h = cc
none_found false a rest h = (refl, h)

found_none : {A : Type 0} (b : Bool) (a : A) (rest : Option A) → b ≡ false → rest ≡ None → cond b (Some a) rest ≡ None
found_none b a rest is h = ap (λ c. cond c (Some a) rest) is ∙ h

not_true : (b : Bool) → not b ≡ false → b ≡ true
not_true true h = refl
not_true false h = cc

neither : {A : Type 0} (a b : Option A) → first_of a b ≡ None → (a ≡ None) × (b ≡ None)
neither None b h = (refl, h)
neither (Some x) b h = cc

both_none : {A : Type 0} (a b : Option A) → a ≡ None → b ≡ None → first_of a b ≡ None
both_none a b ha hb = ap (λ x. first_of x b) ha ∙ hb

-- ---- one instruction
fit_of_none : (p : Procedure) (i : ℕ) (x : Instr) → misfit p i x ≡ None → IsFit p i x
fit_of_none p i x h =
    let one = none_found (not (reads_argument_below p.arity x)) NoSuchArgument _ h in
    let two = none_found (not (has_fit_column x)) FixedColumn _ one.1 in
    let three = none_found (not (jumps_ahead i x)) BackwardJump _ two.1 in
    let four = none_found (not (loops_back i x)) ForwardLoop _ three.1 in
    let five = none_found (not (jumps_below (length p.code) x)) BadTarget None four.1 in
    record {
      argument = not_true _ one.0;
      column = not_true _ two.0;
      later = not_true _ three.0;
      back = not_true _ four.0;
      inside = not_true _ five.0;
    }

none_of_fit : (p : Procedure) (i : ℕ) (x : Instr) → IsFit p i x → misfit p i x ≡ None
none_of_fit p i x h =
    found_none _ NoSuchArgument _ (ap not h.argument) (
    found_none _ FixedColumn _ (ap not h.column) (
    found_none _ BackwardJump _ (ap not h.later) (
    found_none _ ForwardLoop _ (ap not h.back) (
    found_none _ BadTarget None (ap not h.inside) refl))))

-- the 41st OUT and the 65th write
few : (most count : ℕ) (is : Bool) → (is && nat_le most count) ≡ false → is ≡ true → count < most
few most count true h e = leb-false most count h
few most count false h e = cc

few_back : (most count : ℕ) (is : Bool) → (is ≡ true → count < most) → (is && nat_le most count) ≡ false
few_back most count true h = lt-leb most count (h refl)
few_back most count false h = refl

-- an instruction that passes stands after fewer than so many, in version 1
abbrev IsBelow : Version → ℕ → ℕ → Bool → Type 0
IsBelow One most count is = is ≡ true → count < most
IsBelow Two most count is = Unit {0}

not_too_many : (version : Version) (outs writes : ℕ) (x : Instr) → excess version outs writes x ≡ None → IsBelow version MAX_OUTPUTS outs (is_out x) × IsBelow version MAX_WRITES writes (is_write x)
not_too_many One outs writes x h =
    let first = none_found (is_out x && nat_le MAX_OUTPUTS outs) TooManyOut _ h in
    let second = none_found (is_write x && nat_le MAX_WRITES writes) TooManyWrites None first.1 in
    (few MAX_OUTPUTS outs (is_out x) first.0, few MAX_WRITES writes (is_write x) second.0)
not_too_many Two outs writes x h = (tt, tt)

none_too_many : (version : Version) (outs writes : ℕ) (x : Instr) → IsBelow version MAX_OUTPUTS outs (is_out x) → IsBelow version MAX_WRITES writes (is_write x) → excess version outs writes x ≡ None
none_too_many One outs writes x few_outs few_writes =
    found_none _ TooManyOut _ (few_back MAX_OUTPUTS outs (is_out x) few_outs) (
    found_none _ TooManyWrites None (few_back MAX_WRITES writes (is_write x) few_writes) refl)
none_too_many Two outs writes x few_outs few_writes = refl

broken_none : (version : Version) (p : Procedure) (i : ℕ) (x : Instr) → broken_at version p i x ≡ None
    → IsFit p i x × IsBelow version MAX_OUTPUTS (count_by is_out (take i p.code)) (is_out x) × IsBelow version MAX_WRITES (count_by is_write (take i p.code)) (is_write x)
broken_none version p i x h =
    let outs = count_by is_out (take i p.code) in
    let writes = count_by is_write (take i p.code) in
    let parts = neither (misfit p i x) (excess version outs writes x) h in
    let counts = not_too_many version outs writes x parts.1 in
    (fit_of_none p i x parts.0, counts.0, counts.1)

none_broken : (version : Version) (p : Procedure) (i : ℕ) (x : Instr) → IsFit p i x → IsBelow version MAX_OUTPUTS (count_by is_out (take i p.code)) (is_out x) → IsBelow version MAX_WRITES (count_by is_write (take i p.code)) (is_write x) → broken_at version p i x ≡ None
none_broken version p i x fit outs writes =
    both_none (misfit p i x) (excess version (count_by is_out (take i p.code)) (count_by is_write (take i p.code)) x) (none_of_fit p i x fit) (
    none_too_many version (count_by is_out (take i p.code)) (count_by is_write (take i p.code)) x outs writes)

-- ---- the instructions of a procedure
no_fault : (n i : ℕ) (kind : Option LoadFaultKind) → fault_at n i kind ≡ None → kind ≡ None
no_fault n i None h = refl
no_fault n i (Some kind) h = cc

none_broken_at : (version : Version) (n : ℕ) (p : Procedure) (k : ℕ) (xs : List Instr) → first_broken version n p k xs ≡ None → (i j : ℕ) (x : Instr) → j ≡ k + i → slice_get xs i ≡ Some x → broken_at version p j x ≡ None
none_broken_at version n p k [] h i j x at e = cc
none_broken_at version n p k (y ∷ xs) h zero j x at e =
    let same : y ≡ x = cc in
    let here : j ≡ k = omega arith in
    ap (λ i. broken_at version p i x) here ∙ ap (broken_at version p k) (sym same) ∙ no_fault n k (broken_at version p k y) (neither (fault_at n k (broken_at version p k y)) (first_broken version n p (suc k) xs) h).0
none_broken_at version n p k (y ∷ xs) h (suc i) j x at e =
    none_broken_at version n p (suc k) xs (neither (fault_at n k (broken_at version p k y)) (first_broken version n p (suc k) xs) h).1 i j x (omega arith) e

none_broken_from : (version : Version) (n : ℕ) (p : Procedure) (k : ℕ) (xs : List Instr) → ((i j : ℕ) (x : Instr) → j ≡ k + i → slice_get xs i ≡ Some x → broken_at version p j x ≡ None) → first_broken version n p k xs ≡ None
none_broken_from version n p k [] each = refl
none_broken_from version n p k (y ∷ xs) each =
    both_none (fault_at n k (broken_at version p k y)) (first_broken version n p (suc k) xs)
    (ap (fault_at n k) (each 0 k y (omega arith) refl))
    (none_broken_from version n p (suc k) xs (λ i j x at e. each (suc i) j x (omega arith) e))

-- ---- a procedure
ends_some : (o : Option Instr) → is_end_at o ≡ true → IsSomeAnd o (λ x. is_end x ≡ true)
ends_some None h = cc
ends_some (Some x) h = h

some_ends : (o : Option Instr) → IsSomeAnd o (λ x. is_end x ≡ true) → is_end_at o ≡ true
some_ends None h = absurd h
some_ends (Some x) h = h

no_missing : (n : ℕ) (p : Procedure) → missing_end n p ≡ None → ends p ≡ true
no_missing n p h = elim (ends p) as (λ b. cond b None (Some (fault NoEnd n (length p.code - 1))) ≡ None → b ≡ true) [ true ↦ λ e. refl | false ↦ λ e. cc ] h

few_within : (version : Version) (f : Instr → Bool) (most : ℕ) (xs : List Instr) → ((i : ℕ) (x : Instr) → slice_get xs i ≡ Some x → IsBelow version most (count_by f (take i xs)) (f x)) → AreFew version most (count_by f xs)
few_within One f most xs each = omega (arith, ap (count_by f) (take_all (length xs) xs (omega arith)), count_within f most xs each (length xs) (omega arith))
few_within Two f most xs each = tt

few_before : (version : Version) (f : Instr → Bool) (most : ℕ) (xs : List Instr) → AreFew version most (count_by f xs) → (i : ℕ) (x : Instr) → slice_get xs i ≡ Some x → IsBelow version most (count_by f (take i xs)) (f x)
few_before One f most xs are i x e = count_before f most xs are i x e
few_before Two f most xs are i x e = tt

lawful_procedure : (version : Version) (n : ℕ) (p : Procedure) → first_broken version n p 0 p.code ≡ None → missing_end n p ≡ None → IsLawfulProcedure version p
lawful_procedure version n p broken missing =
    let each : (i : ℕ) (x : Instr) → slice_get p.code i ≡ Some x → broken_at version p i x ≡ None = λ i x e. none_broken_at version n p 0 p.code broken i i x (omega arith) e in
    record {
      each = λ i x e. (broken_none version p i x (each i x e)).0;
      outs = few_within version is_out MAX_OUTPUTS p.code (λ i x e. (broken_none version p i x (each i x e)).1);
      writes = few_within version is_write MAX_WRITES p.code (λ i x e. (broken_none version p i x (each i x e)).2);
      ends = ends_some _ (no_missing n p missing);
    }

faultless_procedure : (version : Version) (n : ℕ) (p : Procedure) → IsLawfulProcedure version p → first_of (first_broken version n p 0 p.code) (missing_end n p) ≡ None
faultless_procedure version n p h =
    both_none (first_broken version n p 0 p.code) (missing_end n p)
    (none_broken_from version n p 0 p.code (λ i j x at e.
    let here : j ≡ i = omega arith in
    let there : slice_get p.code j ≡ Some x = ap (slice_get p.code) here ∙ e in
    none_broken version p j x (h.each j x there) (few_before version is_out MAX_OUTPUTS p.code h.outs j x there) (few_before version is_write MAX_WRITES p.code h.writes j x there)))
    (ap (λ b. cond b None (Some (fault NoEnd n (length p.code - 1)))) (some_ends _ h.ends))

-- ---- a module
same_name : (p q : Procedure) → p.name ≡ q.name → has_name q.name p ≡ true
same_name p q e = (bytes_eq-Decides p.name q.name).1 e

other_name : (p q : Procedure) → p.name ≢ q.name → has_name q.name p ≡ false
other_name p q other =
    elim (has_name q.name p) as (λ b. has_name q.name p ≡ b → has_name q.name p ≡ false) [
      | true ↦ λ is. absurd (other ((bytes_eq-Decides p.name q.name).0 is))
      | false ↦ λ is. is
    ] refl

none_after : (version : Version) (before more : List Procedure) → first_fault_after version before more ≡ None → (i : ℕ) (p : Procedure) → slice_get more i ≡ Some p → fault_after version (before ++ take i more) p ≡ None
none_after version before [] h i p e = cc
none_after version before (q ∷ more) h zero p e =
    let same : q ≡ p = cc in
    ap (λ front. fault_after version front p) (append-nil before) ∙ ap (fault_after version before) (sym same) ∙ (neither (fault_after version before q) (first_fault_after version (before ++ q ∷ []) more) h).0
none_after version before (q ∷ more) h (suc i) p e =
    ap (λ front. fault_after version front p) (sym (append_assoc before (q ∷ []) (take i more)))
    ∙ none_after version (before ++ q ∷ []) more (neither (fault_after version before q) (first_fault_after version (before ++ q ∷ []) more) h).1 i p e

all_after : (version : Version) (before more : List Procedure) → ((i : ℕ) (p : Procedure) → slice_get more i ≡ Some p → fault_after version (before ++ take i more) p ≡ None) → first_fault_after version before more ≡ None
all_after version before [] each = refl
all_after version before (q ∷ more) each =
    both_none (fault_after version before q) (first_fault_after version (before ++ q ∷ []) more)
    (ap (λ front. fault_after version front q) (sym (append-nil before)) ∙ each 0 q refl)
    (all_after version (before ++ q ∷ []) more (λ i p e. ap (λ front. fault_after version front p) (append_assoc before (q ∷ []) (take i more)) ∙ each (suc i) p e))

-- what is found of a module's version and procedures is found of it
pub module_fault : (m : ModuleState) (version : Version) (procs : List Procedure) (found : Option LoadFault) → version ≡ m.version → procs ≡ m.procedures → found ≡ first_fault_after version [] procs → first_fault m ≡ found
module_fault m version procs found e same h =
    sym (h ∙ ap (λ v. first_fault_after v [] procs) e ∙ ap (first_fault_after m.version []) same)

pub lawful_of_none : (m : ModuleState) → first_fault m ≡ None → IsLawful m
lawful_of_none m h =
    let each : (i : ℕ) (p : Procedure) → slice_get m.procedures i ≡ Some p → (list_any (has_name p.name) (take i m.procedures) ≡ false) × (first_of (first_broken m.version (length (take i m.procedures)) p 0 p.code) (missing_end (length (take i m.procedures)) p) ≡ None)
    = λ i p e. none_found _ (fault NameTwice (length (take i m.procedures)) 0) _ (none_after m.version [] m.procedures h i p e) in
    record {
      names = λ i j p q lt ep eq e. let found : false ≡ true = sym (none_passes (has_name q.name) (take j m.procedures) i p (each j q eq).0 (front_has m.procedures j i p lt ep)) ∙ same_name p q e in cc;
      procedures = λ i p e. let parts = neither (first_broken m.version (length (take i m.procedures)) p 0 p.code) (missing_end (length (take i m.procedures)) p) (each i p e).1 in lawful_procedure m.version (length (take i m.procedures)) p parts.0 parts.1;
    }

pub none_of_lawful : (m : ModuleState) → IsLawful m → first_fault m ≡ None
none_of_lawful m h =
    all_after m.version [] m.procedures (λ i p e. found_none (list_any (has_name p.name) (take i m.procedures)) (fault NameTwice (length (take i m.procedures)) 0) _
    (no_pass (has_name p.name) (take i m.procedures) (λ j q at. let there = in_front m.procedures i j q at in other_name q p (h.names j i q p there.0 there.1 e)))
    (faultless_procedure m.version (length (take i m.procedures)) p (h.procedures i p e)))
