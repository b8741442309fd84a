-- Code that is written place by place, and that keeps the loader's rules.
use Rattle.std.specs.Prelude.{◌≡◌, ℕ, zero, suc, ◌+◌, ◌*◌, ◌<◌, ◌≤◌, List, [], ◌∷◌, length, Some, None, Result, Ok, Err, IfOk, IfErr, IsOk, IsSomeAnd, slice_get, slice_set}
use Rattle.std.proofs.Common.{refl, sym, ap, subst, ◌∙◌, arith, get_or}
use Rattle.tatp_encoding.specs.Modules.{Procedure, ModuleState}
use Rattle.tatp_encoding.specs.Spelling.{spelling, IsInstr}
use Rattle.tatp_encoding.specs.Decoding.{decoded}
use Rattle.tatp_encoding.specs.declared.decoding.Bad.{Bad}
use Rattle.tatp_encoding.proofs.DecodingLaws.{decoded-spelling}
use Rattle.tatp_loader.specs.Rules.{first_fault}
use Rattle.tatp_loader.specs.declared.fault.LoadFault.{LoadFault}
use Rattle.tatp_calls.specs.declared.call.Call.{Call}
use Rattle.tatp_calls.specs.declared.call.Call.TheVariants.{GetSubscriberData, GetNewDestination, GetAccessData, UpdateSubscriberData, UpdateLocation, InsertCallForwarding, DeleteCallForwarding}
use Rattle.tatp_calls.specs.Calls.{procedure_of, arguments_of}
use Rattle.tatp_procs.specs.Standard.{standard_module}
use Rattle.tatp_instr.specs.declared.instr.Instr.{Instr}
use Rattle.tatp_instr.specs.declared.instr.Instr.TheVariants.{Get}
use Rattle.tatp_instr.specs.declared.version.Version.TheVariants.{Two}

-- no two instructions have the same bytes
abbrev Read : Instr → Result Instr Bad
Read i = Ok i

one_read : (i j : Instr) → Read i ≡ Read j → i ≡ j
one_read i j e = cc

pub spelled_once : (i j : Instr) → IsInstr i → IsInstr j → spelling i ≡ spelling j → i ≡ j
spelled_once i j hi hj e = one_read i j (sym (decoded-spelling Two i hi refl) ∙ ap (decoded Two) e ∙ decoded-spelling Two j hj refl)

-- the first n columns, each read at every second place from 3 on
abbrev pub with_reads : ℕ → List Instr → List Instr
with_reads zero code = code
with_reads (suc n) code = slice_set (with_reads n code) (3 + 2 * n) (Get 2 n)

-- the standard module keeps the loader's rules
pub check_accepts : (m : ModuleState) (answer : Result ModuleState LoadFault) → m ≡ standard_module → IfErr answer (λ fault. first_fault m ≡ Some fault) → IsOk answer
check_accepts m (Ok loaded) is fault = refl
check_accepts m (Err broken) is fault = let none : None ≡ Some broken = ap first_fault (sym is) ∙ fault in cc

-- what is accepted is the module that was checked
pub accepted_is : (m loaded : ModuleState) (answer : Result ModuleState LoadFault) → IfOk answer (λ l. l ≡ m) → answer ≡ Ok loaded → loaded ≡ m
accepted_is m loaded answer value is = subst (λ a. IfOk a (λ l. l ≡ m)) is value

-- a module of seven procedures
pub seven_are : (m : List Procedure) (a b c d e f g : Procedure) → 7 ≤ length m → length m < 8 → a ≡ get_or m 0 a → b ≡ get_or m 1 b → c ≡ get_or m 2 c → d ≡ get_or m 3 d → e ≡ get_or m 4 e → f ≡ get_or m 5 f → g ≡ get_or m 6 g
    → m ≡ a ∷ b ∷ c ∷ d ∷ e ∷ f ∷ g ∷ []
seven_are [] a b c d e f g le lt ha hb hc hd he hf hg = absurd (omega arith)
seven_are (p ∷ []) a b c d e f g le lt ha hb hc hd he hf hg = absurd (omega arith)
seven_are (p ∷ q ∷ []) a b c d e f g le lt ha hb hc hd he hf hg = absurd (omega arith)
seven_are (p ∷ q ∷ r ∷ []) a b c d e f g le lt ha hb hc hd he hf hg = absurd (omega arith)
seven_are (p ∷ q ∷ r ∷ s ∷ []) a b c d e f g le lt ha hb hc hd he hf hg = absurd (omega arith)
seven_are (p ∷ q ∷ r ∷ s ∷ t ∷ []) a b c d e f g le lt ha hb hc hd he hf hg = absurd (omega arith)
seven_are (p ∷ q ∷ r ∷ s ∷ t ∷ u ∷ []) a b c d e f g le lt ha hb hc hd he hf hg = absurd (omega arith)
seven_are (p ∷ q ∷ r ∷ s ∷ t ∷ u ∷ v ∷ []) a b c d e f g le lt ha hb hc hd he hf hg = λ i. sym ha i ∷ sym hb i ∷ sym hc i ∷ sym hd i ∷ sym he i ∷ sym hf i ∷ sym hg i ∷ []
seven_are (p ∷ q ∷ r ∷ s ∷ t ∷ u ∷ v ∷ w ∷ more) a b c d e f g le lt ha hb hc hd he hf hg = absurd (omega arith)

-- a module of version 2 with the standard procedures is the standard one
pub standard_is : (m : ModuleState) → m.version ≡ Two → m.procedures ≡ standard_module.procedures → m ≡ standard_module
standard_is m version procedures = λ i. record { version = version i; procedures = procedures i }

-- the standard module has a procedure for each call, which takes its arguments
pub arity_is : (call : Call) → IsSomeAnd (slice_get standard_module.procedures (procedure_of call)) (λ (p : Procedure). p.arity ≡ length (arguments_of call))
arity_is (GetSubscriberData s) = refl
arity_is (GetNewDestination s t b e) = refl
arity_is (GetAccessData s t) = refl
arity_is (UpdateSubscriberData s x t y) = refl
arity_is (UpdateLocation n v) = refl
arity_is (InsertCallForwarding n t b e x) = refl
arity_is (DeleteCallForwarding n t b) = refl
