-- A lawful module's jumps stay within their code.
use Rattle.std.proofs.Common.{◌≡◌, ℕ, suc, ◌≤◌, Bool, true, List, [], ◌∷◌, length, Some, refl, arith}
use Rattle.std.specs.Prelude.{slice_get}
use Rattle.std.specs.List.{list_all}
use Rattle.std.proofs.lemmas.Bool.{le-leb, ltb-true}
use Rattle.tatp_limits.specs.declared.limits.TheConstants.{MAX_PROCEDURES}
use Rattle.tatp_instr.specs.declared.instr.Instr.{Instr}
use Rattle.tatp_instr.specs.declared.instr.Instr.TheVariants.{Jmp, Jz, Loop}
use Rattle.tatp_encoding.specs.Modules.{ModuleState, is_procedure, jumps_within, jumps_stay, has_version, is_module}
use Rattle.tatp_loader.specs.Lawful.{jumps_below, IsLawful}

all_pass : {A : Type 0} (f : A → Bool) (xs : List A) → ((i : ℕ) (x : A) → slice_get xs i ≡ Some x → f x ≡ true) → list_all f xs ≡ true
all_pass f [] each = refl
all_pass f (y ∷ xs) each = rw (each 0 y refl, all_pass f xs (λ i x e. each (suc i) x e)) refl

within : (len : ℕ) (x : Instr) → jumps_below len x ≡ true → jumps_within len x ≡ true
within len (Jmp t) h = le-leb t len (omega (arith, ltb-true t len h))
within len (Jz a t) h = le-leb t len (omega (arith, ltb-true t len h))
within len (Loop a t) h = le-leb t len (omega (arith, ltb-true t len h))
within len _ h = refl

pub module_of_lawful : (m : ModuleState) → 1 ≤ length m.procedures → length m.procedures ≤ MAX_PROCEDURES → list_all is_procedure m.procedures ≡ true → list_all (has_version m.version) m.procedures ≡ true → IsLawful m → is_module m ≡ true
module_of_lawful m least most fit of_version lawful =
    let stay : list_all jumps_stay m.procedures ≡ true = all_pass jumps_stay m.procedures (λ i p e.
    all_pass (jumps_within (length p.code)) p.code (λ j x at. within (length p.code) x ((lawful.procedures i p e).each j x at).inside)) in
    rw (le-leb 1 (length m.procedures) least, le-leb (length m.procedures) MAX_PROCEDURES most, fit, stay, of_version) refl
