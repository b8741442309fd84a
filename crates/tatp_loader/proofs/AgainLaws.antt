-- What a module's bytes are read as: the module.
use Rattle.std.proofs.Common.{◌≡◌, ℕ, suc, Bool, true, false, List, [], ◌∷◌, ◌++◌, length, Ok, refl, sym, ap, ◌∙◌, append_assoc, arith, length-append}
use Rattle.std.specs.Prelude.{nat_le, ◌&&◌, All}
use Rattle.std.specs.Int.{w16, to_be_bytes}
use Rattle.std.specs.List.{list_all}
use Rattle.std.proofs.lemmas.Bool.{le-ltb, leb-true}
use Rattle.std.proofs.lemmas.Nat.{from_be_bytes-to_be_bytes_2}
use Rattle.std.proofs.lemmas.List.{append-nil, take_at, drop_at}
use Rattle.tatp_limits.specs.declared.limits.TheConstants.{MAX_ARGUMENTS, MAX_INSTRUCTIONS, MAX_NAME_BYTES, MAX_PROCEDURES}
use Rattle.tatp_lines.specs.Numbers.{is_between}
use Rattle.tatp_instr.specs.declared.instr.Instr.{Instr}
use Rattle.tatp_instr.specs.declared.version.Version.{Version}
use Rattle.tatp_instr.specs.declared.version.Version.TheVariants.{One, Two}
use Rattle.tatp_instr.specs.Versions.{is_in}
use Rattle.tatp_encoding.specs.Modules.{Procedure, ModuleState, is_name, is_name_byte, is_procedure, jumps_stay, has_version, is_module}
use Rattle.tatp_encoding.specs.Spelling.{spelling, IsInstr}
use Rattle.tatp_encoding.specs.Decoding.{decoded}
use Rattle.tatp_loader.specs.declared.fault.LoadFault.{LoadFault}
use Rattle.tatp_loader.specs.Lawful.{IsLawful}
use Rattle.tatp_loader.specs.ModuleBytes.{magic, code_bytes, procedure_bytes, procedures_bytes, module_bytes, HasInstrs}
use Rattle.tatp_loader.specs.Reading.{cut, bytes_at, name_at, arity_at, length_at, instr_at, code_at, procedure_at, procedures_at, version_at, count_at, module_at, lawful_module_at}
use Rattle.tatp_loader.proofs.ReadingLaws.{length-spelling}
use Rattle.tatp_loader.proofs.RuleLaws.{none_of_lawful}

-- the bytes of each instruction of a version are read as it
abbrev pub ReadsInstrs : Type 0
ReadsInstrs = (version : Version) (instr : Instr) → IsInstr instr → is_in version instr ≡ true → decoded version (spelling instr) ≡ Ok instr

both : (a b : Bool) → (a && b) ≡ true → (a ≡ true) × (b ≡ true)
both true b h = (refl, h)
both false b h = cc

bytes_again : (ends : LoadFault) (k : ℕ) (front rest : List ℕ) → length front ≡ k → bytes_at ends k (front ++ rest) ≡ Ok (front, rest)
bytes_again ends k front rest len =
    rw (le-ltb (length (front ++ rest)) k (omega (arith, len, length-append front rest)), take_at front rest k len, drop_at front rest k len) refl

name_again : (n : ℕ) (name rest : List ℕ) → is_name name ≡ true → name_at n ((length name ∷ name) ++ rest) ≡ Ok (name, rest)
unfolding name_at
name_again n name rest h =
    let parts = both (is_between 1 MAX_NAME_BYTES (length name)) (list_all is_name_byte name) h in
    rw (parts.0, bytes_again (cut n) (length name) name rest refl, parts.1) refl

arity_again : (n arity : ℕ) (rest : List ℕ) → nat_le arity MAX_ARGUMENTS ≡ true → arity_at n (arity ∷ rest) ≡ Ok (arity, rest)
unfolding arity_at
arity_again n arity rest h = rw h refl

length_again : (n k : ℕ) (rest : List ℕ) → is_between 1 MAX_INSTRUCTIONS k ≡ true → length_at n (to_be_bytes w16 k ++ rest) ≡ Ok (k, rest)
unfolding length_at
length_again n k rest h =
    let most = leb-true k MAX_INSTRUCTIONS (both (nat_le 1 k) (nat_le k MAX_INSTRUCTIONS) h).1 in
    rw (bytes_again (cut n) 2 (to_be_bytes w16 k) rest refl, from_be_bytes-to_be_bytes_2 k (omega (arith, most)), h) refl

instr_again : ReadsInstrs → (version : Version) (n i : ℕ) (instr : Instr) (rest : List ℕ) → IsInstr instr → is_in version instr ≡ true → instr_at version n i (spelling instr ++ rest) ≡ Ok (instr, rest)
unfolding instr_at
instr_again reads version n i instr rest is within = rw (bytes_again _ 8 (spelling instr) rest (length-spelling instr), reads version instr is within) refl

code_again : ReadsInstrs → (version : Version) (n i : ℕ) (code : List Instr) (rest : List ℕ) → All IsInstr code → list_all (is_in version) code ≡ true → code_at version n i (length code) (code_bytes code ++ rest) ≡ Ok (code, rest)
unfolding code_at code_bytes
code_again reads version n i [] rest are within = refl
code_again reads version n i (x ∷ code) rest are within =
    let parts = both (is_in version x) (list_all (is_in version) code) within in
    ap (code_at version n i (suc (length code))) (append_assoc (spelling x) (code_bytes code) rest)
    ∙ rw (instr_again reads version n i x (code_bytes code ++ rest) (are 0 x (omega arith)) parts.0, code_again reads version n (suc i) code rest (λ k d h. are (suc k) d (omega (arith, h))) parts.1) refl

procedure_again : ReadsInstrs → (version : Version) (n : ℕ) (p : Procedure) (rest : List ℕ) → is_procedure p ≡ true → HasInstrs p → has_version version p ≡ true → procedure_at version n (procedure_bytes p ++ rest) ≡ Ok (p, rest)
unfolding procedure_at procedure_bytes
procedure_again reads version n p rest h are within =
    let named = both (is_name p.name) (nat_le p.arity MAX_ARGUMENTS && is_between 1 MAX_INSTRUCTIONS (length p.code)) h in
    let sized = both (nat_le p.arity MAX_ARGUMENTS) (is_between 1 MAX_INSTRUCTIONS (length p.code)) named.1 in
    let code = code_bytes p.code ++ rest in
    let tail = to_be_bytes w16 (length p.code) ++ code in
    let regrouped : procedure_bytes p ++ rest ≡ (length p.name ∷ p.name) ++ (p.arity ∷ tail) =
    ap (λ more. length p.name ∷ more) (append_assoc p.name (p.arity ∷ (to_be_bytes w16 (length p.code) ++ code_bytes p.code)) rest
    ∙ ap (λ more. p.name ++ (p.arity ∷ more)) (append_assoc (to_be_bytes w16 (length p.code)) (code_bytes p.code) rest)) in
    ap (procedure_at version n) regrouped
    ∙ rw (name_again n p.name (p.arity ∷ tail) named.0, arity_again n p.arity tail sized.0, length_again n (length p.code) code sized.1, code_again reads version n 0 p.code rest are within) refl

procedures_again : ReadsInstrs → (version : Version) (n : ℕ) (m : List Procedure) (rest : List ℕ) → list_all is_procedure m ≡ true → All HasInstrs m → list_all (has_version version) m ≡ true → procedures_at version n (length m) (procedures_bytes m ++ rest) ≡ Ok (m, rest)
unfolding procedures_at procedures_bytes
procedures_again reads version n [] rest fit are within = refl
procedures_again reads version n (p ∷ m) rest fit are within =
    let parts = both (is_procedure p) (list_all is_procedure m) fit in
    let versions = both (has_version version p) (list_all (has_version version) m) within in
    ap (procedures_at version n (suc (length m))) (append_assoc (procedure_bytes p) (procedures_bytes m) rest)
    ∙ rw (procedure_again reads version n p (procedures_bytes m ++ rest) parts.0 (are 0 p (omega arith)) versions.0, procedures_again reads version (suc n) m rest parts.1 (λ k d h. are (suc k) d (omega (arith, h))) versions.1) refl

version_again : (version : Version) (rest : List ℕ) → version_at (magic version ++ rest) ≡ Ok (version, rest)
unfolding version_at
version_again One rest = rw (bytes_again (cut 0) 4 (magic One) rest refl) refl
version_again Two rest = rw (bytes_again (cut 0) 4 (magic Two) rest refl) refl

count_again : (version : Version) (count : ℕ) (rest : List ℕ) → is_between 1 MAX_PROCEDURES count ≡ true → count_at (magic version ++ (count ∷ rest)) ≡ Ok (version, (count, rest))
unfolding count_at
count_again version count rest h = rw (version_again version (count ∷ rest), h) refl

module_again : ReadsInstrs → (m : ModuleState) → is_module m ≡ true → All HasInstrs m.procedures → module_at (module_bytes m) ≡ Ok m
unfolding module_at module_bytes
module_again reads m is are =
    let all = m.procedures in
    let within = list_all (has_version m.version) all in
    let counted = both (is_between 1 MAX_PROCEDURES (length all)) (list_all is_procedure all && (list_all jumps_stay all && within)) is in
    let fit = both (list_all is_procedure all) (list_all jumps_stay all && within) counted.1 in
    let stay = both (list_all jumps_stay all) within fit.1 in
    let procs : procedures_at m.version 0 (length all) (procedures_bytes all) ≡ Ok (all, []) = ap (procedures_at m.version 0 (length all)) (sym (append-nil (procedures_bytes all))) ∙ procedures_again reads m.version 0 all [] fit.0 are stay.1 in
    rw (count_again m.version (length all) (procedures_bytes all) counted.0, procs) refl

-- the bytes of a lawful module are read as it
pub lawful_again : ReadsInstrs → (m : ModuleState) → is_module m ≡ true → All HasInstrs m.procedures → IsLawful m → lawful_module_at (module_bytes m) ≡ Ok m
unfolding lawful_module_at
lawful_again reads m is are lawful = rw (module_again reads m is are, none_of_lawful m lawful) refl
