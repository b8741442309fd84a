-- The bytes of code and of procedures, one after another.
use Rattle.std.proofs.Common.{◌≡◌, ℕ, List, [], ◌∷◌, ◌++◌, length, sym, ap, ◌∙◌, append_assoc}
use Rattle.std.specs.Int.{w16, to_be_bytes}
use Rattle.std.proofs.lemmas.List.{append-nil}
use Rattle.tatp_instr.specs.declared.instr.Instr.{Instr}
use Rattle.tatp_instr.specs.declared.version.Version.{Version}
use Rattle.tatp_encoding.specs.Modules.{Procedure, ModuleState}
use Rattle.tatp_encoding.specs.Spelling.{spelling}
use Rattle.tatp_loader.specs.ModuleBytes.{magic, code_bytes, procedure_bytes, procedures_bytes, module_bytes}
use Rattle.tatp_loader.proofs.ReadingLaws.{code_bytes-nil, code_bytes-push, procedures_bytes-nil, procedures_bytes-push}

pub no_code : (before : List ℕ) → before ≡ before ++ code_bytes []
no_code before = sym (ap (λ more. before ++ more) code_bytes-nil ∙ append-nil before)

pub code_pushed : (before now after : List ℕ) (code : List Instr) (instr : Instr) → now ≡ before ++ code_bytes code → after ≡ now ++ spelling instr → after ≡ before ++ code_bytes (code ++ instr ∷ [])
code_pushed before now after code instr e pushed =
    pushed ∙ ap (λ front. front ++ spelling instr) e ∙ append_assoc before (code_bytes code) (spelling instr) ∙ ap (λ more. before ++ more) (sym (code_bytes-push code instr))

pub procedure_pushed : (before with_size with_name with_arity with_len after : List ℕ) (p : Procedure)
    → with_size ≡ before ++ length p.name ∷ [] → with_name ≡ with_size ++ p.name → with_arity ≡ with_name ++ p.arity ∷ [] → with_len ≡ with_arity ++ to_be_bytes w16 (length p.code) → after ≡ with_len ++ code_bytes p.code
    → after ≡ before ++ procedure_bytes p
unfolding procedure_bytes
procedure_pushed before with_size with_name with_arity with_len after p e1 e2 e3 e4 e5 =
    let name = p.name in
    let code = to_be_bytes w16 (length p.code) ++ code_bytes p.code in
    let from_len : after ≡ with_arity ++ code = e5 ∙ ap (λ front. front ++ code_bytes p.code) e4 ∙ append_assoc with_arity (to_be_bytes w16 (length p.code)) (code_bytes p.code) in
    let from_arity : after ≡ with_name ++ (p.arity ∷ code) = from_len ∙ ap (λ front. front ++ code) e3 ∙ append_assoc with_name (p.arity ∷ []) code in
    let from_name : after ≡ with_size ++ (name ++ (p.arity ∷ code)) = from_arity ∙ ap (λ front. front ++ (p.arity ∷ code)) e2 ∙ append_assoc with_size name (p.arity ∷ code) in
    from_name ∙ ap (λ front. front ++ (name ++ (p.arity ∷ code))) e1 ∙ append_assoc before (length name ∷ []) (name ++ (p.arity ∷ code))

pub no_procedure : (version : Version) (with_magic after : List ℕ) (count : ℕ) → with_magic ≡ [] ++ magic version → after ≡ with_magic ++ count ∷ [] → after ≡ magic version ++ (count ∷ procedures_bytes [])
no_procedure version with_magic after count e pushed =
    pushed ∙ ap (λ front. front ++ count ∷ []) e ∙ ap (λ more. magic version ++ (count ∷ more)) (sym procedures_bytes-nil)

pub one_pushed : (version : Version) (now after : List ℕ) (count : ℕ) (procs : List Procedure) (p : Procedure) → now ≡ magic version ++ (count ∷ procedures_bytes procs) → after ≡ now ++ procedure_bytes p → after ≡ magic version ++ (count ∷ procedures_bytes (procs ++ p ∷ []))
one_pushed version now after count procs p e pushed =
    pushed ∙ ap (λ front. front ++ procedure_bytes p) e ∙ append_assoc (magic version) (count ∷ procedures_bytes procs) (procedure_bytes p) ∙ ap (λ more. magic version ++ (count ∷ more)) (sym (procedures_bytes-push procs p))

pub all_pushed : (bytes : List ℕ) (m : ModuleState) (all : List Procedure) → bytes ≡ magic m.version ++ (length all ∷ procedures_bytes all) → all ≡ m.procedures → bytes ≡ module_bytes m
unfolding module_bytes
all_pushed bytes m all e same = e ∙ ap (λ procs. magic m.version ++ (length procs ∷ procedures_bytes procs)) same
