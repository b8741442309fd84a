-- The loops over instructions and over procedures.
use Rattle.std.proofs.Common.{◌≡◌, true, ℕ, ◌+◌, ◌*◌, ◌≤◌, List, [], ◌∷◌, ◌++◌, length, drop, get_or, Result, Ok, Err, refl, sym, ap, ◌∙◌, append_assoc, arith, length-append}
use Rattle.std.proofs.lemmas.List.{append-nil, drop_at}
use Rattle.tatp_instr.specs.declared.instr.Instr.{Instr}
use Rattle.tatp_instr.specs.declared.instr.Instr.TheVariants.{Ldi}
use Rattle.tatp_instr.specs.declared.version.Version.{Version}
use Rattle.tatp_instr.specs.Versions.{is_in}
use Rattle.std.specs.Prelude.{◌&&◌, IfOk}
use Rattle.std.specs.Int.{w16, to_be_bytes}
use Rattle.std.specs.List.{list_all}
use Rattle.std.proofs.lemmas.Bool.{le-leb}
use Rattle.std.proofs.lemmas.List.Folds.{list_all-append}
use Rattle.std.proofs.lemmas.List.{drop_all}
use Rattle.tatp_limits.specs.declared.limits.TheConstants.{MAX_ARGUMENTS, MAX_INSTRUCTIONS}
use Rattle.tatp_encoding.specs.Modules.{Procedure, is_name, is_procedure, has_version}
use Rattle.tatp_encoding.specs.declared.decoding.Bad.{Bad}
use Rattle.tatp_encoding.specs.Spelling.{spelling}
use Rattle.tatp_loader.specs.ModuleBytes.{code_bytes, procedure_bytes, procedures_bytes, magic, module_bytes}
use Rattle.tatp_loader.specs.Reading.{name_at, arity_at, length_at, instr_at, code_at, procedure_at, procedures_at}
use Rattle.tatp_loader.proofs.LoopLaws.{Repeats}

pub code_repeats : (version : Version) (n : ℕ) → Repeats (instr_at version n) (code_at version n)
unfolding code_at
code_repeats version n = record { stop = λ i bytes. refl; go = λ i k bytes. refl }

pub procedures_repeat : (version : Version) → Repeats (procedure_at version) (procedures_at version)
unfolding procedures_at
procedures_repeat version = record { stop = λ i bytes. refl; go = λ i k bytes. refl }

pub length-spelling : (instr : Instr) → length (spelling instr) ≡ 8
length-spelling (Ldi d n) = refl
length-spelling _ = refl

pub code_bytes-push : (code : List Instr) (instr : Instr) → code_bytes (code ++ instr ∷ []) ≡ code_bytes code ++ spelling instr
unfolding code_bytes
code_bytes-push [] instr = append-nil (spelling instr)
code_bytes-push (x ∷ code) instr = ap (λ more. spelling x ++ more) (code_bytes-push code instr) ∙ sym (append_assoc (spelling x) (code_bytes code) (spelling instr))

pub length-code_bytes : (code : List Instr) → length (code_bytes code) ≡ 8 * length code
unfolding code_bytes
length-code_bytes [] = refl
length-code_bytes (x ∷ code) = omega (arith, length-append (spelling x) (code_bytes code), length-spelling x, length-code_bytes code)

-- one more instruction was read
pub code_goes_on : (bytes rest after : List ℕ) (code : List Instr) (instr : Instr) → bytes ≡ code_bytes code ++ rest → rest ≡ spelling instr ++ after → bytes ≡ code_bytes (code ++ instr ∷ []) ++ after
code_goes_on bytes rest after code instr e h =
    e ∙ ap (λ more. code_bytes code ++ more) h ∙ sym (append_assoc (code_bytes code) (spelling instr) after) ∙ ap (λ front. front ++ after) (sym (code_bytes-push code instr))

-- eight bytes, each by itself
pub eight : (bytes : List ℕ) → length bytes ≡ 8 → get_or bytes 0 0 ∷ get_or bytes 1 0 ∷ get_or bytes 2 0 ∷ get_or bytes 3 0 ∷ get_or bytes 4 0 ∷ get_or bytes 5 0 ∷ get_or bytes 6 0 ∷ get_or bytes 7 0 ∷ [] ≡ bytes
eight (a ∷ b ∷ c ∷ d ∷ e ∷ f ∷ g ∷ h ∷ []) len = refl
eight _ len = absurd (omega arith)

-- what is read of bytes is spelled by them
pub instr_spelled : (version : Version) (all bytes : List ℕ) (read : Result Instr Bad) → all ≡ bytes → IfOk read (λ instr. (all ≡ spelling instr) × (is_in version instr ≡ true)) → IfOk read (λ instr. bytes ≡ spelling instr)
instr_spelled version all bytes (Ok instr) same h = sym same ∙ h.0
instr_spelled version all bytes (Err bad) same h = tt

-- each instruction that was read is one of the version
pub one_more_in : (version : Version) (code : List Instr) (instr : Instr) → list_all (is_in version) code ≡ true → is_in version instr ≡ true → list_all (is_in version) (code ++ instr ∷ []) ≡ true
one_more_in version code instr all one = list_all-append (is_in version) code (instr ∷ []) ∙ ap (λ b. b && (is_in version instr && true)) all ∙ ap (λ b. b && true) one

-- the bytes after the code
pub rest_after_code : (bytes rest : List ℕ) (code : List Instr) (len : ℕ) → bytes ≡ code_bytes code ++ rest → length code ≡ len → drop (8 * len) bytes ≡ rest
rest_after_code bytes rest code len e h =
    ap (drop (8 * len)) e ∙ drop_at (code_bytes code) rest (8 * len) (length-code_bytes code ∙ ap (λ k. 8 * k) h)

pub procedures_bytes-push : (procs : List Procedure) (p : Procedure) → procedures_bytes (procs ++ p ∷ []) ≡ procedures_bytes procs ++ procedure_bytes p
unfolding procedures_bytes
procedures_bytes-push [] p = append-nil (procedure_bytes p)
procedures_bytes-push (x ∷ procs) p = ap (λ more. procedure_bytes x ++ more) (procedures_bytes-push procs p) ∙ sym (append_assoc (procedure_bytes x) (procedures_bytes procs) (procedure_bytes p))

pub procedures_go_on : (bytes rest after : List ℕ) (procs : List Procedure) (p : Procedure) → bytes ≡ procedures_bytes procs ++ rest → rest ≡ procedure_bytes p ++ after → bytes ≡ procedures_bytes (procs ++ p ∷ []) ++ after
procedures_go_on bytes rest after procs p e h =
    e ∙ ap (λ more. procedures_bytes procs ++ more) h ∙ sym (append_assoc (procedures_bytes procs) (procedure_bytes p) after) ∙ ap (λ front. front ++ after) (sym (procedures_bytes-push procs p))

pub code_bytes-nil : code_bytes [] ≡ []
unfolding code_bytes
code_bytes-nil = refl

-- ---- a procedure
pub procedure_fits : (name : List ℕ) (arity : ℕ) (code : List Instr) → is_name name ≡ true → arity ≤ MAX_ARGUMENTS → 1 ≤ length code → length code ≤ MAX_INSTRUCTIONS → is_procedure (record { name = name; arity = arity; code = code }) ≡ true
procedure_fits name arity code named few least most = rw (named, le-leb arity MAX_ARGUMENTS few, le-leb 1 (length code) least, le-leb (length code) MAX_INSTRUCTIONS most) refl

pub procedure_read : (version : Version) (n : ℕ) (bytes name r1 : List ℕ) (arity : ℕ) (r2 : List ℕ) (len : ℕ) (r3 : List ℕ) (code : List Instr) (r4 : List ℕ)
    → name_at n bytes ≡ Ok (name, r1) → arity_at n r1 ≡ Ok (arity, r2) → length_at n r2 ≡ Ok (len, r3) → code_at version n 0 len r3 ≡ Ok (code, r4)
    → procedure_at version n bytes ≡ Ok (record { name = name; arity = arity; code = code }, r4)
unfolding procedure_at
procedure_read version n bytes name r1 arity r2 len r3 code r4 named counted long coded = rw (named, counted, long, coded) refl

pub procedure_spelled : (bytes name r1 : List ℕ) (arity : ℕ) (r2 : List ℕ) (len : ℕ) (r3 : List ℕ) (code : List Instr) (r4 : List ℕ)
    → bytes ≡ (length name ∷ name) ++ r1 → r1 ≡ arity ∷ r2 → r2 ≡ to_be_bytes w16 len ++ r3 → r3 ≡ code_bytes code ++ r4 → length code ≡ len
    → bytes ≡ procedure_bytes (record { name = name; arity = arity; code = code }) ++ r4
unfolding procedure_bytes
procedure_spelled bytes name r1 arity r2 len r3 code r4 named counted long coded same =
    let tail : r2 ≡ (to_be_bytes w16 (length code) ++ code_bytes code) ++ r4 =
    long ∙ ap (λ k. to_be_bytes w16 k ++ r3) (sym same) ∙ ap (λ more. to_be_bytes w16 (length code) ++ more) coded ∙ sym (append_assoc (to_be_bytes w16 (length code)) (code_bytes code) r4) in
    named ∙ ap (λ more. length name ∷ (name ++ more)) (counted ∙ ap (λ more. arity ∷ more) tail)
    ∙ ap (λ more. length name ∷ more) (sym (append_assoc name (arity ∷ (to_be_bytes w16 (length code) ++ code_bytes code)) r4))

pub length-procedure_bytes : (name : List ℕ) (arity : ℕ) (code : List Instr) → length (procedure_bytes (record { name = name; arity = arity; code = code })) ≡ 1 + length name + 1 + 2 + 8 * length code
unfolding procedure_bytes
length-procedure_bytes name arity code =
    omega (arith, length-append name (arity ∷ (to_be_bytes w16 (length code) ++ code_bytes code)), length-append (to_be_bytes w16 (length code)) (code_bytes code), length-code_bytes code)

-- the bytes after a procedure
pub rest_after_procedure : (bytes name : List ℕ) (arity : ℕ) (code : List Instr) (rest : List ℕ) (len : ℕ) → bytes ≡ procedure_bytes (record { name = name; arity = arity; code = code }) ++ rest → length code ≡ len
    → (drop (1 + length name + 1 + 2 + 8 * len) bytes ≡ rest) × (1 + length name + 1 + 2 + 8 * len ≤ length bytes)
rest_after_procedure bytes name arity code rest len e same =
    let p : Procedure = record { name = name; arity = arity; code = code } in
    let size : length (procedure_bytes p) ≡ 1 + length name + 1 + 2 + 8 * len = length-procedure_bytes name arity code ∙ ap (λ k. 1 + length name + 1 + 2 + 8 * k) same in
    (ap (drop (1 + length name + 1 + 2 + 8 * len)) e ∙ drop_at (procedure_bytes p) rest _ size, omega (arith, size, ap length e, length-append (procedure_bytes p) rest))

-- ---- procedures
pub procedures_bytes-nil : procedures_bytes [] ≡ []
unfolding procedures_bytes
procedures_bytes-nil = refl

pub one_more_fits : (procs : List Procedure) (p : Procedure) → list_all is_procedure procs ≡ true → is_procedure p ≡ true → list_all is_procedure (procs ++ p ∷ []) ≡ true
one_more_fits procs p all one = list_all-append is_procedure procs (p ∷ []) ∙ ap (λ b. b && (is_procedure p && true)) all ∙ ap (λ b. b && true) one

pub one_more_has : (version : Version) (procs : List Procedure) (p : Procedure) → list_all (has_version version) procs ≡ true → has_version version p ≡ true → list_all (has_version version) (procs ++ p ∷ []) ≡ true
one_more_has version procs p all one = list_all-append (has_version version) procs (p ∷ []) ∙ ap (λ b. b && (has_version version p && true)) all ∙ ap (λ b. b && true) one

-- ---- a module
pub module_spelled : (version : Version) (bytes rest : List ℕ) (count size : ℕ) (procs : List Procedure) → bytes ≡ magic version ++ (count ∷ rest) → rest ≡ procedures_bytes procs ++ drop size rest → length procs ≡ count → length rest ≤ size
    → bytes ≡ module_bytes (record { version = version; procedures = procs })
unfolding module_bytes
module_spelled version bytes rest count size procs e spelled same over =
    e ∙ ap (λ k. magic version ++ (k ∷ rest)) (sym same)
    ∙ ap (λ more. magic version ++ (length procs ∷ more)) (spelled ∙ ap (λ more. procedures_bytes procs ++ more) (drop_all size rest over) ∙ append-nil (procedures_bytes procs))
