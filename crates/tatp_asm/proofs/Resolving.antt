-- The code that is resolved so far, and the rest.
use Rattle.std.proofs.Common.{◌≡◌, ℕ, suc, ◌+◌, ◌<◌, ◌∙◌, sym, ap, List, [], ◌∷◌, ◌++◌, length, drop, get_or, refl, Result, Ok, Err, append_assoc, add-one, drop-cons}
use Rattle.tatp_instr.specs.declared.instr.Instr.{Instr}
use Rattle.tatp_asm.specs.declared.fault.AsmFault.{AsmFault}
use Rattle.tatp_asm.specs.declared.fault.AsmError.{AsmError}
use Rattle.tatp_asm.specs.declared.fault.AsmError.TheVariants as errors
use Rattle.tatp_asm.specs.declared.draft.Unresolved.{Unresolved}
use Rattle.tatp_asm.specs.Instrs.{has_target}
use Rattle.tatp_asm.specs.Reading.{IsErrorOf, ◌>>=◌, position_of, resolved, resolve}
use Rattle.tatp_asm.specs.Views.{all_pending, pending}

abbrev pub with_front : List Instr → Result (List Instr) AsmFault → Result (List Instr) AsmFault
with_front front read = read >>= λ code. Ok (front ++ code)

regroup : (front : List Instr) (i : Instr) (read : Result (List Instr) AsmFault) → with_front front (read >>= λ x. Ok (i ∷ x)) ≡ with_front (front ++ i ∷ []) read
regroup front i (Ok x) = ap (λ (ns : List Instr). Ok ns) (sym (append_assoc front (i ∷ []) x))
regroup front i (Err f) = refl

abbrev pub one : List (List ℕ × ℕ) → Unresolved → Result Instr AsmFault
one labels w = resolved (has_target w.instr) (position_of labels (pending w).label) (pending w)

split_at : (ws : List Unresolved) (k : ℕ) (w : Unresolved) → k < length ws → w ≡ get_or ws k w → drop k ws ≡ w ∷ drop (k + 1) ws
split_at ws k w lt is = drop-cons ws k w lt ∙ (ap (λ (x : Unresolved). x ∷ drop (suc k) ws) (sym is) ∙ ap (λ (n : ℕ). w ∷ drop n ws) (sym (add-one k)))

pub goes_on : (labels : List (List ℕ × ℕ)) (front : List Instr) (ws : List Unresolved) (k : ℕ) (w : Unresolved) (i : Instr) (total : Result (List Instr) AsmFault) → k < length ws → w ≡ get_or ws k w → one labels w ≡ Ok i
    → with_front front (resolve labels (all_pending (drop k ws))) ≡ total → with_front (front ++ i ∷ []) (resolve labels (all_pending (drop (k + 1) ws))) ≡ total
goes_on labels front ws k w i total lt is h so_far =
    let s = split_at ws k w lt is in
    let e : resolve labels (all_pending (drop k ws)) ≡ (resolve labels (all_pending (drop (k + 1) ws)) >>= λ x. Ok (i ∷ x)) = rw (s, h) refl in
    sym (ap (with_front front) e ∙ regroup front i (resolve labels (all_pending (drop (k + 1) ws)))) ∙ so_far

pub ends : (labels : List (List ℕ × ℕ)) (e : AsmError) (front : List Instr) (ws : List Unresolved) (k : ℕ) (w : Unresolved) (total : Result (List Instr) AsmFault) → k < length ws → w ≡ get_or ws k w → IsErrorOf e (one labels w)
    → with_front front (resolve labels (all_pending (drop k ws))) ≡ total → IsErrorOf e total
ends labels errors.NoMemory front ws k w total lt is h so_far = tt
ends labels (errors.Fault f) front ws k w total lt is h so_far =
    let s = split_at ws k w lt is in
    let e : resolve labels (all_pending (drop k ws)) ≡ Err f = rw (s, h) refl in
    sym so_far ∙ ap (with_front front) e
