-- Reading one thing after another, as a loop does.
use Rattle.std.proofs.Common.{◌≡◌, ℕ, suc, ◌-◌, ◌+◌, ◌≤◌, ◌<◌, List, [], ◌∷◌, ◌++◌, Result, Ok, Err, refl, sym, ap, ◌∙◌, append_assoc, arith}
use Rattle.std.proofs.lemmas.List.{append-nil}
use Rattle.tatp_loader.specs.declared.fault.LoadFault.{LoadFault}
use Rattle.tatp_loader.specs.declared.fault.LoadError.{LoadError}
use Rattle.tatp_loader.specs.declared.fault.LoadError.TheVariants as errors
use Rattle.tatp_loader.specs.Reading.{◌>>=◌, IsErrorOf}

-- many things are one, and then the others
pub record Repeats {A : Type 0} (one : ℕ → List ℕ → Result (A × List ℕ) LoadFault) (many : ℕ → ℕ → List ℕ → Result (List A × List ℕ) LoadFault) : Type 0 where
  pub stop : (i : ℕ) (bytes : List ℕ) → many i 0 bytes ≡ Ok ([], bytes)
  pub go : (i k : ℕ) (bytes : List ℕ) → many i (suc k) bytes ≡ (one i bytes >>= λ first. many (suc i) k first.1 >>= λ others. Ok (first.0 ∷ others.0, others.1))

-- what was read before, and what is still read
abbrev pub joined : {A : Type 0} → List A → Result (List A × List ℕ) LoadFault → Result (List A × List ℕ) LoadFault
joined front read = read >>= λ x. Ok (front ++ x.0, x.1)

regrouped : {A : Type 0} (front : List A) (a : A) (read : Result (List A × List ℕ) LoadFault) → joined front (read >>= λ others. Ok (a ∷ others.0, others.1)) ≡ joined (front ++ a ∷ []) read
regrouped front a (Ok x) = ap (λ (all : List _). Ok (all, x.1)) (sym (append_assoc front (a ∷ []) x.0))
regrouped front a (Err f) = refl

pub one_more : {A : Type 0} {one : ℕ → List ℕ → Result (A × List ℕ) LoadFault} {many : ℕ → ℕ → List ℕ → Result (List A × List ℕ) LoadFault} → Repeats one many
    → (front : List A) (count i : ℕ) (bytes : List ℕ) (a : A) (after : List ℕ) (all : Result (List A × List ℕ) LoadFault) → i < count → one i bytes ≡ Ok (a, after)
    → joined front (many i (count - i) bytes) ≡ all → joined (front ++ a ∷ []) (many (i + 1) (count - (i + 1)) after) ≡ all
one_more {one = one} {many = many} rep front count i bytes a after all lt h so_far =
    let left : count - i ≡ suc (count - (i + 1)) = omega arith in
    let next : suc i ≡ i + 1 = omega arith in
    let step : joined front (many i (count - i) bytes) ≡ joined (front ++ a ∷ []) (many (i + 1) (count - (i + 1)) after) =
    ap (λ k. joined front (many i k bytes)) left
    ∙ ap (joined front) (rep.go i (count - (i + 1)) bytes)
    ∙ ap (λ read. joined front (read >>= λ first. many (suc i) (count - (i + 1)) first.1 >>= λ others. Ok (first.0 ∷ others.0, others.1))) h
    ∙ regrouped front a (many (suc i) (count - (i + 1)) after)
    ∙ ap (λ k. joined (front ++ a ∷ []) (many k (count - (i + 1)) after)) next in
    sym step ∙ so_far

pub ends_so : {A : Type 0} {one : ℕ → List ℕ → Result (A × List ℕ) LoadFault} {many : ℕ → ℕ → List ℕ → Result (List A × List ℕ) LoadFault} → Repeats one many
    → (e : LoadError) (front : List A) (count i : ℕ) (bytes : List ℕ) (all : Result (List A × List ℕ) LoadFault) → i < count → IsErrorOf e (one i bytes)
    → joined front (many i (count - i) bytes) ≡ all → IsErrorOf e all
ends_so rep errors.NoMemory front count i bytes all lt h so_far = tt
ends_so {one = one} {many = many} rep (errors.Fault f) front count i bytes all lt h so_far =
    let left : count - i ≡ suc (count - (i + 1)) = omega arith in
    sym so_far
    ∙ ap (λ k. joined front (many i k bytes)) left
    ∙ ap (joined front) (rep.go i (count - (i + 1)) bytes)
    ∙ ap (λ read. joined front (read >>= λ first. many (suc i) (count - (i + 1)) first.1 >>= λ others. Ok (first.0 ∷ others.0, others.1))) h

pub all_read : {A : Type 0} {one : ℕ → List ℕ → Result (A × List ℕ) LoadFault} {many : ℕ → ℕ → List ℕ → Result (List A × List ℕ) LoadFault} → Repeats one many
    → (front : List A) (count i : ℕ) (bytes : List ℕ) (all : Result (List A × List ℕ) LoadFault) → count ≤ i → joined front (many i (count - i) bytes) ≡ all → all ≡ Ok (front, bytes)
all_read {many = many} rep front count i bytes all le so_far =
    let left : count - i ≡ 0 = omega arith in
    sym so_far ∙ ap (λ k. joined front (many i k bytes)) left ∙ ap (joined front) (rep.stop i bytes) ∙ ap (λ (all : List _). Ok (all, bytes)) (append-nil front)

pub joined_to_nothing : {A : Type 0} (read : Result (List A × List ℕ) LoadFault) → joined [] read ≡ read
joined_to_nothing (Ok x) = refl
joined_to_nothing (Err f) = refl
