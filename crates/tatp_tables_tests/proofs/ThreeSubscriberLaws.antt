-- Three rows of a test have the s_ids 1 to 3.
use Rattle.std.specs.Prelude.{◌≡◌, ℕ, ◌+◌, ◌≤◌, ◌==◌, cond, [], ◌∷◌}
use Rattle.std.proofs.Common.{ap, arith}
use Rattle.std.proofs.lemmas.Bool.Decides.{nat_tests}
use Rattle.tatp_tables.specs.Tuples.{Tuple}
use Rattle.tatp_tables.specs.Keys.{has_key}
use Rattle.tatp_tables.proofs.CountLaws.{count_by-cons}
use Rattle.tatp_numbers.specs.Lists.{IdsRunToLength}

abbrev pub HasSId : ℕ → Tuple → Type 0
HasSId id row = (s : ℕ) → has_key (s ∷ []) row ≡ (id == s)

one_of_three : (s : ℕ) → 1 ≤ s → s ≤ 3 → cond (2 == s) 1 0 + (cond (1 == s) 1 0 + cond (3 == s) 1 0) ≡ 1
one_of_three s least most = grind (arith, nat_tests)

pub three_ids : (second first third : Tuple) → HasSId 2 second → HasSId 1 first → HasSId 3 third → IdsRunToLength (second ∷ first ∷ third ∷ [])
three_ids second first third is_second is_first is_third s least most =
    let p = has_key (s ∷ []) in
    let a : cond {A = ℕ} (p second) 1 0 ≡ cond (2 == s) 1 0 = ap (λ b. cond b 1 0) (is_second s) in
    let b : cond {A = ℕ} (p first) 1 0 ≡ cond (1 == s) 1 0 = ap (λ b. cond b 1 0) (is_first s) in
    let c : cond {A = ℕ} (p third) 1 0 ≡ cond (3 == s) 1 0 = ap (λ b. cond b 1 0) (is_third s) in
    omega (arith, count_by-cons p second (first ∷ third ∷ []), count_by-cons p first (third ∷ []), count_by-cons p third [], a, b, c, one_of_three s least most)
