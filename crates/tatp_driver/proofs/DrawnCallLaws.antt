-- The arguments of a drawn call are in their domains, and its key is the subscriber's.
use Rattle.std.specs.Prelude.{◌≡◌, ℕ, zero, suc, ◌+◌, ◌*◌, ◌%◌, ◌≤◌, ◌<◌, Bool, true, false, if◌then◌else◌, List, [], ◌∷◌, slice_index, Ok}
use Rattle.std.proofs.Common.{refl, arith}
use Rattle.std.proofs.lemmas.Bool.Decides.{nat_tests}
use Rattle.tatp_lines.specs.Numbers.{is_between}
use Rattle.tatp_tables.specs.Domains.{is_in_domain}
use Rattle.tatp_calls.specs.declared.call.Call.{Call}
use Rattle.tatp_calls.specs.Arguments.{accepted, first_bad, arguments_accepted}
use Rattle.tatp_calls.specs.Calls.{key_of_call}
use Rattle.tatp_driver.specs.DrawnCall.{place_in_mix, call_on, NamesOneOf}

-- ---- what holds of each of two calls holds of the chosen one
either : (P : Call → Type 0) (b : Bool) (x y : Call) → P x → P y → P (if b then x else y)
either P true x y p q = p
either P false x y p q = q

-- ---- each value in its domain
number_fits : (s : ℕ) → s ≤ 999999999999999 → is_in_domain 1 s ≡ true
unfolding is_in_domain
number_fits s le = grind (arith, nat_tests)

bit_1_fits : (w : ℕ) → is_in_domain 2 (w % 2) ≡ true
unfolding is_in_domain
bit_1_fits w = let below : w % 2 < 2 = omega arith in grind (arith, nat_tests, below)

vlr_location_fits : (w : ℕ) → is_in_domain 33 (1 + w % 4294967295) ≡ true
unfolding is_in_domain
vlr_location_fits w = let below : w % 4294967295 < 4294967295 = omega arith in grind (arith, nat_tests, below)

ai_type_fits : (w : ℕ) → is_in_domain 35 (1 + w % 4) ≡ true
unfolding is_in_domain
ai_type_fits w = let below : w % 4 < 4 = omega arith in grind (arith, nat_tests, below)

sf_type_fits : (w : ℕ) → is_in_domain 41 (1 + w % 4) ≡ true
unfolding is_in_domain
sf_type_fits w = let below : w % 4 < 4 = omega arith in grind (arith, nat_tests, below)

data_a_fits : (w : ℕ) → is_in_domain 44 (w % 256) ≡ true
unfolding is_in_domain
data_a_fits w = let below : w % 256 < 256 = omega arith in grind (arith, nat_tests, below)

start_fits : (k : ℕ) → k < 3 → is_in_domain 48 (8 * k) ≡ true
unfolding is_in_domain
start_fits zero lt = refl
start_fits (suc zero) lt = refl
start_fits (suc (suc zero)) lt = refl
start_fits (suc (suc (suc k))) lt = absurd (omega arith)

end_time_fits : (w : ℕ) → is_in_domain 49 (1 + w % 24) ≡ true
unfolding is_in_domain
end_time_fits w = let below : w % 24 < 24 = omega arith in grind (arith, nat_tests, below)

numberx_fits : (w : ℕ) → is_in_domain 50 (w % 1000000000000000) ≡ true
unfolding is_in_domain
numberx_fits w = let below : w % 1000000000000000 < 1000000000000000 = omega arith in grind (arith, nat_tests, below)

-- ---- the call
abbrev Accepts : Call → Type 0
Accepts call = arguments_accepted call ≡ Ok tt

pub call_on_accepted : (s : ℕ) (words : List ℕ) → s ≤ 999999999999999 → arguments_accepted (call_on s words) ≡ Ok tt
unfolding call_on
call_on_accepted s words le =
    let place = place_in_mix words in
    let n = number_fits s le in
    let t = sf_type_fits (slice_index words 3) in
    let b = start_fits (slice_index words 4 % 3) (omega arith) in
    let e = end_time_fits (slice_index words 5) in
    let x = bit_1_fits (slice_index words 4) in
    let y = data_a_fits (slice_index words 5) in
    let v = vlr_location_fits (slice_index words 4) in
    let a = ai_type_fits (slice_index words 3) in
    let f = numberx_fits (slice_index words 6) in
    either Accepts (is_between 0 34 place) _ _ refl
    (either Accepts (is_between 35 44 place) _ _ (λ i. accepted (first_bad (true ∷ t i ∷ b i ∷ e i ∷ [])))
    (either Accepts (is_between 45 79 place) _ _ (λ i. accepted (first_bad (true ∷ a i ∷ [])))
    (either Accepts (is_between 80 81 place) _ _ (λ i. accepted (first_bad (true ∷ x i ∷ t i ∷ y i ∷ [])))
    (either Accepts (is_between 82 95 place) _ _ (λ i. accepted (first_bad (n i ∷ v i ∷ [])))
    (either Accepts (is_between 96 97 place) _ _ (λ i. accepted (first_bad (n i ∷ t i ∷ b i ∷ e i ∷ f i ∷ [])))
    (λ i. accepted (first_bad (n i ∷ t i ∷ b i ∷ []))))))))

pub call_on_names : (n s : ℕ) (words : List ℕ) → 1 ≤ s → s ≤ n → NamesOneOf n (key_of_call (call_on s words))
unfolding call_on
call_on_names n s words low high =
    let place = place_in_mix words in
    let Names : Call → Type 0 = λ call. NamesOneOf n (key_of_call call) in
    let is : (1 ≤ s) × (s ≤ n) = (low, high) in
    either Names (is_between 0 34 place) _ _ is
    (either Names (is_between 35 44 place) _ _ is
    (either Names (is_between 45 79 place) _ _ is
    (either Names (is_between 80 81 place) _ _ is
    (either Names (is_between 82 95 place) _ _ is
    (either Names (is_between 96 97 place) _ _ is is)))))
