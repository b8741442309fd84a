-- The least s_id that isn't that of exactly one row: a loop's steps.
use Rattle.std.specs.Prelude.{◌≡◌, ◌≢◌, ℕ, ◌≤◌, ◌<◌, ◌+◌, ◌-◌, ◌==◌, max, nat_le, true, false, ◌&&◌, not, List, [], ◌∷◌, length}
use Rattle.std.proofs.Common.{refl, sym, ◌∙◌, subst, arith, inl, inr}
use Rattle.std.proofs.lemmas.Bool.Decides.{nat_tests}
use Rattle.std.proofs.lemmas.Bool.{cases_lt}
use Rattle.tatp_tables.specs.Tuples.{Tuple}
use Rattle.tatp_tables.specs.Clean.{count_of_key}
use Rattle.tatp_audits.specs.Failing.{is_above, NoneFails, IsLeast}
use Rattle.tatp_audits.specs.Audits.{is_astray}

astray_bits : (s n c : ℕ) → 1 ≤ s → s ≤ n → c ≢ 1 → (nat_le 1 s && (nat_le s n && not (c == 1))) ≡ true
astray_bits s n c low high ne = grind (arith, nat_tests)

right_bits : (s n c : ℕ) → (1 ≤ s → s ≤ n → c ≡ 1) → (nat_le 1 s && (nat_le s n && not (c == 1))) ≡ false
right_bits s n c h = grind (arith, nat_tests)

at_least_one : (s n c : ℕ) → (nat_le 1 s && (nat_le s n && not (c == 1))) ≡ true → (1 ≤ s) × (c ≢ 1)
at_least_one s n c e = (grind (arith, nat_tests), λ h. grind (arith, nat_tests))

above_one : (s j : ℕ) → s ≤ j → is_above (s ∷ []) (j ∷ []) ≡ false
above_one s j le = grind (arith, nat_tests)

one_below : (rows : List Tuple) (i j : ℕ) → ((k : ℕ) → k < i → count_of_key ((k + 1) ∷ []) rows ≡ 1) → 1 ≤ j → j < i + 1 → count_of_key (j ∷ []) rows ≡ 1
one_below rows i j ones low high = let e : j - 1 + 1 ≡ j = omega arith in subst (λ n. count_of_key (n ∷ []) rows ≡ 1) e (ones (j - 1) (omega arith))

pub first_astray : (rows : List Tuple) (i c : ℕ) → i < max 1 (length rows) → c ≡ count_of_key ((i + 1) ∷ []) rows → c ≢ 1 → ((k : ℕ) → k < i → count_of_key ((k + 1) ∷ []) rows ≡ 1) → IsLeast (is_astray rows) ((i + 1) ∷ [])
first_astray rows i c lt e ne ones = (
  astray_bits (i + 1) (max 1 (length rows)) (count_of_key ((i + 1) ∷ []) rows) (omega arith) (omega arith) (λ h. ne (e ∙ h)),
  after,
)
  where
    after : (other : Tuple) → is_astray rows other ≡ true → is_above ((i + 1) ∷ []) other ≡ false
    after [] h = cc
    after (j ∷ []) h =
        let parts = at_least_one j (max 1 (length rows)) (count_of_key (j ∷ []) rows) h in
        elim (cases_lt j (i + 1)) [
          | inl b ↦ absurd (parts.1 (one_below rows i j ones parts.0 b))
          | inr b ↦ above_one (i + 1) j b
        ]
    after (j ∷ t ∷ more) h = cc

pub one_more : (rows : List Tuple) (i c : ℕ) → c ≡ count_of_key ((i + 1) ∷ []) rows → c ≡ 1 → ((k : ℕ) → k < i → count_of_key ((k + 1) ∷ []) rows ≡ 1) → (k : ℕ) → k < i + 1 → count_of_key ((k + 1) ∷ []) rows ≡ 1
one_more rows i c e is ones k h = elim (cases_lt k i) [
  | inl b ↦ ones k b
  | inr b ↦ let same : i ≡ k = omega arith in subst (λ n. count_of_key ((n + 1) ∷ []) rows ≡ 1) same (sym e ∙ is)
]

pub none_astray : (rows : List Tuple) (i : ℕ) → 1 ≤ i → length rows ≤ i → ((k : ℕ) → k < i → count_of_key ((k + 1) ∷ []) rows ≡ 1) → NoneFails (is_astray rows)
none_astray rows i low high ones [] = refl
none_astray rows i low high ones (s ∷ []) = right_bits s (max 1 (length rows)) (count_of_key (s ∷ []) rows) (λ a b. one_below rows i s ones a (omega arith))
none_astray rows i low high ones (s ∷ t ∷ more) = refl
