-- Searches in the order of numbers.
use Rattle.std.proofs.Common.{◌≡◌, ℕ, ◌<◌, ◌≤◌, ◌+◌, arith, subst, ◌⊎◌, inl, inr, Option, Some, None}
use Rattle.std.specs.Option.{MatchOption}
use Rattle.tatp_settle.specs.CallPlaces.{IsSooner, IsLeastCall, HoldsNowhere, IsFirstNumber}

pub lt_or : (m n : ℕ) → (m < n) ⊎ (n ≤ m)
lt_or m n = grind arith

-- ---- the calls of one client
-- it holds of no number before this one
pub record Clear (P : ℕ → Type 0) (number : ℕ) : Type 0 where
  pub below : (n : ℕ) → n < number → P n → ⊥

pub clear_step : (P : ℕ → Type 0) (number : ℕ) → Clear P number → (P number → ⊥) → Clear P (number + 1)
clear_step P number h not = record { below = λ n l p. by_cases n l p (lt_or n number) }
  where
    by_cases : (n : ℕ) → n < number + 1 → P n → (n < number) ⊎ (number ≤ n) → ⊥
    by_cases n l p (inl sooner) = h.below n sooner p
    by_cases n l p (inr later) = not (subst P (let same : n ≡ number = omega (arith, l, later) in same) p)

pub clear_all : (P : ℕ → Type 0) (count : ℕ) → Clear P count → ((n : ℕ) → count ≤ n → P n → ⊥) → IsFirstNumber P None
clear_all P count h past n p = by_cases (lt_or n count)
  where
    by_cases : (n < count) ⊎ (count ≤ n) → ⊥
    by_cases (inl l) = h.below n l p
    by_cases (inr l) = past n l p

-- what the search of a range finds, where it holds of nothing beyond
pub first_number : (P : ℕ → Type 0) (count : ℕ) (r : Option ℕ) → ((n : ℕ) → count ≤ n → P n → ⊥)
    → MatchOption r ((k : ℕ) → 0 ≤ k → k < count → P k → ⊥) (λ i. (0 ≤ i) × (i < count) × P i × ((k : ℕ) → 0 ≤ k → k < i → P k → ⊥))
    → IsFirstNumber P r
first_number P count None past none = λ n p. by_cases n p (lt_or n count)
  where
    by_cases : (n : ℕ) → P n → (n < count) ⊎ (count ≤ n) → ⊥
    by_cases n p (inl l) = none n (omega arith) l p
    by_cases n p (inr l) = past n l p
first_number P count (Some i) past found = (found.2, λ k l. found.3 k (omega arith) l)

-- ---- the chapters of all extents, extent by extent
-- it holds of no chapter of an extent before this one
pub record ClearBefore (P : ℕ → ℕ → Type 0) (extent : ℕ) : Type 0 where
  pub below : (e i : ℕ) → e < extent → P e i → ⊥

pub none_before : (P : ℕ → ℕ → Type 0) → ClearBefore P 0
none_before P = record { below = λ e i l p. omega (arith, l) }

pub none_of_one : (P : ℕ → ℕ → Type 0) (extent : ℕ) → ClearBefore P extent → IsFirstNumber (P extent) None → ClearBefore P (extent + 1)
none_of_one P extent h none = record { below = λ e i l p. by_cases e i l p (lt_or e extent) }
  where
    by_cases : (e i : ℕ) → e < extent + 1 → P e i → (e < extent) ⊎ (extent ≤ e) → ⊥
    by_cases e i l p (inl sooner) = h.below e i sooner p
    by_cases e i l p (inr later) = none i (subst (λ (k : ℕ). P k i) (let same : e ≡ extent = omega (arith, l, later) in same) p)

pub first_of_one : (P : ℕ → ℕ → Type 0) (extent index : ℕ) → ClearBefore P extent → IsFirstNumber (P extent) (Some index) → IsLeastCall P extent index
first_of_one P extent index h first = record { holds = first.0; least = by_cases }
  where
    by_cases : (e i : ℕ) → IsSooner e i extent index → P e i → ⊥
    by_cases e i (inl sooner) p = h.below e i sooner p
    by_cases e i (inr same) p = first.1 i same.1 (subst (λ (k : ℕ). P k i) same.0 p)

pub none_of_all : (P : ℕ → ℕ → Type 0) (extent : ℕ) → ClearBefore P extent → ((e i : ℕ) → extent ≤ e → P e i → ⊥) → HoldsNowhere P
none_of_all P extent h past e i p = by_cases (lt_or e extent)
  where
    by_cases : (e < extent) ⊎ (extent ≤ e) → ⊥
    by_cases (inl l) = h.below e i l p
    by_cases (inr l) = past e i l p
