-- What has a code has a decidable equality: two of it are equal, or differ.
use Rattle.std.proofs.Common.{◌≡◌, ℕ, ◌≤◌, ◌<◌, refl, ap, subst, ◌⊎◌, inl, inr}
use Rattle.std.proofs.lemmas.Bool.{cases_eq, cases_lt}
use Rattle.std.specs.Coded.{Coded}
use base.Stored.{Gv, gnil, gnum, gcons, num}

pub equal_numbers : (m n : ℕ) → ((m ≡ n → ⊥) → ⊥) → m ≡ n
equal_numbers m n h = elim (cases_eq m n) [
  | inl same ↦ same
  | inr other ↦ absurd (h other)
]

pub at_most : (m n : ℕ) → (n < m → ⊥) → m ≤ n
at_most m n h = elim (cases_lt n m) [
  | inl less ↦ absurd (h less)
  | inr most ↦ most
]

abbrev IsNil : Gv → Type 0
IsNil gnil = Unit {0}
IsNil (gnum n) = ⊥
IsNil (gcons a b) = ⊥

abbrev IsNum : Gv → Type 0
IsNum gnil = ⊥
IsNum (gnum n) = Unit {0}
IsNum (gcons a b) = ⊥

abbrev IsPair : Gv → Type 0
IsPair gnil = ⊥
IsPair (gnum n) = ⊥
IsPair (gcons a b) = Unit {0}

abbrev first : Gv → Gv
first gnil = gnil
first (gnum n) = gnil
first (gcons a b) = a

abbrev second : Gv → Gv
second gnil = gnil
second (gnum n) = gnil
second (gcons a b) = b

equal_codes : (x y : Gv) → (x ≡ y) ⊎ (x ≡ y → ⊥)
equal_codes gnil gnil = inl refl
equal_codes gnil (gnum n) = inr (λ e. subst IsNil e tt)
equal_codes gnil (gcons a b) = inr (λ e. subst IsNil e tt)
equal_codes (gnum m) gnil = inr (λ e. subst IsNum e tt)
equal_codes (gnum m) (gnum n) = elim (cases_eq m n) [
  | inl same ↦ inl (ap gnum same)
  | inr other ↦ inr (λ e. other (ap num e))
]
equal_codes (gnum m) (gcons a b) = inr (λ e. subst IsNum e tt)
equal_codes (gcons a b) gnil = inr (λ e. subst IsPair e tt)
equal_codes (gcons a b) (gnum n) = inr (λ e. subst IsPair e tt)
equal_codes (gcons a b) (gcons c d) = by (equal_codes a c) (equal_codes b d)
  where
    by : (a ≡ c) ⊎ (a ≡ c → ⊥) → (b ≡ d) ⊎ (b ≡ d → ⊥) → (gcons a b ≡ gcons c d) ⊎ (gcons a b ≡ gcons c d → ⊥)
    by (inl one) (inl two) = inl (λ i. gcons (one i) (two i))
    by (inl one) (inr other) = inr (λ e. other (ap second e))
    by (inr other) two = inr (λ e. other (ap first e))

pub equal_or_not : {A : Type 0} → Coded A → (x y : A) → (x ≡ y) ⊎ (x ≡ y → ⊥)
equal_or_not c x y = elim (equal_codes (c.code x) (c.code y)) [
  | inl same ↦ inl (c.inj x y same)
  | inr other ↦ inr (λ e. other (ap c.code e))
]

pub equal_unless : {A : Type 0} → Coded A → (x y : A) → ((x ≡ y → ⊥) → ⊥) → x ≡ y
equal_unless c x y h = elim (equal_or_not c x y) [
  | inl same ↦ same
  | inr other ↦ absurd (h other)
]
