-- Sites that are opened one after another, without extents.
use Rattle.std.proofs.Common.{◌≡◌, ◌⊎◌, ℕ, zero, suc, ◌+◌, List, [], ◌∷◌, ◌++◌, length, Some, slice_get, refl, sym, ◌∙◌, ap, subst, inl, inr, arith}
use Rattle.tatp_encoding.specs.Modules.{ModuleState}
use Rattle.tatp_partition.specs.Sites.{SiteState}
use Rattle.tatp_partition.specs.Dealing.{IsSiteDealt}

get_pushed : {A : Type 0} (xs : List A) (x y : A) (i : ℕ) → slice_get (xs ++ x ∷ []) i ≡ Some y → (slice_get xs i ≡ Some y) ⊎ ((length xs ≡ i) × (x ≡ y))
get_pushed [] x y zero h = inr (refl, cc)
get_pushed [] x y (suc i) h = absurd cc
get_pushed (a ∷ xs) x y zero h = inl h
get_pushed (a ∷ xs) x y (suc i) h = elim (get_pushed xs x y i h) as (λ _. (slice_get xs i ≡ Some y) ⊎ ((length (a ∷ xs) ≡ suc i) × (x ≡ y))) [ inl k ↦ inl k | inr k ↦ inr (ap suc k.0, k.1) ]

abbrev pub AreOpened : ModuleState → ℕ → ℕ → List SiteState → Type 0
AreOpened modul partitions total sites = (p : ℕ) (s : SiteState) → slice_get sites p ≡ Some s → IsSiteDealt modul partitions p total [] s

pub one_more_site : (modul : ModuleState) (partitions p total : ℕ) (sites : List SiteState) (s : SiteState) → AreOpened modul partitions total sites → length sites ≡ p → IsSiteDealt modul partitions p total [] s
    → AreOpened modul partitions total (sites ++ s ∷ [])
one_more_site modul partitions p total sites s each made own q t is = elim (get_pushed sites s t q is) as (λ _. IsSiteDealt modul partitions q total [] t) [
  | inl k ↦ each q t k
  | inr k ↦ subst (λ (j : ℕ). IsSiteDealt modul partitions j total [] t) (sym made ∙ k.0) (subst (IsSiteDealt modul partitions p total []) k.1 own)
]

pub length_pushed : {A : Type 0} (xs : List A) (x : A) → length (xs ++ x ∷ []) ≡ length xs + 1
length_pushed [] x = refl
length_pushed (a ∷ xs) x = omega (arith, length_pushed xs x)
