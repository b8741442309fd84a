-- What a find answers: of a list, and of the set of a list.
use Rattle.std.specs.Prelude.{◌≡◌, ℕ, Bool, true, false, cond, ◌||◌, List, [], ◌∷◌, Some, None, find}
use Rattle.std.specs.List.{list_any}
use Rattle.std.proofs.Common.{refl, sym, ap, ◌∙◌}
use Rattle.tatp_tables.specs.Tuples.{Tuples, rows_of, same, has, set_of}
use Rattle.tatp_tables.proofs.TupleLaws.{same_itself, same_is, has-rows_of, has-set_of}

-- the only tuple of a list that passes is what a find gives
pub find_only : (p : List ℕ → Bool) (t : List ℕ) (xs : List (List ℕ)) → list_any (same t) xs ≡ true → p t ≡ true
    → ((u : List ℕ) → list_any (same u) xs ≡ true → p u ≡ true → u ≡ t) → find p xs ≡ Some t
find_only p t [] h pt only = cc
find_only p t (x ∷ xs) h pt only =
    elim (p x) as (λ b. p x ≡ b → cond b (Some x) (find p xs) ≡ Some t) [
      | true ↦ λ px. ap Some (only x (ap (λ b. b || list_any (same x) xs) (same_itself x)) px)
      | false ↦ λ px. find_only p t xs
          (elim (same t x) as (λ b. same t x ≡ b → (b || list_any (same t) xs) ≡ true → list_any (same t) xs ≡ true) [
            | true ↦ λ tx _. let e = same_is t x tx in let e' : p t ≡ p x = ap p e in cc
            | false ↦ λ _ r. r
          ] refl h)
          pt (λ u hu. only u (elim (same u x) as (λ b. (b || list_any (same u) xs) ≡ true) [ true ↦ refl | false ↦ hu ]))
    ] refl

pub find_none : (p : List ℕ → Bool) (xs : List (List ℕ)) → ((u : List ℕ) → list_any (same u) xs ≡ true → p u ≡ false) → find p xs ≡ None
find_none p [] none = refl
find_none p (x ∷ xs) none =
    ap (λ b. cond b (Some x) (find p xs)) (none x (ap (λ b. b || list_any (same x) xs) (same_itself x)))
    ∙ find_none p xs (λ u hu. none u (elim (same u x) as (λ b. (b || list_any (same u) xs) ≡ true) [ true ↦ refl | false ↦ hu ]))

-- what a find in a set gives: the only tuple that passes, or none
pub found_in : (p : List ℕ → Bool) (s : Tuples) (t : List ℕ) → has s t ≡ true → p t ≡ true
    → ((u : List ℕ) → has s u ≡ true → p u ≡ true → u ≡ t) → find p (rows_of s) ≡ Some t
found_in p s t h pt only = find_only p t (rows_of s) (sym (has-rows_of s t) ∙ h) pt (λ u hu. only u (has-rows_of s u ∙ hu))

pub none_in : (p : List ℕ → Bool) (s : Tuples) → ((u : List ℕ) → has s u ≡ true → p u ≡ false) → find p (rows_of s) ≡ None
none_in p s none = find_none p (rows_of s) (λ u hu. none u (has-rows_of s u ∙ hu))

-- what is found passes, and is there
pub found_passes : (p : List ℕ → Bool) (xs : List (List ℕ)) (t : List ℕ) → find p xs ≡ Some t → p t ≡ true
found_passes p [] t e = cc
found_passes p (x ∷ xs) t e =
    elim (p x) as (λ b. p x ≡ b → cond b (Some x) (find p xs) ≡ Some t → p t ≡ true) [
      | true ↦ λ px f. cc
      | false ↦ λ px f. found_passes p xs t f
    ] refl e

pub found_there : (p : List ℕ → Bool) (xs : List (List ℕ)) (t : List ℕ) → find p xs ≡ Some t → list_any (same t) xs ≡ true
found_there p [] t e = cc
found_there p (x ∷ xs) t e =
    elim (p x) as (λ b. cond b (Some x) (find p xs) ≡ Some t → (same t x || list_any (same t) xs) ≡ true) [
      | true ↦ λ f. let e : x ≡ t = cc in ap (λ y. same t y || list_any (same t) xs) e ∙ ap (λ b. b || list_any (same t) xs) (same_itself t)
      | false ↦ λ f. elim (same t x) as (λ b. (b || list_any (same t) xs) ≡ true) [ true ↦ refl | false ↦ found_there p xs t f ]
    ] e

pub not_found : (p : List ℕ → Bool) (xs : List (List ℕ)) (t : List ℕ) → find p xs ≡ None → list_any (same t) xs ≡ true → p t ≡ false
not_found p [] t e h = cc
not_found p (x ∷ xs) t e h =
    elim (p x) as (λ b. p x ≡ b → cond b (Some x) (find p xs) ≡ None → p t ≡ false) [
      | true ↦ λ px f. cc
      | false ↦ λ px f. elim (same t x) as (λ b. same t x ≡ b → (b || list_any (same t) xs) ≡ true → p t ≡ false) [
        | true ↦ λ tx _. ap p (same_is t x tx) ∙ px
        | false ↦ λ _ r. not_found p xs t f r
      ] refl h
    ] refl e

-- no two tuples of the list pass the test
abbrev pub PassesOnce : (List ℕ → Bool) → List (List ℕ) → Type 0
PassesOnce p xs = (t u : List ℕ) → list_any (same t) xs ≡ true → list_any (same u) xs ≡ true → p t ≡ true → p u ≡ true → t ≡ u

-- a find in the set of a list is one in the list
pub find-set_of : (p : List ℕ → Bool) (xs : List (List ℕ)) → PassesOnce p xs → find p (rows_of (set_of xs)) ≡ find p xs
find-set_of p xs once =
    elim (find p xs) as (λ o. find p xs ≡ o → find p (rows_of (set_of xs)) ≡ o) [
      | None ↦ λ e. none_in p _ (λ u hu. not_found p xs u e (sym (has-set_of xs u) ∙ hu))
      | Some t ↦ λ e. let pt = found_passes p xs t e in let th = found_there p xs t e in
          found_in p _ t (has-set_of xs t ∙ th) pt (λ u hu pu. once u t (sym (has-set_of xs u) ∙ hu) th pu pt)
    ] refl
