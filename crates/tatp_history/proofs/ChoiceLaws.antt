-- A call chosen among open calls, and the others.
use Rattle.std.proofs.Common.{◌≡◌, ℕ, suc, ◌⊎◌, ◌==◌, true, false, List, [], ◌∷◌, length, refl, sym, ◌∙◌, ap, subst, eqb-true, eq-eqb, true≢false, inl, inr}
use Rattle.std.specs.List.{AllByRecursion}
use Rattle.tatp_history.specs.declared.observed.Observed.{Observed}
use Rattle.tatp_history.specs.Histories.{IsIn, AreAskedApart}
use Rattle.tatp_history.specs.JustInTime.{Chooses, NoneAskedAt}
use Rattle.tatp_history.proofs.OrderLaws.{all_in, in_all}

pub chosen_in : (xs : List Observed) (x : Observed) (rest : List Observed) → Chooses xs x rest → IsIn x xs
chosen_in [] x rest c = c
chosen_in (y ∷ ys) x rest c = elim c [ inl p ↦ inl p.0 | inr p ↦ inr (chosen_in ys x p.0 p.2) ]

pub rest_in : (xs : List Observed) (x : Observed) (rest : List Observed) → Chooses xs x rest → (z : Observed) → IsIn z rest → IsIn z xs
rest_in [] x rest c z h = absurd c
rest_in (y ∷ ys) x rest c z h = elim c [
  | inl p ↦ inr (subst (IsIn z) p.1 h)
  | inr p ↦ let k : IsIn z (y ∷ p.0) = subst (IsIn z) p.1 h in elim k [ inl e ↦ inl e | inr q ↦ inr (rest_in ys x p.0 p.2 z q) ]
]

pub in_cases : (xs : List Observed) (x : Observed) (rest : List Observed) → Chooses xs x rest → (z : Observed) → IsIn z xs → (z ≡ x) ⊎ IsIn z rest
in_cases [] x rest c z h = absurd c
in_cases (y ∷ ys) x rest c z h = elim c [
  | inl p ↦ elim h [ inl e ↦ inl (e ∙ sym p.0) | inr q ↦ inr (subst (IsIn z) (sym p.1) q) ]
  | inr p ↦ elim h [
    | inl e ↦ inr (subst (IsIn z) (sym p.1) (inl e))
    | inr q ↦ elim (in_cases ys x p.0 p.2 z q) [ inl e ↦ inl e | inr k ↦ inr (subst (IsIn z) (sym p.1) (inr k)) ]
  ]
]

pub chooses_some : (xs : List Observed) (x : Observed) → IsIn x xs → (rest : List Observed) × Chooses xs x rest
chooses_some [] x h = absurd h
chooses_some (y ∷ ys) x h = elim h [
  | inl e ↦ (ys, inl (e, refl))
  | inr q ↦ let more = chooses_some ys x q in (y ∷ more.0, inr (more.0, refl, more.1))
]

abbrev pub AreOther : Observed → List Observed → Type 0
AreOther x rest = AllByRecursion (λ (y : Observed). x.asked ≡ y.asked → ⊥) rest

pub chooses_apart : (xs : List Observed) (x : Observed) (rest : List Observed) → Chooses xs x rest → AreAskedApart xs → AreOther x rest × AreAskedApart rest
chooses_apart [] x rest c a = absurd c
chooses_apart (y ∷ ys) x rest c a = elim c [
  | inl p ↦ subst (λ zs. AreOther x zs × AreAskedApart zs) (sym p.1) (subst (λ (z : Observed). AreOther z ys) (sym p.0) a.0, a.1)
  | inr p ↦ let more = chooses_apart ys x p.0 p.2 a.1 in
      subst (λ zs. AreOther x zs × AreAskedApart zs) (sym p.1) (
        (λ e. in_all (λ (w : Observed). y.asked ≡ w.asked → ⊥) x ys a.0 (chosen_in ys x p.0 p.2) (sym e), more.0),
        (all_in (λ (w : Observed). y.asked ≡ w.asked → ⊥) p.0 (λ w h. in_all (λ (w : Observed). y.asked ≡ w.asked → ⊥) w ys a.0 (rest_in ys x p.0 p.2 w h)), more.1),
      )
]

pub chooses_length : (xs : List Observed) (x : Observed) (rest : List Observed) → Chooses xs x rest → length xs ≡ suc (length rest)
chooses_length [] x rest c = absurd c
chooses_length (y ∷ ys) x rest c = elim c [
  | inl p ↦ ap (λ zs. suc (length zs)) (sym p.1)
  | inr p ↦ ap suc (chooses_length ys x p.0 p.2) ∙ ap (λ zs. suc (length zs)) (sym p.1)
]

-- an open call that was asked at a time, or none
pub find_asked : (time : ℕ) (xs : List Observed) → NoneAskedAt time xs ⊎ ((x : Observed) × IsIn x xs × (x.asked ≡ time))
find_asked time [] = inl tt
find_asked time (x ∷ xs) = elim (x.asked == time) as (λ b. (x.asked == time) ≡ b → NoneAskedAt time (x ∷ xs) ⊎ ((y : Observed) × IsIn y (x ∷ xs) × (y.asked ≡ time))) [
  | true ↦ λ e. inr (x, inl refl, eqb-true x.asked time e)
  | false ↦ λ e. elim (find_asked time xs) [
    | inl none ↦ inl (λ d. true≢false (sym (eq-eqb x.asked time d) ∙ e), none)
    | inr some ↦ inr (some.0, inr some.1, some.2)
  ]
] refl
