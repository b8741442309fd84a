-- Open calls without those that change nothing and whose reply fits.
use Rattle.std.proofs.Common.{◌≡◌, suc, ◌≤◌, List, [], ◌∷◌, ◌++◌, length, refl, sym, ◌∙◌, ap, subst, arith, inl, inr}
use Rattle.std.specs.List.{AllByRecursion}
use Rattle.tatp_tables.specs.Database.{Database}
use Rattle.tatp_history.specs.declared.event.Event.{Event}
use Rattle.tatp_history.specs.declared.observed.Observed.{Observed}
use Rattle.tatp_history.specs.Events.{HaveEnds}
use Rattle.tatp_history.specs.JustInTime.{Chooses, AreOpen}
use Rattle.tatp_history.specs.Remaining.{HasOrder}
use Rattle.tatp_history.proofs.RemainingLaws.{open_chosen}
use Rattle.tatp_history.proofs.ChangeLaws.{unchanged}
use Rattle.tatp_history.proofs.UnchangingLaws.{without_unchanging}
use Rattle.tatp_linearization.specs.AtOnce.{FitsAtOnce, AreLeft}
use Rattle.tatp_linearization.proofs.DecisionLaws.{fits_or_not}

-- ---- lists
pub chooses_mid : (before more : List Observed) (x : Observed) → Chooses (before ++ x ∷ more) x (before ++ more)
chooses_mid [] more x = inl (refl, refl)
chooses_mid (y ∷ before) more x = inr (before ++ more, refl, chooses_mid before more x)

pub shift : {X : Type 0} (before : List X) (x : X) (more : List X) → before ++ x ∷ more ≡ (before ++ x ∷ []) ++ more
shift [] x more = refl
shift (y ∷ before) x more = ap (λ zs. y ∷ zs) (shift before x more)

-- ---- what is left
pub left_exists : (u : Database) (xs : List Observed) → (left : List Observed) × AreLeft u xs left
left_exists u [] = ([], refl)
left_exists u (x ∷ xs) = let rest = left_exists u xs in elim (fits_or_not u x) [
  | inl f ↦ (rest.0, inl (f, rest.1))
  | inr n ↦ (x ∷ rest.0, inr (n, (rest.0, refl, rest.1)))
]

pub left_unique : (u : Database) (xs left others : List Observed) → AreLeft u xs left → AreLeft u xs others → left ≡ others
left_unique u [] left others a b = a ∙ sym b
left_unique u (x ∷ xs) left others a b = elim a [
  | inl k ↦ elim b [
    | inl q ↦ left_unique u xs left others k.1 q.1
    | inr q ↦ absurd (q.0 k.0)
  ]
  | inr k ↦ elim b [
    | inl q ↦ absurd (k.0 q.0)
    | inr q ↦ k.1.1 ∙ (ap (λ zs. x ∷ zs) (left_unique u xs k.1.0 q.1.0 k.1.2 q.1.2) ∙ sym q.1.1)
  ]
]

pub left_settled : (u : Database) (xs left : List Observed) → AreLeft u xs left → AllByRecursion (λ (x : Observed). FitsAtOnce u x → ⊥) left
left_settled u [] left a = subst (AllByRecursion (λ (x : Observed). FitsAtOnce u x → ⊥)) (sym a) tt
left_settled u (x ∷ xs) left a = elim a [
  | inl k ↦ left_settled u xs left k.1
  | inr k ↦ subst (AllByRecursion (λ (y : Observed). FitsAtOnce u y → ⊥)) (sym k.1.1) (k.0, left_settled u xs k.1.0 k.1.2)
]

pub left_all : (P : Observed → Type 0) (u : Database) (xs left : List Observed) → AreLeft u xs left → AllByRecursion P xs → AllByRecursion P left
left_all P u [] left a h = subst (AllByRecursion P) (sym a) tt
left_all P u (x ∷ xs) left a h = elim a [
  | inl k ↦ left_all P u xs left k.1 h.1
  | inr k ↦ subst (AllByRecursion P) (sym k.1.1) (h.0, left_all P u xs k.1.0 k.1.2 h.1)
]

pub left_shorter : (u : Database) (xs left : List Observed) → AreLeft u xs left → length left ≤ length xs
left_shorter u [] left a = subst (λ zs. length zs ≤ 0) (sym a) (omega arith)
left_shorter u (x ∷ xs) left a = elim a [
  | inl k ↦ let less = left_shorter u xs left k.1 in omega (arith, less)
  | inr k ↦ let less = left_shorter u xs k.1.0 k.1.2 in subst (λ zs. length zs ≤ suc (length xs)) (sym k.1.1) (omega (arith, less))
]

-- ---- open calls, and orders of what remains
pub left_open : (events : List Event) (u : Database) (before xs left : List Observed) → AreLeft u xs left → AreOpen events (before ++ xs) → AreOpen events (before ++ left)
left_open events u before [] left a are = subst (λ zs. AreOpen events (before ++ zs)) (sym a) are
left_open events u before (x ∷ xs) left a are = elim a [
  | inl k ↦ left_open events u before xs left k.1 (open_chosen events (before ++ x ∷ xs) x (before ++ xs) (chooses_mid before xs x) are)
  | inr k ↦ subst (λ zs. AreOpen events (before ++ zs)) (sym k.1.1) (subst (AreOpen events) (sym (shift before x k.1.0))
      (left_open events u (before ++ x ∷ []) xs k.1.0 k.1.2 (subst (AreOpen events) (shift before x xs) are)))
]

module _ (Q : Database → Type 0) (events : List Event) (have : HaveEnds events) (u : Database) where
  pub left_order : (before xs left : List Observed) → AreLeft u xs left → AreOpen events (before ++ xs) → HasOrder Q u events (before ++ xs) → HasOrder Q u events (before ++ left)
  left_order before [] left a are h = subst (λ zs. HasOrder Q u events (before ++ zs)) (sym a) h
  left_order before (x ∷ xs) left a are h = elim a [
    | inl k ↦ let c = chooses_mid before xs x in
        left_order before xs left k.1 (open_chosen events (before ++ x ∷ xs) x (before ++ xs) c are)
        (without_unchanging events (before ++ x ∷ xs) x (before ++ xs) c are Q u (unchanged x k.0.0) h)
    | inr k ↦ subst (λ zs. HasOrder Q u events (before ++ zs)) (sym k.1.1) (subst (λ zs. HasOrder Q u events zs) (sym (shift before x k.1.0))
        (left_order (before ++ x ∷ []) xs k.1.0 k.1.2 (subst (AreOpen events) (shift before x xs) are) (subst (λ zs. HasOrder Q u events zs) (shift before x xs) h)))
  ]
