-- Replies in a list.
use Rattle.std.proofs.Common.{◌≡◌, ℕ, zero, suc, ◌+◌, ◌<◌, ◌≤◌, ◌⊎◌, ◌↔◌, List, [], ◌∷◌, ◌++◌, length, Some, slice_get, sym, ap, subst, arith, inl, inr}
use Rattle.tatp_calls.specs.declared.reply.Reply.{Reply}
use Rattle.tatp_history.specs.declared.event.Event.{Event}
use Rattle.tatp_linearization.specs.declared.explanations.Explanations.{Explanations}
use Rattle.tatp_linearization.specs.Listed.{IsListed, AreEachOnce, IsExplainedBy, IsUnexplainedBy, AreSifted}
use Rattle.tatp_linearization.proofs.PlaceLaws.{below_or_is, same_item}

pub get_listed : (replies : List Reply) (i : ℕ) (reply : Reply) → slice_get replies i ≡ Some reply → IsListed reply replies
get_listed [] i reply e = absurd cc
get_listed (x ∷ xs) zero reply e = let is : x ≡ reply = cc in inl (sym is)
get_listed (x ∷ xs) (suc i) reply e = inr (get_listed xs i reply e)

pub listed_get : (replies : List Reply) (reply : Reply) → IsListed reply replies → (i : ℕ) × (i < length replies) × (slice_get replies i ≡ Some reply)
listed_get [] reply h = absurd h
listed_get (x ∷ xs) reply h = elim h [
  | inl e ↦ (0, omega arith, ap Some (sym e))
  | inr k ↦ let r = listed_get xs reply k in let lt = r.1 in (suc r.0, omega (arith, lt), r.2)
]

pub listed_more : (replies : List Reply) (reply other : Reply) → IsListed other (replies ++ reply ∷ []) ↔ (IsListed other replies ⊎ (other ≡ reply))
listed_more [] reply other = (λ h. elim h [ inl e ↦ inr e | inr k ↦ absurd k ], λ h. elim h [ inl k ↦ absurd k | inr e ↦ inl e ])
listed_more (x ∷ xs) reply other = let rest = listed_more xs reply other in (
  λ h. elim h [ inl e ↦ inl (inl e) | inr k ↦ elim (rest.0 k) [ inl q ↦ inl (inr q) | inr e ↦ inr e ] ],
  λ h. elim h [ inl k ↦ elim k [ inl e ↦ inl e | inr q ↦ inr (rest.1 (inl q)) ] | inr e ↦ inr (rest.1 (inr e)) ],
)

pub once_more : (replies : List Reply) (reply : Reply) → AreEachOnce replies → (IsListed reply replies → ⊥) → AreEachOnce (replies ++ reply ∷ [])
once_more [] reply once new = ((λ h. h), tt)
once_more (x ∷ xs) reply once new = (
  λ h. elim ((listed_more xs reply x).0 h) [ inl k ↦ once.0 k | inr e ↦ new (inl (sym e)) ],
  once_more xs reply once.1 (λ k. new (inr k)),
)

-- ---- the first replies, sifted
pub record Sifting (explanations : Explanations) (told : Reply → List Event) (replies : List Reply) (i : ℕ) (legal : List Reply) : Type 0 where
  pub sound : (reply : Reply) → IsListed reply legal → IsExplainedBy explanations (told reply)
  pub found : (j : ℕ) (reply : Reply) → j < i → slice_get replies j ≡ Some reply → IsListed reply legal ⊎ IsUnexplainedBy explanations (told reply)
  pub once : AreEachOnce legal

pub sifting_none : (explanations : Explanations) (told : Reply → List Event) (replies : List Reply) → Sifting explanations told replies 0 []
sifting_none explanations told replies = record { sound = λ r h. absurd h; found = λ j r lt at. absurd (omega (arith, lt)); once = tt }

pub sifting_added : (explanations : Explanations) (told : Reply → List Event) (replies : List Reply) (i : ℕ) (reply : Reply) (before new : List Reply) → slice_get replies i ≡ Some reply → Sifting explanations told replies i before → IsExplainedBy explanations (told reply)
    → ((other : Reply) → IsListed other new ↔ (IsListed other before ⊎ (other ≡ reply))) → (AreEachOnce before → AreEachOnce new) → Sifting explanations told replies (i + 1) new
sifting_added explanations told replies i reply before new at p explains added once = record {
  sound = λ r h. elim ((added r).0 h) [ inl k ↦ p.sound r k | inr e ↦ subst (λ q. IsExplainedBy explanations (told q)) (sym e) explains ];
  found = λ j r lt there. elim (below_or_is j i lt) [
    | inl k ↦ elim (p.found j r k there) [ inl q ↦ inl ((added r).1 (inl q)) | inr q ↦ inr q ]
    | inr e ↦ inl ((added r).1 (inr (same_item replies i r reply (subst (λ k. slice_get replies k ≡ Some r) e there) at)))
  ];
  once = once p.once;
}

pub sifting_same : (explanations : Explanations) (told : Reply → List Event) (replies : List Reply) (i : ℕ) (reply : Reply) (legal : List Reply) → slice_get replies i ≡ Some reply → Sifting explanations told replies i legal → IsUnexplainedBy explanations (told reply)
    → Sifting explanations told replies (i + 1) legal
sifting_same explanations told replies i reply legal at p fails = record {
  sound = p.sound;
  found = λ j r lt there. elim (below_or_is j i lt) [
    | inl k ↦ p.found j r k there
    | inr e ↦ inr (subst (λ q. IsUnexplainedBy explanations (told q)) (sym (same_item replies i r reply (subst (λ k. slice_get replies k ≡ Some r) e there) at)) fails)
  ];
  once = p.once;
}

pub sifting_all : (explanations : Explanations) (told : Reply → List Event) (replies : List Reply) (i : ℕ) (legal : List Reply) → Sifting explanations told replies i legal → length replies ≤ i → AreSifted explanations told replies legal
sifting_all explanations told replies i legal p le = record {
  sound = p.sound;
  found = λ r h. let there = listed_get replies r h in let lt = there.1 in p.found there.0 r (omega (arith, lt, le)) there.2;
  once = p.once;
}
