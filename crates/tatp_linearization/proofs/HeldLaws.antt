-- Lists of configurations, and what is added to them.
use Rattle.std.proofs.Common.{◌≡◌, ℕ, zero, suc, ◌<◌, ◌≤◌, ◌⊎◌, ◌↔◌, List, [], ◌∷◌, ◌++◌, length, Some, Ok, slice_get, remove, refl, sym, ap, subst, arith, inl, inr}
use Rattle.std.specs.List.{AllByRecursion}
use Rattle.tatp_calls.specs.Arguments.{arguments_accepted}
use Rattle.tatp_calls.specs.Transactions.{transaction}
use Rattle.tatp_history.specs.declared.observed.Observed.{Observed}
use Rattle.tatp_history.specs.Locality.{AreAccepted}
use Rattle.tatp_history.specs.Configurations.{Configuration}
use Rattle.tatp_linearization.specs.declared.configuration.Configuration.{Configuration as Held}
use Rattle.tatp_linearization.specs.Possible.{AreDistinct, AreMoreThan}
use Rattle.tatp_linearization.specs.Held.{seen, all_seen, Has, AreApart, Takes, Adds, IsOldOr}
use Rattle.tatp_linearization.proofs.PlaceLaws.{all_remove, all_more}
use Rattle.tatp_linearization.proofs.SettlingLaws.{left_all}

-- ---- lists
pub has_more : (cs : List Held) (c : Held) (d : Configuration) → Has (cs ++ c ∷ []) d ↔ (Has cs d ⊎ (d ≡ seen c))
has_more [] c d = (λ h. elim h [ inl e ↦ inr e | inr k ↦ absurd k ], λ h. elim h [ inl k ↦ absurd k | inr e ↦ inl e ])
has_more (b ∷ bs) c d = let rest = has_more bs c d in (
  λ h. elim h [ inl e ↦ inl (inl e) | inr k ↦ elim (rest.0 k) [ inl q ↦ inl (inr q) | inr e ↦ inr e ] ],
  λ h. elim h [ inl k ↦ elim k [ inl e ↦ inl e | inr q ↦ inr (rest.1 (inl q)) ] | inr e ↦ inr (rest.1 (inr e)) ],
)

-- ---- configurations of one home, each once
pub own_more : (s : ℕ) (cs : List Held) (d : Held) → AreApart s cs → d.home.s_id ≡ s → (Has cs (seen d) → ⊥) → AreApart s (cs ++ d ∷ [])
own_more s cs d apart own new = record { own = all_more (λ (c : Held). c.home.s_id ≡ s) cs d apart.own own; distinct = more cs apart.distinct new }
  where
    others : (c : Configuration) (bs : List Held) → AllByRecursion (λ (e : Configuration). c ≡ e → ⊥) (all_seen bs) → (c ≡ seen d → ⊥) → AllByRecursion (λ (e : Configuration). c ≡ e → ⊥) (all_seen (bs ++ d ∷ []))
    others c [] h n = (n, tt)
    others c (b ∷ bs) h n = (h.0, others c bs h.1 n)

    more : (bs : List Held) → AreDistinct (all_seen bs) → (Has bs (seen d) → ⊥) → AreDistinct (all_seen (bs ++ d ∷ []))
    more [] h n = (tt, tt)
    more (b ∷ bs) h n = (others (seen b) bs h.0 (λ e. n (inl (sym e))), more bs h.1 (λ k. n (inr k)))

pub not_has : (cs : List Held) (d : Configuration) → (Has cs d → ⊥) → AllByRecursion (λ (e : Configuration). d ≡ e → ⊥) (all_seen cs)
not_has [] d n = tt
not_has (c ∷ cs) d n = ((λ e. n (inl e)), not_has cs d (λ k. n (inr k)))

all_has : (cs : List Held) (P : Configuration → Type 0) → ((d : Configuration) → Has cs d → P d) → AllByRecursion P (all_seen cs)
all_has [] P f = tt
all_has (c ∷ cs) P f = (f (seen c) (inl refl), all_has cs P (λ d h. f d (inr h)))

length_seen : (cs : List Held) → length (all_seen cs) ≡ length cs
length_seen [] = refl
length_seen (c ∷ cs) = ap suc (length_seen cs)

-- one more than are kept
pub one_too_many : (most s : ℕ) (cs : List Held) (d : Held) → most ≤ length cs → AreApart s cs → (Has cs (seen d) → ⊥) → AreMoreThan most (IsOldOr cs (λ e. e ≡ seen d))
one_too_many most s cs d full apart new = let size = length_seen cs in record {
  some = seen d ∷ all_seen cs;
  many = omega (arith, full, size);
  distinct = (not_has cs (seen d) new, apart.distinct);
  hold = (inr refl, all_has cs (IsOldOr cs (λ e. e ≡ seen d)) (λ e h. inl h));
}

-- ---- what is added
pub added_pushed : (old new : List Held) (c : Held) → new ≡ old ++ c ∷ [] → Adds old (λ e. e ≡ seen c) new
added_pushed old new c pushed d = (
  λ h. (has_more old c d).0 (subst (λ cs. Has cs d) pushed h),
  λ h. subst (λ cs. Has cs d) (sym pushed) ((has_more old c d).1 h),
)

pub ready_after : (c d : Held) (i : ℕ) → Takes c i (Some d) → AreAccepted c.opened.items → AreAccepted d.opened.items
ready_after c d i taken accepted =
    let accepts : Observed → Type 0 = λ (y : Observed). arguments_accepted y.call ≡ Ok tt in
    left_all accepts (transaction taken.0.call c.home.tables).database (remove c.opened.items i) d.opened.items taken.1.settled (all_remove accepts c.opened.items i accepted)

-- ---- places
pub get_has : (set : List Held) (i : ℕ) (c : Held) → slice_get set i ≡ Some c → Has set (seen c)
get_has [] i c at = absurd cc
get_has (b ∷ bs) zero c at = let is : b ≡ c = cc in inl (ap seen (sym is))
get_has (b ∷ bs) (suc i) c at = inr (get_has bs i c at)

pub has_get : (set : List Held) (d : Configuration) → Has set d → (i : ℕ) × (i < length set) × (c : Held) × (slice_get set i ≡ Some c) × (d ≡ seen c)
has_get [] d h = absurd h
has_get (b ∷ bs) d h = elim h [
  | inl e ↦ (0, omega arith, b, refl, e)
  | inr k ↦ let r = has_get bs d k in let lt = r.1 in (suc r.0, omega (arith, lt), r.2, r.3, r.4)
]
