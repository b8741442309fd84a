-- Calls that are blind, calls that overwrite them, and the time before which they may be left out.
use Rattle.std.proofs.Common.{◌≡◌, ℕ, ◌+◌, ◌<◌, ◌≤◌, ◌==◌, ◌⊎◌, ◌↔◌, Bool, ◌&&◌, true, false, is_some, eq-eqb, eqb-true, List, [], ◌∷◌, take, Some, slice_get, refl, sym, ap, ◌∙◌, subst, true≢false, arith, inl, inr}
use Rattle.tatp_tables.specs.Keys.{row_at, row_with_number}
use Rattle.tatp_tables.specs.Database.{Database}
use Rattle.tatp_calls.specs.declared.call.Call.{Call}
use Rattle.tatp_calls.specs.declared.call.Call.TheVariants.{UpdateSubscriberData, UpdateLocation}
use Rattle.tatp_history.specs.declared.observed.Observed.{Observed}
use Rattle.tatp_linearization.specs.Overwritten.{SetsLocation, SetsBoth, IsBlind, Overwrites, IsNeedless, AreOut}
use Rattle.tatp_linearization.proofs.PlaceLaws.{all_more, take_more}

-- ---- blind calls
module _ (u : Database) (call : Call) where
  abbrev pub SetsBlindly : Type 0
  SetsBlindly = SetsLocation u call ⊎ SetsBoth u call

  pub sets_by : (n v : ℕ) (b : Bool) → call ≡ UpdateLocation n v → b ≡ is_some (row_with_number u.subscribers n) → (b ≡ true) ↔ SetsBlindly
  sets_by n v b is named = (
    λ yes. inl (record { number = n; location = v; updates = is; named = sym named ∙ yes }),
    λ h. elim h [
      | inl l ↦
          let same : UpdateLocation n v ≡ UpdateLocation l.number l.location = sym is ∙ l.updates in
          let one : l.number ≡ n = cc in
          named ∙ subst (λ m. is_some (row_with_number u.subscribers m) ≡ true) one l.named
      | inr d ↦ let same : UpdateLocation n v ≡ UpdateSubscriberData d.s_id d.bit d.sf_type d.value = sym is ∙ d.updates in absurd cc
    ],
  )

  pub sets_of : (s x t y : ℕ) (a b : Bool) → call ≡ UpdateSubscriberData s x t y → a ≡ is_some (row_at u.subscribers (s ∷ [])) → b ≡ is_some (row_at u.facilities (s ∷ t ∷ [])) → ((a && b) ≡ true) ↔ SetsBlindly
  sets_of s x t y a b is subscriber facility = (
    λ yes. let own = parts a b yes in inr (record { s_id = s; bit = x; sf_type = t; value = y; updates = is; subscriber = sym subscriber ∙ own.0; facility = sym facility ∙ own.1 }),
    λ h. elim h [
      | inl l ↦ let same : UpdateSubscriberData s x t y ≡ UpdateLocation l.number l.location = sym is ∙ l.updates in absurd cc
      | inr d ↦
          let same : UpdateSubscriberData s x t y ≡ UpdateSubscriberData d.s_id d.bit d.sf_type d.value = sym is ∙ d.updates in
          let own : d.s_id ≡ s = cc in
          let kind : d.sf_type ≡ t = cc in
          both a b (subscriber ∙ subst (λ m. is_some (row_at u.subscribers (m ∷ [])) ≡ true) own d.subscriber)
          (facility ∙ ((λ i. is_some (row_at u.facilities (sym own i ∷ sym kind i ∷ []))) ∙ d.facility))
    ],
  )
    where
      parts : (p q : Bool) → (p && q) ≡ true → (p ≡ true) × (q ≡ true)
      parts true q e = (refl, e)
      parts false q e = absurd (true≢false (sym e))

      both : (p q : Bool) → p ≡ true → q ≡ true → (p && q) ≡ true
      both true q e f = f
      both false q e f = absurd (true≢false (sym e))

  pub sets_none : ((n v : ℕ) → call ≡ UpdateLocation n v → ⊥) → ((s x t y : ℕ) → call ≡ UpdateSubscriberData s x t y → ⊥) → (false ≡ true) ↔ SetsBlindly
  sets_none other another = (
    λ e. absurd (true≢false (sym e)),
    λ h. elim h [
      | inl l ↦ absurd (other l.number l.location l.updates)
      | inr d ↦ absurd (another d.s_id d.bit d.sf_type d.value d.updates)
    ],
  )

-- ---- calls that overwrite
pub location_by : (z : Call) (own v number : ℕ) → z ≡ UpdateLocation own v → ((own == number) ≡ true) ↔ ((location : ℕ) × (z ≡ UpdateLocation number location))
location_by z own v number is = (
  λ yes. (v, is ∙ ap (λ n. UpdateLocation n v) (eqb-true own number yes)),
  λ h.
      let same : UpdateLocation own v ≡ UpdateLocation number h.0 = sym is ∙ h.1 in
      let one : own ≡ number = cc in
      eq-eqb own number one,
)

pub overwrites_location : (x z : Call) (n v : ℕ) (b : Bool) → x ≡ UpdateLocation n v → ((b ≡ true) ↔ ((location : ℕ) × (z ≡ UpdateLocation n location))) → (b ≡ true) ↔ Overwrites x z
overwrites_location x z n v b is law = (
  λ yes. let own = law.0 yes in inl (record { number = n; location = v; other = own.0; first = is; second = own.1 }),
  λ o. elim o [
    | inl p ↦
        let same : UpdateLocation n v ≡ UpdateLocation p.number p.location = sym is ∙ p.first in
        let one : p.number ≡ n = cc in
        law.1 (p.other, p.second ∙ ap (λ m. UpdateLocation m p.other) one)
    | inr p ↦ let same : UpdateLocation n v ≡ UpdateSubscriberData p.s_id p.bit p.sf_type p.value = sym is ∙ p.first in absurd cc
  ],
)

pub overwrites_both : (x z : Call) (s bit t y : ℕ) (b : Bool) → x ≡ UpdateSubscriberData s bit t y → ((b ≡ true) ↔ ((other : ℕ) × (value : ℕ) × (z ≡ UpdateSubscriberData s other t value))) → (b ≡ true) ↔ Overwrites x z
overwrites_both x z s bit t y b is law = (
  λ yes. let own = law.0 yes in inr (record { s_id = s; sf_type = t; bit = bit; value = y; other_bit = own.0; other_value = own.1; first = is; second = own.2 }),
  λ o. elim o [
    | inl p ↦ let same : UpdateSubscriberData s bit t y ≡ UpdateLocation p.number p.location = sym is ∙ p.first in absurd cc
    | inr p ↦
        let same : UpdateSubscriberData s bit t y ≡ UpdateSubscriberData p.s_id p.bit p.sf_type p.value = sym is ∙ p.first in
        let own : p.s_id ≡ s = cc in
        let kind : p.sf_type ≡ t = cc in
        law.1 (p.other_bit, p.other_value, p.second ∙ (λ i. UpdateSubscriberData (own i) p.other_bit (kind i) p.other_value))
  ],
)

pub overwrites_none : (x z : Call) → ((n v : ℕ) → x ≡ UpdateLocation n v → ⊥) → ((s bit t y : ℕ) → x ≡ UpdateSubscriberData s bit t y → ⊥) → (false ≡ true) ↔ Overwrites x z
overwrites_none x z other another = (
  λ e. absurd (true≢false (sym e)),
  λ o. elim o [
    | inl p ↦ absurd (other p.number p.location p.first)
    | inr p ↦ absurd (another p.s_id p.bit p.sf_type p.value p.first)
  ],
)

-- ---- the time
module _ (u : Database) (x : Call) (before : ℕ) where
  -- before an earlier time no more may be left out
  out_earlier : (first lower : ℕ) → lower ≤ first → (zs : List Observed) → AreOut u x before first zs → AreOut u x before lower zs
  out_earlier first lower le [] h = tt
  out_earlier first lower le (z ∷ zs) h = ((λ lt b. h.0 (omega (arith, lt, le)) b), out_earlier first lower le zs h.1)

  out_more : (first : ℕ) (xs : List Observed) (i : ℕ) (z : Observed) → slice_get xs i ≡ Some z → (z.asked < first → IsBlind u z → (z.asked < before) ⊎ IsNeedless u x z.call) → AreOut u x before first (take i xs) → AreOut u x before first (take (i + 1) xs)
  out_more first xs i z at own all = subst (AreOut u x before first) (sym (take_more xs i z at))
      (all_more (λ (y : Observed). y.asked < first → IsBlind u y → (y.asked < before) ⊎ IsNeedless u x y.call) (take i xs) z all own)

  -- one call more, which goes with an earlier time
  pub out_lower : (xs : List Observed) (i : ℕ) (z : Observed) (first : ℕ) → slice_get xs i ≡ Some z → z.asked < first → AreOut u x before first (take i xs) → AreOut u x before z.asked (take (i + 1) xs)
  out_lower xs i z first at lt all = out_more z.asked xs i z at (λ self b. absurd (omega (arith, self))) (out_earlier first z.asked (omega (arith, lt)) (take i xs) all)

  -- one call more, which may be left out
  pub out_same : (xs : List Observed) (i : ℕ) (z : Observed) (first : ℕ) → slice_get xs i ≡ Some z → (z.asked < first → IsBlind u z → (z.asked < before) ⊎ IsNeedless u x z.call) → AreOut u x before first (take i xs) → AreOut u x before first (take (i + 1) xs)
  out_same xs i z first at own all = out_more first xs i z at own all
