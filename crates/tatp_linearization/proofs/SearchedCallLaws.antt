-- Calls, and a home, with data_a cleared, as the search makes them.
use Rattle.std.proofs.Common.{◌≡◌, ℕ, Bool, true, false, cond, is_some, [], ◌∷◌, Some, None, find, refl, sym, ◌∙◌, ap, subst}
use Rattle.tatp_tables.specs.Tuples.{Tuples}
use Rattle.tatp_tables.specs.Keys.{row_at}
use Rattle.tatp_tables.specs.Database.{Database}
use Rattle.tatp_homes.specs.Home.{SubscriberRows, IsHome}
use Rattle.tatp_homes.specs.Changes.{put_tables}
use Rattle.tatp_calls.specs.declared.call.Call.{Call}
use Rattle.tatp_calls.specs.declared.call.Call.TheVariants.{GetSubscriberData, GetNewDestination, GetAccessData, UpdateSubscriberData, UpdateLocation, InsertCallForwarding, DeleteCallForwarding}
use Rattle.tatp_history.specs.Cleared.{first_type, bit_alone, cleared_call, cleared_at, IsCleared}
use Rattle.tatp_history.proofs.ClearedHomeLaws.{home_cleared}

-- ---- the first of the types that passes
module _ (p : ℕ → Bool) where
  pub first_is : p 1 ≡ true → find p (1 ∷ 2 ∷ 3 ∷ 4 ∷ []) ≡ Some 1
  first_is a = ap (λ b. cond b (Some 1) (find p (2 ∷ 3 ∷ 4 ∷ []))) a

  pub second_is : p 1 ≡ false → p 2 ≡ true → find p (1 ∷ 2 ∷ 3 ∷ 4 ∷ []) ≡ Some 2
  second_is a b = ap (λ q. cond q (Some 1) (find p (2 ∷ 3 ∷ 4 ∷ []))) a ∙ ap (λ q. cond q (Some 2) (find p (3 ∷ 4 ∷ []))) b

  pub third_is : p 1 ≡ false → p 2 ≡ false → p 3 ≡ true → find p (1 ∷ 2 ∷ 3 ∷ 4 ∷ []) ≡ Some 3
  third_is a b c = ap (λ q. cond q (Some 1) (find p (2 ∷ 3 ∷ 4 ∷ []))) a ∙ (ap (λ q. cond q (Some 2) (find p (3 ∷ 4 ∷ []))) b ∙ ap (λ q. cond q (Some 3) (find p (4 ∷ []))) c)

  -- the last one, or none
  pub last_is : (passes : Bool) → p 1 ≡ false → p 2 ≡ false → p 3 ≡ false → p 4 ≡ passes → find p (1 ∷ 2 ∷ 3 ∷ 4 ∷ []) ≡ cond passes (Some 4) None
  last_is passes a b c d =
      ap (λ q. cond q (Some 1) (find p (2 ∷ 3 ∷ 4 ∷ []))) a
      ∙ (ap (λ q. cond q (Some 2) (find p (3 ∷ 4 ∷ []))) b ∙ (ap (λ q. cond q (Some 3) (find p (4 ∷ []))) c ∙ ap (λ q. cond q (Some 4) None) d))

-- ---- a call
module _ (fs : Tuples) where
  -- whose facility isn't there
  pub call_kept : (s x t y : ℕ) (call : Call) → call ≡ UpdateSubscriberData s x t y → is_some (row_at fs (s ∷ t ∷ [])) ≡ false → call ≡ cleared_call fs call
  call_kept s x t y call is none = subst (λ (k : Call). k ≡ cleared_call fs k) (sym is)
      (ap (λ b. cond b (bit_alone (UpdateSubscriberData s x t y) s x (first_type fs s)) (UpdateSubscriberData s x t y)) (sym none))

  -- whose facility is there
  pub call_alone : (s x t y : ℕ) (call new : Call) → call ≡ UpdateSubscriberData s x t y → is_some (row_at fs (s ∷ t ∷ [])) ≡ true → new ≡ bit_alone call s x (first_type fs s) → new ≡ cleared_call fs call
  call_alone s x t y call new is there e =
      e ∙ subst (λ (k : Call). bit_alone k s x (first_type fs s) ≡ cleared_call fs k) (sym is)
      (ap (λ b. cond b (bit_alone (UpdateSubscriberData s x t y) s x (first_type fs s)) (UpdateSubscriberData s x t y)) (sym there))

  -- any other
  pub call_other : (call : Call) → ((s x t y : ℕ) → call ≡ UpdateSubscriberData s x t y → ⊥) → call ≡ cleared_call fs call
  call_other (GetSubscriberData s) other = refl
  call_other (GetNewDestination s t b e) other = refl
  call_other (GetAccessData s t) other = refl
  call_other (UpdateSubscriberData s x t y) other = absurd (other s x t y refl)
  call_other (UpdateLocation n v) other = refl
  call_other (InsertCallForwarding n t b e x) other = refl
  call_other (DeleteCallForwarding n t b) other = refl

-- ---- a home
module _ (home : SubscriberRows) (is : IsHome home) (copied : SubscriberRows) (same : copied ≡ home) where
  pub home_put : (own first : ℕ) (after : Database) → own ≡ home.s_id → first_type home.tables.facilities home.s_id ≡ Some first → after ≡ put_tables copied.tables 44 (own ∷ first ∷ 0 ∷ []) 0 → IsCleared home.tables after
  home_put own first after own_is found e =
      let put : put_tables copied.tables 44 (own ∷ first ∷ 0 ∷ []) 0 ≡ put_tables home.tables 44 (home.s_id ∷ first ∷ 0 ∷ []) 0 = λ i. put_tables (same i).tables 44 (own_is i ∷ first ∷ 0 ∷ []) 0 in
      subst (IsCleared home.tables) (sym (e ∙ (put ∙ ap (cleared_at home.tables home.s_id) (sym found)))) (home_cleared home is)

  pub home_kept : first_type home.tables.facilities home.s_id ≡ None → IsCleared home.tables copied.tables
  home_kept none = subst (IsCleared home.tables) (ap (cleared_at home.tables home.s_id) none ∙ sym (ap (λ (h : SubscriberRows). h.tables) same)) (home_cleared home is)
