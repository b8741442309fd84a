-- A call that changes nothing, and whose reply fits, may take effect at once.
use Rattle.std.proofs.Common.{◌≡◌, ℕ, ◌<◌, ◌↔◌, ◌==◌, not, Bool, true, false, cond, List, [], ◌∷◌, filter, refl, sym, ◌∙◌, ap, subst, arith, eqb-true, eq-eqb, true≢false, inl, inr}
use Rattle.std.specs.List.{AllByRecursion}
use Rattle.tatp_tables.specs.Database.{Database}
use Rattle.tatp_calls.specs.Transactions.{transaction}
use Rattle.tatp_history.specs.declared.event.Event.{Event}
use Rattle.tatp_history.specs.declared.observed.Observed.{Observed}
use Rattle.tatp_history.specs.Histories.{MayHaveReply, AreAnsweredInOrder, rows_after}
use Rattle.tatp_history.specs.Events.{TimesRise, HaveEnds}
use Rattle.tatp_history.specs.JustInTime.{Chooses, Explains, AreOpen}
use Rattle.tatp_history.specs.Changes.{LeavesRows}
use Rattle.tatp_history.specs.Remaining.{IsLeft, IsOrderFrom, HasOrder}
use Rattle.tatp_history.proofs.OrderLaws.{all_map, all_both, in_all, all_filter, filter_tests, in_filter, apart_filter, real_time_filter}
use Rattle.tatp_history.proofs.ChoiceLaws.{chosen_in, in_cases, chooses_apart}
use Rattle.tatp_history.proofs.EventLaws.{asked_after}
use Rattle.tatp_history.proofs.RemainingLaws.{left_before, open_chosen, put_first}
use Rattle.tatp_history.proofs.JustInTimeLaws.{Any, sound, complete}

-- an order without some calls that change nothing has the same replies
calls_out : (test : Observed → Bool) (order : List Observed) (u : Database) → AllByRecursion (λ (z : Observed). test z ≡ false → LeavesRows z) order → AreAnsweredInOrder u order → AreAnsweredInOrder u (filter test order)
calls_out test [] u h runs = tt
calls_out test (z ∷ zs) u h runs = elim (test z) as (λ b. test z ≡ b → AreAnsweredInOrder u (cond b (z ∷ filter test zs) (filter test zs))) [
  | true ↦ λ e. (runs.0, calls_out test zs (transaction z.call u).database h.1 runs.1)
  | false ↦ λ e. subst (λ v. AreAnsweredInOrder v (filter test zs)) (h.0 e u runs.0) (calls_out test zs (transaction z.call u).database h.1 runs.1)
] refl

-- and leaves the same rows
rows_out : (test : Observed → Bool) (order : List Observed) (u : Database) → AllByRecursion (λ (z : Observed). test z ≡ false → LeavesRows z) order → AreAnsweredInOrder u order → rows_after u (filter test order) ≡ rows_after u order
rows_out test [] u h runs = refl
rows_out test (z ∷ zs) u h runs = elim (test z) as (λ b. test z ≡ b → rows_after u (cond b (z ∷ filter test zs) (filter test zs)) ≡ rows_after (transaction z.call u).database zs) [
  | true ↦ λ e. rows_out test zs (transaction z.call u).database h.1 runs.1
  | false ↦ λ e. ap (λ v. rows_after v (filter test zs)) (sym (h.0 e u runs.0)) ∙ rows_out test zs (transaction z.call u).database h.1 runs.1
] refl

-- whether it was asked at another time
abbrev pub is_other : ℕ → Observed → Bool
is_other time z = not (z.asked == time)

pub other_is : (time : ℕ) (z : Observed) → is_other time z ≡ false → z.asked ≡ time
other_is time z h = elim (z.asked == time) as (λ b. (z.asked == time) ≡ b → not b ≡ false → z.asked ≡ time) [
  | true ↦ λ e _. eqb-true z.asked time e
  | false ↦ λ e k. absurd (true≢false k)
] refl h

pub is_other_true : (time : ℕ) (z : Observed) → (z.asked ≡ time → ⊥) → is_other time z ≡ true
is_other_true time z h = elim (z.asked == time) as (λ b. (z.asked == time) ≡ b → not b ≡ true) [
  | true ↦ λ e. absurd (h (eqb-true z.asked time e))
  | false ↦ λ e. refl
] refl

pub true_other : (time : ℕ) (z : Observed) → is_other time z ≡ true → z.asked ≡ time → ⊥
true_other time z h same = true≢false (sym h ∙ ap not (eq-eqb z.asked time same))

module _ (events : List Event) (opened : List Observed) (x : Observed) (left : List Observed) (c : Chooses opened x left) (are : AreOpen events opened) where
  -- a call that is left and was asked at the call's time is the call
  pub is_the_call : (z : Observed) → IsLeft events opened z → z.asked ≡ x.asked → z ≡ x
  is_the_call z h same = elim h [
    | inl k ↦ elim (in_cases opened x left c z k) [
      | inl e ↦ e
      | inr q ↦ absurd (in_all (λ (w : Observed). x.asked ≡ w.asked → ⊥) z left (chooses_apart opened x left c are.apart).0 q (sym same))
    ]
    | inr k ↦ let lt : x.asked < z.asked = asked_after x.asked events z (are.before x (chosen_in opened x left c)) k in absurd (omega (arith, lt, same))
  ]

  pub stays_left : (z : Observed) → IsLeft events opened z → (z.asked ≡ x.asked → ⊥) → IsLeft events left z
  stays_left z h other = elim h [
    | inl k ↦ elim (in_cases opened x left c z k) [ inl e ↦ absurd (other (ap (λ (w : Observed). w.asked) e)) | inr q ↦ inl q ]
    | inr k ↦ inr k
  ]

  pub left_other : (z : Observed) → IsLeft events left z → z.asked ≡ x.asked → ⊥
  left_other z h same = elim h [
    | inl k ↦ in_all (λ (w : Observed). x.asked ≡ w.asked → ⊥) z left (chooses_apart opened x left c are.apart).0 k (sym same)
    | inr k ↦ let lt : x.asked < z.asked = asked_after x.asked events z (are.before x (chosen_in opened x left c)) k in omega (arith, lt, same)
  ]

  pub without_unchanging : (Q : Database → Type 0) (u : Database) → LeavesRows x → HasOrder Q u events opened → HasOrder Q u events left
  without_unchanging Q u leaves h =
      let test : Observed → Bool = is_other x.asked in
      let others : AllByRecursion (λ (z : Observed). test z ≡ false → LeavesRows z) h.0
      = all_map (IsLeft events opened) (λ (z : Observed). test z ≡ false → LeavesRows z) (λ z k e. subst LeavesRows (sym (is_the_call z k (other_is x.asked z e))) leaves) h.0 h.1.made in (
        filter test h.0,
        record {
          made = all_map (λ z. IsLeft events opened z × (test z ≡ true)) (IsLeft events left) (λ z k. stays_left z k.0 (true_other x.asked z k.1)) (filter test h.0)
              (all_both (IsLeft events opened) (λ z. test z ≡ true) (filter test h.0) (all_filter (IsLeft events opened) test h.0 h.1.made) (filter_tests test h.0));
          once = apart_filter test h.0 h.1.once;
          all = λ z k answered. in_filter test z h.0 (h.1.all z (left_before events opened x left c z k) answered) (is_other_true x.asked z (left_other z k));
          real_time = real_time_filter test h.0 h.1.real_time;
          replies = calls_out test h.0 u others h.1.replies;
        },
        subst Q (sym (rows_out test h.0 u others h.1.replies)) h.2,
      )

  pub at_once : (u : Database) → TimesRise events → HaveEnds events → LeavesRows x → MayHaveReply x.outcome (transaction x.call u).reply → Explains events u opened ↔ Explains events u left
  at_once u rise have leaves may = (
    λ h. complete events rise have u left (open_chosen events opened x left c are) (without_unchanging Any u leaves (sound events rise have u opened are h)),
    λ h. let order = sound events rise have u left (open_chosen events opened x left c are) h in
        complete events rise have u opened are (x ∷ order.0, put_first u events opened x left order.0 have are c may (subst (λ v. IsOrderFrom v events left order.0) (sym (leaves u may)) order.1), tt),
  )
