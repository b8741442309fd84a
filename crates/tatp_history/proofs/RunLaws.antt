-- Calls run one after another on a database are, for each subscriber, its calls run one after another on its rows.
use Rattle.std.proofs.Common.{◌≡◌, ◌≢◌, ℕ, true, false, cond, ◌==◌, List, [], ◌∷◌, Some, None, Ok, refl, sym, ◌∙◌, ap, subst, eqb-true, eq-eqb, true≢false}
use Rattle.std.specs.List.{AllByRecursion}
use Rattle.tatp_tables.specs.Database.{Database, of_subscriber}
use Rattle.tatp_homes.proofs.SubscriberLaws.{of_subscriber-with_subscriber, of_subscriber-with_other}
use Rattle.tatp_numbers.specs.declared.key.Key.{Key}
use Rattle.tatp_numbers.specs.Homes.{home_of_key}
use Rattle.tatp_calls.specs.declared.call.Call.{Call}
use Rattle.tatp_calls.specs.declared.reply.Reply.TheVariants.{Failed}
use Rattle.tatp_calls.specs.Arguments.{arguments_accepted}
use Rattle.tatp_calls.specs.Calls.{key_of_call}
use Rattle.tatp_calls.specs.Transactions.{Answer, transaction}
use Rattle.tatp_procs.specs.Consistent.{IsConsistent}
use Rattle.tatp_procs.proofs.ConsistentAfterLaws.{consistent_after, keys_after}
use Rattle.tatp_procs.proofs.LocalityLaws.{transactions_are_local, rows_stay_own, fails_without_home}
use Rattle.tatp_history.specs.declared.observed.Observed.{Observed}
use Rattle.tatp_history.specs.Histories.{MayHaveReply, AreAnsweredInOrder, rows_after}
use Rattle.tatp_history.specs.Locality.{subscriber_of, is_this, calls_on, AreAccepted}

-- ---- one call
module _ (u : Database) (is : IsConsistent u) (call : Call) where
  own_reply : (s : ℕ) → home_of_key u.subscribers (key_of_call call) ≡ Some s → (transaction call (of_subscriber u s)).reply ≡ (transaction call u).reply
  own_reply s e = sym (ap (λ (a : Answer). a.reply) (transactions_are_local call u s is e))

  own_rows : (s : ℕ) → home_of_key u.subscribers (key_of_call call) ≡ Some s → of_subscriber (transaction call u).database s ≡ (transaction call (of_subscriber u s)).database
  own_rows s e = ap (λ (a : Answer). of_subscriber a.database s) (transactions_are_local call u s is e)
      ∙ of_subscriber-with_subscriber u s (transaction call (of_subscriber u s)).database (rows_stay_own call u s is e)

  other_rows : (s t : ℕ) → home_of_key u.subscribers (key_of_call call) ≡ Some s → s ≢ t → of_subscriber (transaction call u).database t ≡ of_subscriber u t
  other_rows s t e n = ap (λ (a : Answer). of_subscriber a.database t) (transactions_are_local call u s is e)
      ∙ of_subscriber-with_other u s t (transaction call (of_subscriber u s)).database n (rows_stay_own call u s is e)

  none_reply : home_of_key u.subscribers (key_of_call call) ≡ None → (transaction call u).reply ≡ Failed 1
  none_reply e = ap (λ (a : Answer). a.reply) (fails_without_home call u is e)

  none_rows : home_of_key u.subscribers (key_of_call call) ≡ None → (transaction call u).database ≡ u
  none_rows e = ap (λ (a : Answer). a.database) (fails_without_home call u is e)

-- ---- many
-- a key names the same subscriber in both
abbrev pub SameKeys : Database → Database → Type 0
SameKeys u v = (key : Key) → home_of_key v.subscribers key ≡ home_of_key u.subscribers key

-- a call that names none fails
abbrev pub FailsAlone : Database → Observed → Type 0
FailsAlone u x = subscriber_of u x.call ≡ None → MayHaveReply x.outcome (Failed 1)

module _ (first : Database) where
  keys_stay : (u : Database) (x : Observed) → IsConsistent u → SameKeys first u → arguments_accepted x.call ≡ Ok tt → SameKeys first (transaction x.call u).database
  keys_stay u x is keys accepted = λ key. keys_after x.call u key is accepted ∙ keys key

  pub runs_at_each : (order : List Observed) (u : Database) → IsConsistent u → SameKeys first u → AreAccepted order → AreAnsweredInOrder u order → (s : ℕ) → AreAnsweredInOrder (of_subscriber u s) (calls_on first s order)
  runs_at_each [] u is keys accepted runs s = tt
  runs_at_each (x ∷ xs) u is keys accepted runs s =
      let after : Database = (transaction x.call u).database in
      let rest : AreAnsweredInOrder (of_subscriber after s) (calls_on first s xs) = runs_at_each xs after (consistent_after x.call u is accepted.0) (keys_stay u x is keys accepted.0) accepted.1 runs.1 s in
      elim (subscriber_of first x.call) as (λ o. subscriber_of first x.call ≡ o → AreAnsweredInOrder (of_subscriber u s) (cond (is_this s o) (x ∷ calls_on first s xs) (calls_on first s xs))) [
        | None ↦ λ e. subst (λ d. AreAnsweredInOrder (of_subscriber d s) (calls_on first s xs)) (none_rows u is x.call (keys (key_of_call x.call) ∙ e)) rest
        | Some t ↦ λ e. let named : home_of_key u.subscribers (key_of_call x.call) ≡ Some t = keys (key_of_call x.call) ∙ e in
            elim (t == s) as (λ b. (t == s) ≡ b → AreAnsweredInOrder (of_subscriber u s) (cond b (x ∷ calls_on first s xs) (calls_on first s xs))) [
              | true ↦ λ k. let own : home_of_key u.subscribers (key_of_call x.call) ≡ Some s = named ∙ ap Some (eqb-true t s k) in
                  (subst (MayHaveReply x.outcome) (sym (own_reply u is x.call s own)) runs.0, subst (λ d. AreAnsweredInOrder d (calls_on first s xs)) (own_rows u is x.call s own) rest)
              | false ↦ λ k. subst (λ d. AreAnsweredInOrder d (calls_on first s xs)) (other_rows u is x.call t s named (λ same. true≢false (sym (eq-eqb t s same) ∙ k))) rest
            ] refl
      ] refl

  pub runs_together : (order : List Observed) (u : Database) → IsConsistent u → SameKeys first u → AreAccepted order → AllByRecursion (FailsAlone first) order → ((s : ℕ) → AreAnsweredInOrder (of_subscriber u s) (calls_on first s order)) → AreAnsweredInOrder u order
  runs_together [] u is keys accepted fail runs = tt
  runs_together (x ∷ xs) u is keys accepted fail runs =
      let after : Database = (transaction x.call u).database in
      let rest : ((s : ℕ) → AreAnsweredInOrder (of_subscriber after s) (calls_on first s xs)) → AreAnsweredInOrder after xs = runs_together xs after (consistent_after x.call u is accepted.0) (keys_stay u x is keys accepted.0) accepted.1 fail.1 in
      elim (subscriber_of first x.call) as (λ o. subscriber_of first x.call ≡ o → ((s : ℕ) → AreAnsweredInOrder (of_subscriber u s) (cond (is_this s o) (x ∷ calls_on first s xs) (calls_on first s xs))) → AreAnsweredInOrder u (x ∷ xs)) [
        | None ↦ λ e each. let named : home_of_key u.subscribers (key_of_call x.call) ≡ None = keys (key_of_call x.call) ∙ e in
            (subst (MayHaveReply x.outcome) (sym (none_reply u is x.call named)) (fail.0 e), rest (λ s. subst (λ d. AreAnsweredInOrder (of_subscriber d s) (calls_on first s xs)) (sym (none_rows u is x.call named)) (each s)))
        | Some t ↦ λ e each. let named : home_of_key u.subscribers (key_of_call x.call) ≡ Some t = keys (key_of_call x.call) ∙ e in
            let own : AreAnsweredInOrder (of_subscriber u t) (x ∷ calls_on first t xs) = subst (λ b. AreAnsweredInOrder (of_subscriber u t) (cond b (x ∷ calls_on first t xs) (calls_on first t xs))) (eq-eqb t t refl) (each t) in (
              subst (MayHaveReply x.outcome) (own_reply u is x.call t named) own.0,
              rest (λ s. elim (t == s) as (λ b. (t == s) ≡ b → AreAnsweredInOrder (of_subscriber u s) (cond b (x ∷ calls_on first s xs) (calls_on first s xs)) → AreAnsweredInOrder (of_subscriber after s) (calls_on first s xs)) [
                | true ↦ λ k a. subst (λ d. AreAnsweredInOrder d (calls_on first s xs)) (sym (own_rows u is x.call s (named ∙ ap Some (eqb-true t s k)))) a.1
                | false ↦ λ k a. subst (λ d. AreAnsweredInOrder d (calls_on first s xs)) (sym (other_rows u is x.call t s named (λ same. true≢false (sym (eq-eqb t s same) ∙ k)))) a
              ] refl (each s)),
            )
      ] refl runs

  -- a call of the order that names none fails
  pub runs_fail : (order : List Observed) (u : Database) → IsConsistent u → SameKeys first u → AreAccepted order → AreAnsweredInOrder u order → AllByRecursion (FailsAlone first) order
  runs_fail [] u is keys accepted runs = tt
  runs_fail (x ∷ xs) u is keys accepted runs = (
    λ e. subst (MayHaveReply x.outcome) (none_reply u is x.call (keys (key_of_call x.call) ∙ e)) runs.0,
    runs_fail xs (transaction x.call u).database (consistent_after x.call u is accepted.0) (keys_stay u x is keys accepted.0) accepted.1 runs.1,
  )

-- the rows that they leave are, for each subscriber, those that its calls leave
module _ (first : Database) where
  pub rows_at_each : (order : List Observed) (u : Database) → IsConsistent u → SameKeys first u → AreAccepted order → (s : ℕ) → of_subscriber (rows_after u order) s ≡ rows_after (of_subscriber u s) (calls_on first s order)
  rows_at_each [] u is keys accepted s = refl
  rows_at_each (x ∷ xs) u is keys accepted s =
      let after : Database = (transaction x.call u).database in
      let rest : of_subscriber (rows_after after xs) s ≡ rows_after (of_subscriber after s) (calls_on first s xs) = rows_at_each xs after (consistent_after x.call u is accepted.0) (keys_stay first u x is keys accepted.0) accepted.1 s in
      elim (subscriber_of first x.call) as (λ o. subscriber_of first x.call ≡ o → of_subscriber (rows_after after xs) s ≡ rows_after (of_subscriber u s) (cond (is_this s o) (x ∷ calls_on first s xs) (calls_on first s xs))) [
        | None ↦ λ e. rest ∙ ap (λ d. rows_after (of_subscriber d s) (calls_on first s xs)) (none_rows u is x.call (keys (key_of_call x.call) ∙ e))
        | Some t ↦ λ e. let named : home_of_key u.subscribers (key_of_call x.call) ≡ Some t = keys (key_of_call x.call) ∙ e in
            elim (t == s) as (λ b. (t == s) ≡ b → of_subscriber (rows_after after xs) s ≡ rows_after (of_subscriber u s) (cond b (x ∷ calls_on first s xs) (calls_on first s xs))) [
              | true ↦ λ k. rest ∙ ap (λ d. rows_after d (calls_on first s xs)) (own_rows u is x.call s (named ∙ ap Some (eqb-true t s k)))
              | false ↦ λ k. rest ∙ ap (λ d. rows_after d (calls_on first s xs)) (other_rows u is x.call t s named (λ same. true≢false (sym (eq-eqb t s same) ∙ k)))
            ] refl
      ] refl
