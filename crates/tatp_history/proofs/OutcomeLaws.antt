-- Aborted calls change nothing, and those of unknown outcome may.
use Rattle.std.proofs.Common.{◌≡◌, ◌↔◌, Bool, true, List, [], ◌∷◌, filter, refl}
use Rattle.std.specs.List.{AllByRecursion}
use Rattle.tatp_tables.specs.Database.{Database}
use Rattle.tatp_calls.specs.declared.reply.Reply.{Reply}
use Rattle.tatp_calls.specs.Transactions.{transaction}
use Rattle.tatp_history.specs.declared.observed.Outcome.{Outcome}
use Rattle.tatp_history.specs.declared.observed.Outcome.TheVariants.{Answered, Aborted, Unknown}
use Rattle.tatp_history.specs.declared.observed.Observed.{Observed}
use Rattle.tatp_history.specs.Histories.{IsIn, IsAnswered, MayHaveReply, AreAnsweredInOrder, IsStrictlySerializable}
use Rattle.tatp_history.specs.Outcomes.{may_take_effect, takes_effect, without_aborted, answered_alone}
use Rattle.tatp_history.proofs.OrderLaws.{all_map, all_both, in_filter, of_filter}

-- a serial order of some of the calls, with all that were answered, is one of all
of_some : (test : Observed → Bool) → ((x : Observed) → IsAnswered x.outcome → test x ≡ true) → (u : Database) (calls : List Observed) → IsStrictlySerializable u (filter test calls) → IsStrictlySerializable u calls
of_some test pass u calls s = (
  s.0,
  record {
    made = all_map (λ x. IsIn x (filter test calls)) (λ x. IsIn x calls) (λ x h. (of_filter test x calls h).0) s.0 s.1.made;
    once = s.1.once;
    all = λ x h answered. s.1.all x (in_filter test x calls h (pass x answered)) answered;
    real_time = s.1.real_time;
    replies = s.1.replies;
  },
)

answered_may : (o : Outcome) → IsAnswered o → may_take_effect o ≡ true
answered_may (Answered at recorded) h = refl
answered_may (Aborted at) h = absurd h
answered_may Unknown h = absurd h

answered_takes : (o : Outcome) → IsAnswered o → takes_effect o ≡ true
answered_takes (Answered at recorded) h = refl
answered_takes (Aborted at) h = absurd h
answered_takes Unknown h = absurd h

replied_may : (o : Outcome) (reply : Reply) → MayHaveReply o reply → may_take_effect o ≡ true
replied_may (Answered at recorded) reply h = refl
replied_may (Aborted at) reply h = absurd h
replied_may Unknown reply h = refl

-- no aborted call stands in an order
ordered_may : (order : List Observed) (u : Database) → AreAnsweredInOrder u order → AllByRecursion (λ (x : Observed). may_take_effect x.outcome ≡ true) order
ordered_may [] u runs = tt
ordered_may (x ∷ xs) u runs = (replied_may x.outcome (transaction x.call u).reply runs.0, ordered_may xs (transaction x.call u).database runs.1)

pub aborted_out : (u : Database) (calls : List Observed) → IsStrictlySerializable u (without_aborted calls) ↔ IsStrictlySerializable u calls
aborted_out u calls = (
  of_some (λ (x : Observed). may_take_effect x.outcome) (λ x. answered_may x.outcome) u calls,
  λ s. (
    s.0,
    record {
      made = all_map (λ x. IsIn x calls × (may_take_effect x.outcome ≡ true)) (λ x. IsIn x (without_aborted calls)) (λ x h. in_filter (λ (y : Observed). may_take_effect y.outcome) x calls h.0 h.1) s.0
          (all_both (λ x. IsIn x calls) (λ x. may_take_effect x.outcome ≡ true) s.0 s.1.made (ordered_may s.0 u s.1.replies));
      once = s.1.once;
      all = λ x h answered. s.1.all x (of_filter (λ (y : Observed). may_take_effect y.outcome) x calls h).0 answered;
      real_time = s.1.real_time;
      replies = s.1.replies;
    },
  ),
)

pub answered_suffice : (u : Database) (calls : List Observed) → IsStrictlySerializable u (answered_alone calls) → IsStrictlySerializable u calls
answered_suffice u calls = of_some (λ (x : Observed). takes_effect x.outcome) (λ x. answered_takes x.outcome) u calls
