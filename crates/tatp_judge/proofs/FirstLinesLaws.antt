-- The events on a subscriber in a history's first lines, and whether its calls there are explained.
use Rattle.std.proofs.Common.{◌≡◌, ℕ, zero, suc, ◌+◌, ◌<◌, ◌≤◌, ◌∙◌, sym, ap, subst, nat_le, true, false, cond, List, [], ◌∷◌, ◌++◌, length, take, drop, map, filter, refl, arith, Option, Some, None, le-leb, leb-true}
use Rattle.std.specs.List.{AllByRecursion}
use Rattle.std.proofs.lemmas.List.{take_all}
use Rattle.tatp_tables.specs.Database.{Database, of_subscriber}
use Rattle.tatp_calls.specs.declared.call.Call.{Call}
use Rattle.tatp_history.specs.declared.line.Line.{Line}
use Rattle.tatp_history.specs.declared.line.Line.TheVariants.{Ask, End, Abort, Lost}
use Rattle.tatp_history.specs.declared.event.Event.{Event}
use Rattle.tatp_history.specs.declared.event.Event.TheVariants.{Asks, Ends}
use Rattle.tatp_history.specs.declared.observed.Outcome.{Outcome}
use Rattle.tatp_history.specs.declared.observed.Outcome.TheVariants.{Answered, Aborted, Unknown}
use Rattle.tatp_history.specs.declared.observed.Observed.{Observed}
use Rattle.tatp_history.specs.Histories.{Precedes, IsStrictlySerializable}
use Rattle.tatp_history.specs.HistoryLines.{call_at, calls_from, calls_of}
use Rattle.tatp_history.specs.Locality.{is_on, calls_on}
use Rattle.tatp_history.specs.Prefixes.{outcome_by, call_by, calls_by}
use Rattle.tatp_history.specs.Events.{asked_in, time_of, AreAfter}
use Rattle.tatp_history.specs.SubscriberEvents.{OpenCalls, no_calls, with_call, end_before, events_with, events_of}
use Rattle.tatp_history.proofs.LineLaws.{calls_of_first, calls_in_time}
use Rattle.tatp_history.proofs.OrderLaws.{all_filter}
use Rattle.tatp_history.proofs.PrefixLaws.{prefixes}
use Rattle.tatp_history.proofs.SubscriberEventLaws.{asked_on}
use Rattle.tatp_linearization.specs.Cut.{events_by}
use Rattle.tatp_linearization.proofs.CutLaws.{asked_by, none_by}
use Rattle.tatp_judge.specs.Windows.{IsExplainedBy, IsExplainedBefore}

-- ---- lists in two parts
pub parts : {X : Type 0} (k : ℕ) (xs : List X) → take k xs ++ drop k xs ≡ xs
parts zero xs = refl
parts (suc k) [] = refl
parts (suc k) (x ∷ xs) = ap (λ ys. x ∷ ys) (parts k xs)

pub taken : {X : Type 0} (k : ℕ) (xs : List X) → k ≤ length xs → length (take k xs) ≡ k
taken zero xs le = refl
taken (suc k) [] le = absurd (omega (arith, le))
taken (suc k) (x ∷ xs) le = ap suc (taken k xs (omega (arith, le)))

pub taken_less : {X : Type 0} (k n : ℕ) (xs : List X) → k ≤ n → take k (take n xs) ≡ take k xs
taken_less zero n xs le = refl
taken_less (suc k) zero xs le = absurd (omega (arith, le))
taken_less (suc k) (suc n) [] le = refl
taken_less (suc k) (suc n) (x ∷ xs) le = ap (λ ys. x ∷ ys) (taken_less k n xs (omega (arith, le)))

-- ---- the first lines
-- how a call ends by the first lines
abbrev first_outcome : List Observed → Outcome
first_outcome [] = Unknown
first_outcome (x ∷ more) = x.outcome

end_by : (client number : ℕ) (call : Call) (first second : List Line) (time : ℕ) → number + suc (length first) ≡ suc time → call_by time (call_at number client call (first ++ second)) ≡ call_at number client call first
end_by client number call first second time n =
    let le : number ≤ time = omega (arith, n) in
    let x : Observed = call_at number client call (first ++ second) in
    let others : List Observed = filter (λ (y : Observed). nat_le y.asked time) (calls_from (suc number) (first ++ second)) in
    let both : call_by time x ∷ map (call_by time) others ≡ calls_from number (Ask client call ∷ first)
    = ap (λ b. map (call_by time) (cond b (x ∷ others) others)) (sym (le-leb number time le)) ∙ calls_of_first (Ask client call ∷ first) second number time n in
    ap (λ o. record { asked = number; call = call; outcome = o }) (ap first_outcome both)

module _ (u : Database) (s : ℕ) where
  later : (time number : ℕ) (opened : OpenCalls) (lines : List Line) → time < number → AreAfter time (events_with u s number opened lines)
  later time number opened [] lt = tt
  later time number opened (Ask client call ∷ more) lt = elim (is_on u s call) as (λ b. AreAfter time (cond b (Asks (call_at number client call more) ∷ events_with u s (suc number) (with_call opened client (Some number)) more) (events_with u s (suc number) (with_call opened client None) more))) [
    | true ↦ (lt, later time (suc number) (with_call opened client (Some number)) more (omega (arith, lt)))
    | false ↦ later time (suc number) (with_call opened client None) more (omega (arith, lt))
  ]
  later time number opened (End client recorded ∷ more) lt = elim (opened client) as (λ o. AreAfter time (end_before o number (events_with u s (suc number) (with_call opened client None) more))) [
    | None ↦ later time (suc number) (with_call opened client None) more (omega (arith, lt))
    | Some asked ↦ (lt, later time (suc number) (with_call opened client None) more (omega (arith, lt)))
  ]
  later time number opened (Abort client ∷ more) lt = later time (suc number) (with_call opened client None) more (omega (arith, lt))
  later time number opened (Lost client ∷ more) lt = later time (suc number) (with_call opened client None) more (omega (arith, lt))

  ends_then : (time number : ℕ) (still : Option ℕ) (events : List Event) → number ≤ time → events_by time (end_before still number events) ≡ end_before still number (events_by time events)
  ends_then time number None events le = refl
  ends_then time number (Some asked) events le = ap (λ b. cond b (Ends asked number ∷ events_by time events) (events_by time events)) (le-leb number time le)

  first_events : (first second : List Line) (number time : ℕ) (opened : OpenCalls) → number + length first ≡ suc time → events_by time (events_with u s number opened (first ++ second)) ≡ events_with u s number opened first
  first_events [] second number time opened n = none_by time (events_with u s number opened second) (later time number opened second (omega (arith, n)))
  first_events (Ask client call ∷ more) second number time opened n =
      let m : number + suc (length more) ≡ suc time = n in
      let le : number ≤ time = omega (arith, m) in
      elim (is_on u s call) as (λ b. events_by time (cond b (Asks (call_at number client call (more ++ second)) ∷ events_with u s (suc number) (with_call opened client (Some number)) (more ++ second)) (events_with u s (suc number) (with_call opened client None) (more ++ second)))
      ≡ cond b (Asks (call_at number client call more) ∷ events_with u s (suc number) (with_call opened client (Some number)) more) (events_with u s (suc number) (with_call opened client None) more)) [
        | true ↦
            let opened' : OpenCalls = with_call opened client (Some number) in
            let x : Observed = call_at number client call (more ++ second) in
            let rest = events_with u s (suc number) opened' (more ++ second) in
            ap (λ b. cond b (Asks (call_by time x) ∷ events_by time rest) (events_by time rest)) (le-leb number time le)
            ∙ (λ i. Asks (end_by client number call more second time m i) ∷ first_events more second (suc number) time opened' (omega (arith, m)) i)
        | false ↦ first_events more second (suc number) time (with_call opened client None) (omega (arith, m))
      ]
  first_events (End client recorded ∷ more) second number time opened n =
      let m : number + suc (length more) ≡ suc time = n in
      ends_then time number (opened client) (events_with u s (suc number) (with_call opened client None) (more ++ second)) (omega (arith, m))
      ∙ ap (end_before (opened client) number) (first_events more second (suc number) time (with_call opened client None) (omega (arith, m)))
  first_events (Abort client ∷ more) second number time opened n =
      let m : number + suc (length more) ≡ suc time = n in first_events more second (suc number) time (with_call opened client None) (omega (arith, m))
  first_events (Lost client ∷ more) second number time opened n =
      let m : number + suc (length more) ≡ suc time = n in first_events more second (suc number) time (with_call opened client None) (omega (arith, m))

  -- the events by the time of a line are those in the lines up to it
  pub events_then : (k : ℕ) (lines : List Line) → k ≤ length lines → events_by k (events_of u s lines) ≡ events_of u s (take k lines)
  events_then k lines le =
      ap (λ ls. events_by k (events_of u s ls)) (sym (parts k lines)) ∙ first_events (take k lines) (drop k lines) 1 k no_calls (omega (arith, taken k lines le))

  pub events_now : (lines : List Line) → events_by (length lines) (events_of u s lines) ≡ events_of u s lines
  events_now lines = events_then (length lines) lines (omega arith) ∙ ap (events_of u s) (take_all (length lines) lines (omega arith))

  pub asked_then : (lines : List Line) → asked_in (events_of u s lines) ≡ calls_on u s (calls_of lines)
  asked_then lines = asked_on u s 1 no_calls lines

  -- ---- explained calls
  pub explained_now : (lines : List Line) → IsExplainedBy u s lines (length lines) → IsStrictlySerializable (of_subscriber u s) (calls_on u s (calls_of lines))
  explained_now lines h = subst (λ ls. IsStrictlySerializable (of_subscriber u s) (calls_on u s (calls_of ls))) (take_all (length lines) lines (omega arith)) h

  pub now_explained : (lines : List Line) → IsStrictlySerializable (of_subscriber u s) (calls_on u s (calls_of lines)) → IsExplainedBy u s lines (length lines)
  now_explained lines h = subst (λ ls. IsStrictlySerializable (of_subscriber u s) (calls_on u s (calls_of ls))) (sym (take_all (length lines) lines (omega arith))) h

  -- those in the first lines are explained where all are
  first_explained : (k : ℕ) (lines : List Line) → k ≤ length lines → IsStrictlySerializable (of_subscriber u s) (calls_on u s (calls_of lines)) → IsExplainedBy u s lines k
  first_explained k lines le h =
      let calls = calls_on u s (calls_of lines) in
      let in_time = all_filter (λ (x : Observed). Precedes x x → ⊥) (λ (x : Observed). is_on u s x.call) (calls_of lines) (calls_in_time 1 lines) in
      let same : calls_by k calls ≡ calls_on u s (calls_of (take k lines))
      = ap (calls_by k) (sym (asked_then lines)) ∙ (sym (asked_by k (events_of u s lines)) ∙ (ap asked_in (events_then k lines le) ∙ asked_then (take k lines))) in
      subst (IsStrictlySerializable (of_subscriber u s)) same (prefixes k (of_subscriber u s) calls in_time h)

  -- and so in fewer lines
  pub fewer_explained : (n : ℕ) (lines : List Line) → n ≤ length lines → IsExplainedBy u s lines n → IsExplainedBefore u s lines (suc n)
  fewer_explained n lines within h k lt le =
      let less : k ≤ n = omega (arith, lt) in
      subst (λ ls. IsStrictlySerializable (of_subscriber u s) (calls_on u s (calls_of ls))) (taken_less k n lines less)
      (first_explained k (take n lines) (subst (λ m. k ≤ m) (sym (taken n lines within)) less) h)

-- ---- what was known by a time, at a later one
outcome_later : (time from : ℕ) (o : Outcome) → from ≤ time → outcome_by time (outcome_by from o) ≡ outcome_by from o
outcome_later time from (Answered at recorded) le = elim (nat_le at from) as (λ b. nat_le at from ≡ b → outcome_by time (cond b (Answered at recorded) Unknown) ≡ cond b (Answered at recorded) Unknown) [
  | true ↦ λ e. let by : at ≤ from = leb-true at from e in ap (λ b. cond b (Answered at recorded) Unknown) (le-leb at time (omega (arith, by, le)))
  | false ↦ λ e. refl
] refl
outcome_later time from (Aborted at) le = elim (nat_le at from) as (λ b. nat_le at from ≡ b → outcome_by time (cond b (Aborted at) Unknown) ≡ cond b (Aborted at) Unknown) [
  | true ↦ λ e. let by : at ≤ from = leb-true at from e in ap (λ b. cond b (Aborted at) Unknown) (le-leb at time (omega (arith, by, le)))
  | false ↦ λ e. refl
] refl
outcome_later time from Unknown le = refl

events_later : (time from : ℕ) (events : List Event) → from ≤ time → events_by time (events_by from events) ≡ events_by from events
events_later time from [] le = refl
events_later time from (Asks x ∷ more) le = elim (nat_le x.asked from) as (λ b. nat_le x.asked from ≡ b → events_by time (cond b (Asks (call_by from x) ∷ events_by from more) (events_by from more)) ≡ cond b (Asks (call_by from x) ∷ events_by from more) (events_by from more)) [
  | true ↦ λ e.
      let by : x.asked ≤ from = leb-true x.asked from e in
      let rest = events_by time (events_by from more) in
      ap (λ b. cond b (Asks (call_by time (call_by from x)) ∷ rest) rest) (le-leb x.asked time (omega (arith, by, le)))
      ∙ (λ i. Asks (record { asked = x.asked; call = x.call; outcome = outcome_later time from x.outcome le i }) ∷ events_later time from more le i)
  | false ↦ λ e. events_later time from more le
] refl
events_later time from (Ends asked at ∷ more) le = elim (nat_le at from) as (λ b. nat_le at from ≡ b → events_by time (cond b (Ends asked at ∷ events_by from more) (events_by from more)) ≡ cond b (Ends asked at ∷ events_by from more) (events_by from more)) [
  | true ↦ λ e.
      let by : at ≤ from = leb-true at from e in
      let rest = events_by time (events_by from more) in
      ap (λ b. cond b (Ends asked at ∷ rest) rest) (le-leb at time (omega (arith, by, le))) ∙ ap (λ es. Ends asked at ∷ es) (events_later time from more le)
  | false ↦ λ e. events_later time from more le
] refl

pub still_past : (time from : ℕ) (events : List Event) → from ≤ time → events_by from events ≡ events → events_by time events ≡ events
still_past time from events le past = ap (events_by time) (sym past) ∙ (events_later time from events le ∙ past)

-- ---- times
times_by : (time : ℕ) (events : List Event) → AllByRecursion (λ event. time_of event ≤ time) (events_by time events)
times_by time [] = tt
times_by time (Asks x ∷ more) = elim (nat_le x.asked time) as (λ b. nat_le x.asked time ≡ b → AllByRecursion (λ event. time_of event ≤ time) (cond b (Asks (call_by time x) ∷ events_by time more) (events_by time more))) [
  | true ↦ λ e. (leb-true x.asked time e, times_by time more)
  | false ↦ λ e. times_by time more
] refl
times_by time (Ends asked at ∷ more) = elim (nat_le at time) as (λ b. nat_le at time ≡ b → AllByRecursion (λ event. time_of event ≤ time) (cond b (Ends asked at ∷ events_by time more) (events_by time more))) [
  | true ↦ λ e. (leb-true at time e, times_by time more)
  | false ↦ λ e. times_by time more
] refl

pub times_within : (time : ℕ) (events : List Event) → events_by time events ≡ events → AllByRecursion (λ event. time_of event ≤ time) events
times_within time events past = subst (AllByRecursion (λ event. time_of event ≤ time)) past (times_by time events)
