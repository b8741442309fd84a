-- The events of one subscriber's calls: those of its calls, in the order of time, each with its end.
use Rattle.std.proofs.Common.{◌≡◌, ◌≢◌, ℕ, suc, ◌<◌, ◌≤◌, ◌⊎◌, ◌==◌, true, false, cond, List, [], ◌∷◌, Option, Some, None, refl, sym, ◌∙◌, ap, subst, arith, le_refl, eqb-true, eq-eqb, ne_eqb, true≢false, inl, inr}
use Rattle.std.specs.List.{AllByRecursion}
use Rattle.tatp_tables.specs.Database.{Database}
use Rattle.tatp_history.specs.declared.line.Line.{Line}
use Rattle.tatp_history.specs.declared.line.Line.TheVariants.{Ask, End, Abort, Lost}
use Rattle.tatp_history.specs.declared.event.Event.{Event}
use Rattle.tatp_history.specs.declared.event.Event.TheVariants.{Asks}
use Rattle.tatp_history.specs.declared.observed.Outcome.TheVariants.{Answered, Aborted, Unknown}
use Rattle.tatp_history.specs.declared.observed.Observed.{Observed}
use Rattle.tatp_history.specs.Histories.{IsAnswered}
use Rattle.tatp_history.specs.HistoryLines.{end_of, call_at, calls_from}
use Rattle.tatp_history.specs.Locality.{is_on, calls_on}
use Rattle.tatp_history.specs.Events.{asked_in, time_of, AreAfter, TimesRise, IsAnsweredAt, EndsIn, EndsFit, HaveEnds}
use Rattle.tatp_history.specs.SubscriberEvents.{OpenCalls, no_calls, with_call, end_before, events_with}
use Rattle.tatp_history.proofs.OrderLaws.{all_map}

pub same_or_not : (a b : ℕ) → (a ≡ b) ⊎ (a ≢ b)
same_or_not a b = elim (a == b) as (λ c. (a == b) ≡ c → (a ≡ b) ⊎ (a ≢ b)) [
  | true ↦ λ e. inl (eqb-true a b e)
  | false ↦ λ e. inr (λ d. true≢false (sym (eq-eqb a b d) ∙ e))
] refl

-- ---- open calls
pub with_same : (opened : OpenCalls) (client : ℕ) (asked : Option ℕ) → with_call opened client asked client ≡ asked
with_same opened client asked = ap (λ b. cond b asked (opened client)) (eq-eqb client client refl)

pub with_other : (opened : OpenCalls) (client : ℕ) (asked : Option ℕ) (other : ℕ) → other ≢ client → with_call opened client asked other ≡ opened other
with_other opened client asked other n = ap (λ b. cond b asked (opened other)) (ne_eqb other client n)

-- no two clients have a call that was asked at one line, and all lines are past
pub record AreOpened (number : ℕ) (opened : OpenCalls) : Type 0 where
  pub unique : (client other asked : ℕ) → opened client ≡ Some asked → opened other ≡ Some asked → client ≡ other
  pub past : (client asked : ℕ) → opened client ≡ Some asked → asked < number

pub opened_none : (number : ℕ) → AreOpened number no_calls
opened_none number = record { unique = λ client other asked h k. absurd cc; past = λ client asked h. absurd cc }

opened_ask : (number : ℕ) (opened : OpenCalls) (client : ℕ) → AreOpened number opened → AreOpened (suc number) (with_call opened client (Some number))
opened_ask number opened client are = record {
  unique = λ a b asked h k. elim (same_or_not a client) [
    | inl e ↦ elim (same_or_not b client) [
      | inl f ↦ e ∙ sym f
      | inr m ↦
          let here : Some number ≡ Some asked = sym (with_same opened client (Some number)) ∙ ap (with_call opened client (Some number)) (sym e) ∙ h in
          let is : number ≡ asked = cc in
          let lt : asked < number = are.past b asked (sym (with_other opened client (Some number) b m) ∙ k) in
          absurd (omega (arith, is, lt))
    ]
    | inr n ↦ elim (same_or_not b client) [
      | inl f ↦
          let here : Some number ≡ Some asked = sym (with_same opened client (Some number)) ∙ ap (with_call opened client (Some number)) (sym f) ∙ k in
          let is : number ≡ asked = cc in
          let lt : asked < number = are.past a asked (sym (with_other opened client (Some number) a n) ∙ h) in
          absurd (omega (arith, is, lt))
      | inr m ↦ are.unique a b asked (sym (with_other opened client (Some number) a n) ∙ h) (sym (with_other opened client (Some number) b m) ∙ k)
    ]
  ];
  past = λ a asked h. elim (same_or_not a client) [
    | inl e ↦
        let here : Some number ≡ Some asked = sym (with_same opened client (Some number)) ∙ ap (with_call opened client (Some number)) (sym e) ∙ h in
        let is : number ≡ asked = cc in
        omega (arith, is)
    | inr n ↦ let lt : asked < number = are.past a asked (sym (with_other opened client (Some number) a n) ∙ h) in omega (arith, lt)
  ];
}

opened_without : (number : ℕ) (opened : OpenCalls) (client : ℕ) → AreOpened number opened → AreOpened (suc number) (with_call opened client None)
opened_without number opened client are = record {
  unique = λ a b asked h k. elim (same_or_not a client) [
    | inl e ↦ let here : None ≡ Some asked = sym (with_same opened client None) ∙ ap (with_call opened client None) (sym e) ∙ h in absurd cc
    | inr n ↦ elim (same_or_not b client) [
      | inl f ↦ let here : None ≡ Some asked = sym (with_same opened client None) ∙ ap (with_call opened client None) (sym f) ∙ k in absurd cc
      | inr m ↦ are.unique a b asked (sym (with_other opened client None a n) ∙ h) (sym (with_other opened client None b m) ∙ k)
    ]
  ];
  past = λ a asked h. elim (same_or_not a client) [
    | inl e ↦ let here : None ≡ Some asked = sym (with_same opened client None) ∙ ap (with_call opened client None) (sym e) ∙ h in absurd cc
    | inr n ↦ let lt : asked < number = are.past a asked (sym (with_other opened client None a n) ∙ h) in omega (arith, lt)
  ];
}

-- no client has the call open
abbrev pub NoneHas : OpenCalls → ℕ → Type 0
NoneHas opened asked = (client : ℕ) → opened client ≡ Some asked → ⊥

none_ask : (number : ℕ) (opened : OpenCalls) (client asked : ℕ) → asked < number → ((other : ℕ) → other ≢ client → opened other ≡ Some asked → ⊥) → NoneHas (with_call opened client (Some number)) asked
none_ask number opened client asked lt none other h = elim (same_or_not other client) [
  | inl e ↦
      let here : Some number ≡ Some asked = sym (with_same opened client (Some number)) ∙ ap (with_call opened client (Some number)) (sym e) ∙ h in
      let is : number ≡ asked = cc in
      omega (arith, is, lt)
  | inr n ↦ none other n (sym (with_other opened client (Some number) other n) ∙ h)
]

none_without : (opened : OpenCalls) (client asked : ℕ) → ((other : ℕ) → other ≢ client → opened other ≡ Some asked → ⊥) → NoneHas (with_call opened client None) asked
none_without opened client asked none other h = elim (same_or_not other client) [
  | inl e ↦ let here : None ≡ Some asked = sym (with_same opened client None) ∙ ap (with_call opened client None) (sym e) ∙ h in absurd cc
  | inr n ↦ none other n (sym (with_other opened client None other n) ∙ h)
]

-- ---- the events on one subscriber
module _ (u : Database) (s : ℕ) where
  pub asked_on : (number : ℕ) (opened : OpenCalls) (lines : List Line) → asked_in (events_with u s number opened lines) ≡ calls_on u s (calls_from number lines)
  asked_on number opened [] = refl
  asked_on number opened (Ask client call ∷ more) = elim (is_on u s call) as (λ b. asked_in (cond b (Asks (call_at number client call more) ∷ events_with u s (suc number) (with_call opened client (Some number)) more) (events_with u s (suc number) (with_call opened client None) more))
      ≡ cond b (call_at number client call more ∷ calls_on u s (calls_from (suc number) more)) (calls_on u s (calls_from (suc number) more))) [
        | true ↦ ap (λ xs. call_at number client call more ∷ xs) (asked_on (suc number) (with_call opened client (Some number)) more)
        | false ↦ asked_on (suc number) (with_call opened client None) more
      ]
  asked_on number opened (End client recorded ∷ more) = elim (opened client) as (λ o. asked_in (end_before o number (events_with u s (suc number) (with_call opened client None) more)) ≡ calls_on u s (calls_from (suc number) more)) [
    | None ↦ asked_on (suc number) (with_call opened client None) more
    | Some asked ↦ asked_on (suc number) (with_call opened client None) more
  ]
  asked_on number opened (Abort client ∷ more) = asked_on (suc number) (with_call opened client None) more
  asked_on number opened (Lost client ∷ more) = asked_on (suc number) (with_call opened client None) more

  times_from : (number : ℕ) (opened : OpenCalls) (lines : List Line) → AllByRecursion (λ e. number ≤ time_of e) (events_with u s number opened lines)
  times_from number opened [] = tt
  times_from number opened (Ask client call ∷ more) = elim (is_on u s call) as (λ b. AllByRecursion (λ e. number ≤ time_of e) (cond b (Asks (call_at number client call more) ∷ events_with u s (suc number) (with_call opened client (Some number)) more) (events_with u s (suc number) (with_call opened client None) more))) [
    | true ↦ (le_refl number, all_map (λ e. suc number ≤ time_of e) (λ e. number ≤ time_of e) (λ e h. omega (arith, h)) (events_with u s (suc number) (with_call opened client (Some number)) more) (times_from (suc number) (with_call opened client (Some number)) more))
    | false ↦ all_map (λ e. suc number ≤ time_of e) (λ e. number ≤ time_of e) (λ e h. omega (arith, h)) (events_with u s (suc number) (with_call opened client None) more) (times_from (suc number) (with_call opened client None) more)
  ]
  times_from number opened (End client recorded ∷ more) =
      let rest : AllByRecursion (λ e. number ≤ time_of e) (events_with u s (suc number) (with_call opened client None) more) = all_map (λ e. suc number ≤ time_of e) (λ e. number ≤ time_of e) (λ e h. omega (arith, h)) (events_with u s (suc number) (with_call opened client None) more) (times_from (suc number) (with_call opened client None) more) in
      elim (opened client) as (λ o. AllByRecursion (λ e. number ≤ time_of e) (end_before o number (events_with u s (suc number) (with_call opened client None) more))) [
        | None ↦ rest
        | Some asked ↦ (le_refl number, rest)
      ]
  times_from number opened (Abort client ∷ more) = all_map (λ e. suc number ≤ time_of e) (λ e. number ≤ time_of e) (λ e h. omega (arith, h)) (events_with u s (suc number) (with_call opened client None) more) (times_from (suc number) (with_call opened client None) more)
  times_from number opened (Lost client ∷ more) = all_map (λ e. suc number ≤ time_of e) (λ e. number ≤ time_of e) (λ e h. omega (arith, h)) (events_with u s (suc number) (with_call opened client None) more) (times_from (suc number) (with_call opened client None) more)

  after : (number : ℕ) (opened : OpenCalls) (lines : List Line) → AreAfter number (events_with u s (suc number) opened lines)
  after number opened lines = all_map (λ e. suc number ≤ time_of e) (λ e. number < time_of e) (λ e h. omega (arith, h)) (events_with u s (suc number) opened lines) (times_from (suc number) opened lines)

  pub times_rise : (number : ℕ) (opened : OpenCalls) (lines : List Line) → TimesRise (events_with u s number opened lines)
  times_rise number opened [] = tt
  times_rise number opened (Ask client call ∷ more) = elim (is_on u s call) as (λ b. TimesRise (cond b (Asks (call_at number client call more) ∷ events_with u s (suc number) (with_call opened client (Some number)) more) (events_with u s (suc number) (with_call opened client None) more))) [
    | true ↦ (after number (with_call opened client (Some number)) more, times_rise (suc number) (with_call opened client (Some number)) more)
    | false ↦ times_rise (suc number) (with_call opened client None) more
  ]
  times_rise number opened (End client recorded ∷ more) = elim (opened client) as (λ o. TimesRise (end_before o number (events_with u s (suc number) (with_call opened client None) more))) [
    | None ↦ times_rise (suc number) (with_call opened client None) more
    | Some asked ↦ (after number (with_call opened client None) more, times_rise (suc number) (with_call opened client None) more)
  ]
  times_rise number opened (Abort client ∷ more) = times_rise (suc number) (with_call opened client None) more
  times_rise number opened (Lost client ∷ more) = times_rise (suc number) (with_call opened client None) more

  -- an end of another call before the events, or none
  ends_behind : (x : Observed) (o : Option ℕ) (number : ℕ) (events : List Event) → EndsIn x events → EndsIn x (end_before o number events)
  ends_behind x None number events h = h
  ends_behind x (Some asked) number events h = inr h

  fit_behind : (x : Observed) (o : Option ℕ) (number : ℕ) (events : List Event) → (o ≡ Some x.asked → IsAnsweredAt number x.outcome) → EndsFit x events → EndsFit x (end_before o number events)
  fit_behind x None number events f h = h
  fit_behind x (Some asked) number events f h = (λ e. f (ap Some (sym e)), h)

  -- the call of a client that is open and answered has its end
  ends_in : (number : ℕ) (opened : OpenCalls) (lines : List Line) (client : ℕ) (x : Observed) → opened client ≡ Some x.asked → x.outcome ≡ end_of client number lines → IsAnswered x.outcome → EndsIn x (events_with u s number opened lines)
  ends_in number opened [] client x has is answered = subst IsAnswered is answered
  ends_in number opened (Ask other call ∷ more) client x has is answered = elim (same_or_not other client) [
    | inl e ↦ absurd (subst IsAnswered (is ∙ ap (λ b. cond b Unknown (end_of client (suc number) more)) (eq-eqb other client e)) answered)
    | inr n ↦
        let later : x.outcome ≡ end_of client (suc number) more = is ∙ ap (λ b. cond b Unknown (end_of client (suc number) more)) (ne_eqb other client n) in
        elim (is_on u s call) as (λ b. EndsIn x (cond b (Asks (call_at number other call more) ∷ events_with u s (suc number) (with_call opened other (Some number)) more) (events_with u s (suc number) (with_call opened other None) more))) [
          | true ↦ ends_in (suc number) (with_call opened other (Some number)) more client x (with_other opened other (Some number) client (λ d. n (sym d)) ∙ has) later answered
          | false ↦ ends_in (suc number) (with_call opened other None) more client x (with_other opened other None client (λ d. n (sym d)) ∙ has) later answered
        ]
  ]
  ends_in number opened (End other recorded ∷ more) client x has is answered = elim (same_or_not other client) [
    | inl e ↦
        let now : x.outcome ≡ Answered number recorded = is ∙ ap (λ b. cond b (Answered number recorded) (end_of client (suc number) more)) (eq-eqb other client e) in
        subst (λ o. EndsIn x (end_before o number (events_with u s (suc number) (with_call opened other None) more))) (sym (ap opened e ∙ has)) (inl (refl, subst (IsAnsweredAt number) (sym now) refl))
    | inr n ↦
        let later : x.outcome ≡ end_of client (suc number) more = is ∙ ap (λ b. cond b (Answered number recorded) (end_of client (suc number) more)) (ne_eqb other client n) in
        ends_behind x (opened other) number (events_with u s (suc number) (with_call opened other None) more)
        (ends_in (suc number) (with_call opened other None) more client x (with_other opened other None client (λ d. n (sym d)) ∙ has) later answered)
  ]
  ends_in number opened (Abort other ∷ more) client x has is answered = elim (same_or_not other client) [
    | inl e ↦ absurd (subst IsAnswered (is ∙ ap (λ b. cond b (Aborted number) (end_of client (suc number) more)) (eq-eqb other client e)) answered)
    | inr n ↦
        let later : x.outcome ≡ end_of client (suc number) more = is ∙ ap (λ b. cond b (Aborted number) (end_of client (suc number) more)) (ne_eqb other client n) in
        ends_in (suc number) (with_call opened other None) more client x (with_other opened other None client (λ d. n (sym d)) ∙ has) later answered
  ]
  ends_in number opened (Lost other ∷ more) client x has is answered = elim (same_or_not other client) [
    | inl e ↦ absurd (subst IsAnswered (is ∙ ap (λ b. cond b Unknown (end_of client (suc number) more)) (eq-eqb other client e)) answered)
    | inr n ↦
        let later : x.outcome ≡ end_of client (suc number) more = is ∙ ap (λ b. cond b Unknown (end_of client (suc number) more)) (ne_eqb other client n) in
        ends_in (suc number) (with_call opened other None) more client x (with_other opened other None client (λ d. n (sym d)) ∙ has) later answered
  ]

  -- a call that no client has open, and that was asked before, has no end
  no_ends : (number : ℕ) (opened : OpenCalls) (lines : List Line) (x : Observed) → NoneHas opened x.asked → x.asked < number → EndsFit x (events_with u s number opened lines)
  no_ends number opened [] x none lt = tt
  no_ends number opened (Ask other call ∷ more) x none lt = elim (is_on u s call) as (λ b. EndsFit x (cond b (Asks (call_at number other call more) ∷ events_with u s (suc number) (with_call opened other (Some number)) more) (events_with u s (suc number) (with_call opened other None) more))) [
    | true ↦ no_ends (suc number) (with_call opened other (Some number)) more x (none_ask number opened other x.asked lt (λ d _ h. none d h)) (omega (arith, lt))
    | false ↦ no_ends (suc number) (with_call opened other None) more x (none_without opened other x.asked (λ d _ h. none d h)) (omega (arith, lt))
  ]
  no_ends number opened (End other recorded ∷ more) x none lt = fit_behind x (opened other) number (events_with u s (suc number) (with_call opened other None) more) (λ h. absurd (none other h))
      (no_ends (suc number) (with_call opened other None) more x (none_without opened other x.asked (λ d _ h. none d h)) (omega (arith, lt)))
  no_ends number opened (Abort other ∷ more) x none lt = no_ends (suc number) (with_call opened other None) more x (none_without opened other x.asked (λ d _ h. none d h)) (omega (arith, lt))
  no_ends number opened (Lost other ∷ more) x none lt = no_ends (suc number) (with_call opened other None) more x (none_without opened other x.asked (λ d _ h. none d h)) (omega (arith, lt))

  -- the ends of a client's open call are where it was answered
  ends_fit : (number : ℕ) (opened : OpenCalls) (lines : List Line) (client : ℕ) (x : Observed) → AreOpened number opened → opened client ≡ Some x.asked → x.outcome ≡ end_of client number lines → EndsFit x (events_with u s number opened lines)
  ends_fit number opened [] client x are has is = tt
  ends_fit number opened (Ask other call ∷ more) client x are has is =
      let lt : x.asked < number = are.past client x.asked has in
      elim (same_or_not other client) [
        | inl e ↦
            let none : (d : ℕ) → d ≢ other → opened d ≡ Some x.asked → ⊥ = λ d n h. n (are.unique d client x.asked h has ∙ sym e) in
            elim (is_on u s call) as (λ b. EndsFit x (cond b (Asks (call_at number other call more) ∷ events_with u s (suc number) (with_call opened other (Some number)) more) (events_with u s (suc number) (with_call opened other None) more))) [
              | true ↦ no_ends (suc number) (with_call opened other (Some number)) more x (none_ask number opened other x.asked lt none) (omega (arith, lt))
              | false ↦ no_ends (suc number) (with_call opened other None) more x (none_without opened other x.asked none) (omega (arith, lt))
            ]
        | inr n ↦
            let later : x.outcome ≡ end_of client (suc number) more = is ∙ ap (λ b. cond b Unknown (end_of client (suc number) more)) (ne_eqb other client n) in
            elim (is_on u s call) as (λ b. EndsFit x (cond b (Asks (call_at number other call more) ∷ events_with u s (suc number) (with_call opened other (Some number)) more) (events_with u s (suc number) (with_call opened other None) more))) [
              | true ↦ ends_fit (suc number) (with_call opened other (Some number)) more client x (opened_ask number opened other are) (with_other opened other (Some number) client (λ d. n (sym d)) ∙ has) later
              | false ↦ ends_fit (suc number) (with_call opened other None) more client x (opened_without number opened other are) (with_other opened other None client (λ d. n (sym d)) ∙ has) later
            ]
      ]
  ends_fit number opened (End other recorded ∷ more) client x are has is =
      let lt : x.asked < number = are.past client x.asked has in
      elim (same_or_not other client) [
        | inl e ↦
            let now : x.outcome ≡ Answered number recorded = is ∙ ap (λ b. cond b (Answered number recorded) (end_of client (suc number) more)) (eq-eqb other client e) in
            let none : (d : ℕ) → d ≢ other → opened d ≡ Some x.asked → ⊥ = λ d n h. n (are.unique d client x.asked h has ∙ sym e) in
            fit_behind x (opened other) number (events_with u s (suc number) (with_call opened other None) more) (λ _. subst (IsAnsweredAt number) (sym now) refl)
            (no_ends (suc number) (with_call opened other None) more x (none_without opened other x.asked none) (omega (arith, lt)))
        | inr n ↦
            let later : x.outcome ≡ end_of client (suc number) more = is ∙ ap (λ b. cond b (Answered number recorded) (end_of client (suc number) more)) (ne_eqb other client n) in
            fit_behind x (opened other) number (events_with u s (suc number) (with_call opened other None) more) (λ h. absurd (n (are.unique other client x.asked h has)))
            (ends_fit (suc number) (with_call opened other None) more client x (opened_without number opened other are) (with_other opened other None client (λ d. n (sym d)) ∙ has) later)
      ]
  ends_fit number opened (Abort other ∷ more) client x are has is =
      let lt : x.asked < number = are.past client x.asked has in
      elim (same_or_not other client) [
        | inl e ↦
            let none : (d : ℕ) → d ≢ other → opened d ≡ Some x.asked → ⊥ = λ d n h. n (are.unique d client x.asked h has ∙ sym e) in
            no_ends (suc number) (with_call opened other None) more x (none_without opened other x.asked none) (omega (arith, lt))
        | inr n ↦
            let later : x.outcome ≡ end_of client (suc number) more = is ∙ ap (λ b. cond b (Aborted number) (end_of client (suc number) more)) (ne_eqb other client n) in
            ends_fit (suc number) (with_call opened other None) more client x (opened_without number opened other are) (with_other opened other None client (λ d. n (sym d)) ∙ has) later
      ]
  ends_fit number opened (Lost other ∷ more) client x are has is =
      let lt : x.asked < number = are.past client x.asked has in
      elim (same_or_not other client) [
        | inl e ↦
            let none : (d : ℕ) → d ≢ other → opened d ≡ Some x.asked → ⊥ = λ d n h. n (are.unique d client x.asked h has ∙ sym e) in
            no_ends (suc number) (with_call opened other None) more x (none_without opened other x.asked none) (omega (arith, lt))
        | inr n ↦
            let later : x.outcome ≡ end_of client (suc number) more = is ∙ ap (λ b. cond b Unknown (end_of client (suc number) more)) (ne_eqb other client n) in
            ends_fit (suc number) (with_call opened other None) more client x (opened_without number opened other are) (with_other opened other None client (λ d. n (sym d)) ∙ has) later
      ]

  pub have_ends : (number : ℕ) (opened : OpenCalls) (lines : List Line) → AreOpened number opened → HaveEnds (events_with u s number opened lines)
  have_ends number opened [] are = tt
  have_ends number opened (Ask client call ∷ more) are = elim (is_on u s call) as (λ b. HaveEnds (cond b (Asks (call_at number client call more) ∷ events_with u s (suc number) (with_call opened client (Some number)) more) (events_with u s (suc number) (with_call opened client None) more))) [
    | true ↦ (
      λ answered. ends_in (suc number) (with_call opened client (Some number)) more client (call_at number client call more) (with_same opened client (Some number)) refl answered,
      ends_fit (suc number) (with_call opened client (Some number)) more client (call_at number client call more) (opened_ask number opened client are) (with_same opened client (Some number)) refl,
      have_ends (suc number) (with_call opened client (Some number)) more (opened_ask number opened client are),
    )
    | false ↦ have_ends (suc number) (with_call opened client None) more (opened_without number opened client are)
  ]
  have_ends number opened (End client recorded ∷ more) are = elim (opened client) as (λ o. HaveEnds (end_before o number (events_with u s (suc number) (with_call opened client None) more))) [
    | None ↦ have_ends (suc number) (with_call opened client None) more (opened_without number opened client are)
    | Some asked ↦ have_ends (suc number) (with_call opened client None) more (opened_without number opened client are)
  ]
  have_ends number opened (Abort client ∷ more) are = have_ends (suc number) (with_call opened client None) more (opened_without number opened client are)
  have_ends number opened (Lost client ∷ more) are = have_ends (suc number) (with_call opened client None) more (opened_without number opened client are)
