-- A history cut between two lines, where no call on a subscriber is open: its events are those of both parts.
use Rattle.std.proofs.Common.{◌≡◌, ◌≢◌, ℕ, suc, ◌+◌, ◌⊎◌, ◌↔◌, true, false, cond, List, [], ◌∷◌, ◌++◌, length, Option, Some, None, refl, sym, ◌∙◌, ap, subst, arith, eq-eqb, ne_eqb, inl, inr}
use Rattle.tatp_tables.specs.Database.{Database}
use Rattle.tatp_history.specs.declared.line.Line.{Line}
use Rattle.tatp_history.specs.declared.line.Line.TheVariants.{Ask, End, Abort, Lost}
use Rattle.tatp_history.specs.declared.event.Event.{Event}
use Rattle.tatp_history.specs.declared.event.Event.TheVariants.{Asks}
use Rattle.tatp_history.specs.HistoryLines.{client_of, end_at, end_of, call_at}
use Rattle.tatp_history.specs.Locality.{is_on}
use Rattle.tatp_history.specs.JustInTime.{Explains}
use Rattle.tatp_history.specs.Configurations.{starting, LeadToSome}
use Rattle.tatp_history.specs.SubscriberEvents.{OpenCalls, no_calls, with_call, opened_by, opened_after, NothingIsOpen, end_before, events_with, events_from, events_of}
use Rattle.tatp_history.proofs.LeadLaws.{leads, led, led_on, led_by}
use Rattle.tatp_history.proofs.SubscriberEventLaws.{same_or_not, with_same, with_other}

module _ (u : Database) (s : ℕ) where
  -- a line of another client
  stays : (number : ℕ) (opened : OpenCalls) (line : Line) (client : ℕ) → client_of line ≢ client → opened_by u s number opened line client ≡ opened client
  stays number opened (Ask other call) client n = with_other opened other (cond (is_on u s call) (Some number) None) client (λ e. n (sym e))
  stays number opened (End other recorded) client n = with_other opened other None client (λ e. n (sym e))
  stays number opened (Abort other) client n = with_other opened other None client (λ e. n (sym e))
  stays number opened (Lost other) client n = with_other opened other None client (λ e. n (sym e))

  -- a call ends in the first lines, or it stays open there
  end_or_open : (first second : List Line) (number : ℕ) (opened : OpenCalls) (client : ℕ)
      → (end_of client number (first ++ second) ≡ end_of client number first) ⊎ (opened_after u s number opened first client ≡ opened client)
  end_or_open [] second number opened client = inr refl
  end_or_open (line ∷ more) second number opened client = elim (same_or_not (client_of line) client) [
    | inl e ↦ inl (ap (λ b. cond b (end_at number line) (end_of client (suc number) (more ++ second))) (eq-eqb (client_of line) client e)
        ∙ sym (ap (λ b. cond b (end_at number line) (end_of client (suc number) more)) (eq-eqb (client_of line) client e)))
    | inr n ↦ elim (end_or_open more second (suc number) (opened_by u s number opened line) client) [
      | inl k ↦ inl (ap (λ b. cond b (end_at number line) (end_of client (suc number) (more ++ second))) (ne_eqb (client_of line) client n)
          ∙ (k ∙ sym (ap (λ b. cond b (end_at number line) (end_of client (suc number) more)) (ne_eqb (client_of line) client n))))
      | inr k ↦ inr (k ∙ stays number opened line client n)
    ]
  ]

  -- a call that isn't open after the first lines has ended in them
  ended_there : (first second : List Line) (number client : ℕ) (opened : OpenCalls) (asked : ℕ) → opened client ≡ Some asked → opened_after u s number opened first client ≡ None
      → end_of client number (first ++ second) ≡ end_of client number first
  ended_there first second number client opened asked has none = elim (end_or_open first second number opened client) [
    | inl e ↦ e
    | inr k ↦ let none_is : None ≡ Some asked = sym none ∙ (k ∙ has) in absurd cc
  ]

  before_more : (o : Option ℕ) (number : ℕ) (events more : List Event) → end_before o number (events ++ more) ≡ end_before o number events ++ more
  before_more None number events more = refl
  before_more (Some asked) number events more = refl

  pub events_cut : (first second : List Line) (number next : ℕ) (opened : OpenCalls) → number + length first ≡ next → ((client : ℕ) → opened_after u s number opened first client ≡ None)
      → events_with u s number opened (first ++ second) ≡ events_with u s number opened first ++ events_from u s next second
  events_cut [] second number next opened n none =
      let at : number ≡ next = omega (arith, n) in
      (λ i. events_with u s number (λ client. none client i) second) ∙ ap (λ k. events_from u s k second) at
  events_cut (Ask client call ∷ more) second number next opened n none =
      let m : number + suc (length more) ≡ next = n in
      elim (is_on u s call) as (λ b. ((other : ℕ) → opened_after u s (suc number) (with_call opened client (cond b (Some number) None)) more other ≡ None)
      → cond b (Asks (call_at number client call (more ++ second)) ∷ events_with u s (suc number) (with_call opened client (Some number)) (more ++ second)) (events_with u s (suc number) (with_call opened client None) (more ++ second))
      ≡ cond b (Asks (call_at number client call more) ∷ events_with u s (suc number) (with_call opened client (Some number)) more) (events_with u s (suc number) (with_call opened client None) more) ++ events_from u s next second) [
        | true ↦ λ after.
            let same : end_of client (suc number) (more ++ second) ≡ end_of client (suc number) more
            = ended_there more second (suc number) client (with_call opened client (Some number)) number (with_same opened client (Some number)) (after client) in
            let rest = events_cut more second (suc number) next (with_call opened client (Some number)) (omega (arith, m)) after in
            λ i. Asks (record { asked = number; call = call; outcome = same i }) ∷ rest i
        | false ↦ λ after. events_cut more second (suc number) next (with_call opened client None) (omega (arith, m)) after
      ] none
  events_cut (End client recorded ∷ more) second number next opened n none =
      let m : number + suc (length more) ≡ next = n in
      ap (end_before (opened client) number) (events_cut more second (suc number) next (with_call opened client None) (omega (arith, m)) none)
      ∙ before_more (opened client) number (events_with u s (suc number) (with_call opened client None) more) (events_from u s next second)
  events_cut (Abort client ∷ more) second number next opened n none =
      let m : number + suc (length more) ≡ next = n in events_cut more second (suc number) next (with_call opened client None) (omega (arith, m)) none
  events_cut (Lost client ∷ more) second number next opened n none =
      let m : number + suc (length more) ≡ next = n in events_cut more second (suc number) next (with_call opened client None) (omega (arith, m)) none

  -- ---- the laws
  pub events_of_both : (first second : List Line) → NothingIsOpen u s first → events_of u s (first ++ second) ≡ events_of u s first ++ events_from u s (suc (length first)) second
  events_of_both first second none = events_cut first second 1 (suc (length first)) no_calls (omega arith) none

  pub judged_in_parts : (rows : Database) (first second : List Line) → NothingIsOpen u s first
      → Explains (events_of u s (first ++ second)) rows [] ↔ LeadToSome (events_of u s first) (starting rows) (λ c. Explains (events_from u s (suc (length first)) second) c.rows c.opened)
  judged_in_parts rows first second none =
      let second' : List Event = events_from u s (suc (length first)) second in (
        λ h.
            let last = leads (events_of u s first ++ second') (starting rows) (subst (λ es. Explains es rows []) (events_of_both first second none) h) in
            let parts = led_by (events_of u s first) second' (starting rows) last.0 last.1 in
            (parts.0, parts.1, led second' parts.0 last.0 parts.2),
        λ h.
            let last = leads second' h.0 h.2 in
            subst (λ es. Explains es rows []) (sym (events_of_both first second none))
            (led (events_of u s first ++ second') (starting rows) last.0 (led_on (events_of u s first) second' (starting rows) h.0 last.0 h.1 last.1)),
      )
