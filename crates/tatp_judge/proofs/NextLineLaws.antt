-- The events on a subscriber after one line more.
use Rattle.std.proofs.Common.{◌≡◌, ◌≢◌, ℕ, suc, ◌+◌, ◌<◌, ◌∙◌, ◌==◌, sym, ap, subst, Bool, true, false, cond, List, [], ◌∷◌, ◌++◌, length, refl, arith, Option, Some, None, eq-eqb, ne_eqb, inl, inr}
use Rattle.std.proofs.lemmas.Option.{none-some, same_Some}
use Rattle.tatp_tables.specs.Database.{Database}
use Rattle.tatp_history.specs.declared.line.Line.{Line}
use Rattle.tatp_history.specs.declared.line.Line.TheVariants.{Ask, End, Abort, Lost}
use Rattle.tatp_history.specs.declared.event.Event.{Event}
use Rattle.tatp_history.specs.declared.event.Event.TheVariants.{Asks}
use Rattle.tatp_history.specs.declared.observed.Outcome.{Outcome}
use Rattle.tatp_history.specs.declared.observed.Outcome.TheVariants.{Unknown}
use Rattle.tatp_history.specs.declared.observed.Observed.{Observed}
use Rattle.tatp_history.specs.HistoryLines.{client_of, end_at, end_of, call_at}
use Rattle.tatp_history.specs.Locality.{is_on}
use Rattle.tatp_history.specs.SubscriberEvents.{OpenCalls, no_calls, with_call, opened_by, opened_after, end_before, events_with, events_of}
use Rattle.tatp_history.proofs.SubscriberEventLaws.{same_or_not, with_same, with_other}
use Rattle.tatp_judge.specs.NextLine.{closed_by, asks_of}

-- a client's line
pub own_end : (client number : ℕ) (line : Line) (more : List Line) → client_of line ≡ client → end_of client number (line ∷ more) ≡ end_at number line
own_end client number line more e = ap (λ b. cond b (end_at number line) (end_of client (suc number) more)) (eq-eqb (client_of line) client e)

pub other_end : (client number : ℕ) (line : Line) (more : List Line) → client_of line ≢ client → end_of client number (line ∷ more) ≡ end_of client (suc number) more
other_end client number line more n = ap (λ b. cond b (end_at number line) (end_of client (suc number) more)) (ne_eqb (client_of line) client n)

-- the outcome of the call that was asked then, after a line whose client had this call open
abbrev outcome_next : Option ℕ → ℕ → Outcome → Outcome → Outcome
outcome_next None asked outcome old = old
outcome_next (Some one) asked outcome old = cond (asked == one) outcome old

outcome_kept : (one : Option ℕ) (asked : ℕ) (outcome old : Outcome) → (one ≡ Some asked → ⊥) → outcome_next one asked outcome old ≡ old
outcome_kept None asked outcome old n = refl
outcome_kept (Some one) asked outcome old n = ap (λ b. cond b outcome old) (ne_eqb asked one (λ e. n (ap Some (sym e))))

outcome_written : (one : Option ℕ) (asked : ℕ) (outcome old : Outcome) → one ≡ Some asked → outcome_next one asked outcome old ≡ outcome
outcome_written one asked outcome old e = ap (λ o. outcome_next o asked outcome old) e ∙ ap (λ b. cond b outcome old) (eq-eqb asked asked refl)

module _ (u : Database) (s : ℕ) where
  -- ---- open calls, line by line
  pub opened_own : (number : ℕ) (opened : OpenCalls) (line : Line) (asked : ℕ) → asked < number → opened_by u s number opened line (client_of line) ≡ Some asked → ⊥
  opened_own number opened (Ask client call) asked lt h = elim (is_on u s call) as (λ b. with_call opened client (cond b (Some number) None) client ≡ Some asked → ⊥) [
    | true ↦ λ k. let is : number ≡ asked = same_Some number asked (sym (with_same opened client (Some number)) ∙ k) in omega (arith, is, lt)
    | false ↦ λ k. none-some asked (sym (with_same opened client None) ∙ k)
  ] h
  opened_own number opened (End client recorded) asked lt h = none-some asked (sym (with_same opened client None) ∙ h)
  opened_own number opened (Abort client) asked lt h = none-some asked (sym (with_same opened client None) ∙ h)
  opened_own number opened (Lost client) asked lt h = none-some asked (sym (with_same opened client None) ∙ h)

  pub opened_other : (number : ℕ) (opened : OpenCalls) (line : Line) (client : ℕ) → client_of line ≢ client → opened_by u s number opened line client ≡ opened client
  opened_other number opened (Ask other call) client n = with_other opened other (cond (is_on u s call) (Some number) None) client (λ e. n (sym e))
  opened_other number opened (End other recorded) client n = with_other opened other None client (λ e. n (sym e))
  opened_other number opened (Abort other) client n = with_other opened other None client (λ e. n (sym e))
  opened_other number opened (Lost other) client n = with_other opened other None client (λ e. n (sym e))

  -- no client other than this has the call open that was asked then
  abbrev Only : ℕ → ℕ → OpenCalls → Type 0
  Only client asked opened = (other : ℕ) → opened other ≡ Some asked → other ≡ client

  only_next : (number : ℕ) (opened : OpenCalls) (line : Line) (client asked : ℕ) → asked < number → Only client asked opened → Only client asked (opened_by u s number opened line)
  only_next number opened line client asked lt only other h = elim (same_or_not (client_of line) other) [
    | inl e ↦ absurd (opened_own number opened line asked lt (ap (opened_by u s number opened line) e ∙ h))
    | inr n ↦ only other (sym (opened_other number opened line other n) ∙ h)
  ]

  none_next : (number : ℕ) (opened : OpenCalls) (line : Line) (asked : ℕ) → asked < number → Only (client_of line) asked opened → (other : ℕ) → opened_by u s number opened line other ≡ Some asked → ⊥
  none_next number opened line asked lt only other h = elim (same_or_not (client_of line) other) [
    | inl e ↦ opened_own number opened line asked lt (ap (opened_by u s number opened line) e ∙ h)
    | inr n ↦ n (sym (only other (sym (opened_other number opened line other n) ∙ h)))
  ]

  none_after : (number : ℕ) (opened : OpenCalls) (lines : List Line) (asked : ℕ) → asked < number → ((other : ℕ) → opened other ≡ Some asked → ⊥) → (other : ℕ) → opened_after u s number opened lines other ≡ Some asked → ⊥
  none_after number opened [] asked lt none other h = none other h
  none_after number opened (line ∷ more) asked lt none other h =
      none_after (suc number) (opened_by u s number opened line) more asked (omega (arith, lt)) (none_next number opened line asked lt (λ other h. absurd (none other h))) other h

  -- ---- how an open call ends, after one line more
  end_next : (lines : List Line) (line : Line) (number last : ℕ) (opened : OpenCalls) (client asked : ℕ) → number + length lines ≡ last → asked < number → opened client ≡ Some asked → Only client asked opened
      → end_of client number (lines ++ line ∷ []) ≡ outcome_next (opened_after u s number opened lines (client_of line)) asked (end_at last line) (end_of client number lines)
  end_next [] line number last opened client asked n lt has only = elim (same_or_not (client_of line) client) [
    | inl e ↦
        let at : number ≡ last = omega (arith, n) in
        own_end client number line [] e ∙ (ap (λ k. end_at k line) at ∙ sym (outcome_written (opened (client_of line)) asked (end_at last line) Unknown (ap opened e ∙ has)))
    | inr m ↦ other_end client number line [] m ∙ sym (outcome_kept (opened (client_of line)) asked (end_at last line) Unknown (λ h. m (only (client_of line) h)))
  ]
  end_next (first ∷ more) line number last opened client asked n lt has only =
      let m : number + suc (length more) ≡ last = n in
      let one = opened_after u s (suc number) (opened_by u s number opened first) more (client_of line) in
      elim (same_or_not (client_of first) client) [
        | inl e ↦
            own_end client number first (more ++ line ∷ []) e
            ∙ (sym (outcome_kept one asked (end_at last line) (end_at number first)
            (none_after (suc number) (opened_by u s number opened first) more asked (omega (arith, lt)) (none_next number opened first asked lt (λ other h. only other h ∙ sym e)) (client_of line)))
            ∙ ap (outcome_next one asked (end_at last line)) (sym (own_end client number first more e)))
        | inr k ↦
            other_end client number first (more ++ line ∷ []) k
            ∙ (end_next more line (suc number) last (opened_by u s number opened first) client asked (omega (arith, m)) (omega (arith, lt)) (opened_other number opened first client k ∙ has) (only_next number opened first client asked lt only)
            ∙ ap (outcome_next one asked (end_at last line)) (sym (other_end client number first more k)))
      ]

  -- all open calls were asked before
  abbrev pub ArePast : ℕ → OpenCalls → Type 0
  ArePast number opened = (client asked : ℕ) → opened client ≡ Some asked → asked < number

  past_next : (number : ℕ) (opened : OpenCalls) (line : Line) → ArePast number opened → ArePast (suc number) (opened_by u s number opened line)
  past_next number opened line past client asked h = elim (same_or_not (client_of line) client) [
    | inl e ↦ own number opened line asked past (ap (opened_by u s number opened line) e ∙ h)
    | inr n ↦ let lt : asked < number = past client asked (sym (opened_other number opened line client n) ∙ h) in omega (arith, lt)
  ]
    where
      own : (number : ℕ) (opened : OpenCalls) (line : Line) (asked : ℕ) → ArePast number opened → opened_by u s number opened line (client_of line) ≡ Some asked → asked < suc number
      own number opened (Ask client call) asked past h = elim (is_on u s call) as (λ b. with_call opened client (cond b (Some number) None) client ≡ Some asked → asked < suc number) [
        | true ↦ λ k. let is : number ≡ asked = same_Some number asked (sym (with_same opened client (Some number)) ∙ k) in omega (arith, is)
        | false ↦ λ k. absurd (none-some asked (sym (with_same opened client None) ∙ k))
      ] h
      own number opened (End client recorded) asked past h = absurd (none-some asked (sym (with_same opened client None) ∙ h))
      own number opened (Abort client) asked past h = absurd (none-some asked (sym (with_same opened client None) ∙ h))
      own number opened (Lost client) asked past h = absurd (none-some asked (sym (with_same opened client None) ∙ h))

  -- ---- one event before the others
  closed_asks : (one : Option ℕ) (last : ℕ) (line : Line) (x : Observed) (events : List Event)
      → closed_by one last line (Asks x ∷ events) ≡ Asks (record { asked = x.asked; call = x.call; outcome = outcome_next one x.asked (end_at last line) x.outcome }) ∷ closed_by one last line events
  closed_asks None last line x events = refl
  closed_asks (Some one) last line x events = refl

  closed_end : (one still : Option ℕ) (last number : ℕ) (line : Line) (events : List Event) → closed_by one last line (end_before still number events) ≡ end_before still number (closed_by one last line events)
  closed_end one None last number line events = refl
  closed_end None (Some asked) last number line events = refl
  closed_end (Some one) (Some asked) last number line events = refl

  before_both : (still : Option ℕ) (number : ℕ) (events more : List Event) → end_before still number (events ++ more) ≡ end_before still number events ++ more
  before_both None number events more = refl
  before_both (Some asked) number events more = refl

  -- ---- the law
  next_events : (lines : List Line) (line : Line) (number last : ℕ) (opened : OpenCalls) → number + length lines ≡ last → ArePast number opened
      → events_with u s number opened (lines ++ line ∷ []) ≡ closed_by (opened_after u s number opened lines (client_of line)) last line (events_with u s number opened lines) ++ asks_of u s last line
  next_events [] (Ask client call) number last opened n past =
      let at : number ≡ last = omega (arith, n) in
      asked_alone (opened client) (is_on u s call) ∙ ap (λ k. closed_by (opened client) k (Ask client call) [] ++ asks_of u s k (Ask client call)) at
    where
      asked_alone : (one : Option ℕ) (b : Bool) → cond b (Asks (call_at number client call []) ∷ []) [] ≡ closed_by one number (Ask client call) [] ++ cond b (Asks (call_at number client call []) ∷ []) []
      asked_alone None b = refl
      asked_alone (Some one) b = refl
  next_events [] (End client recorded) number last opened n past =
      let at : number ≡ last = omega (arith, n) in
      ended_alone (opened client) ∙ ap (λ k. closed_by (opened client) k (End client recorded) [] ++ []) at
    where
      ended_alone : (one : Option ℕ) → end_before one number [] ≡ closed_by one number (End client recorded) [] ++ []
      ended_alone None = refl
      ended_alone (Some one) = refl
  next_events [] (Abort client) number last opened n past = aborted_alone (opened client)
    where
      aborted_alone : (one : Option ℕ) → [] ≡ closed_by one last (Abort client) [] ++ []
      aborted_alone None = refl
      aborted_alone (Some one) = refl
  next_events [] (Lost client) number last opened n past = lost_alone (opened client)
    where
      lost_alone : (one : Option ℕ) → [] ≡ closed_by one last (Lost client) [] ++ []
      lost_alone None = refl
      lost_alone (Some one) = refl
  next_events (Ask client call ∷ more) line number last opened n past =
      let m : number + suc (length more) ≡ last = n in
      elim (is_on u s call) as (λ b. ArePast (suc number) (with_call opened client (cond b (Some number) None)) →
      cond b (Asks (call_at number client call (more ++ line ∷ [])) ∷ events_with u s (suc number) (with_call opened client (Some number)) (more ++ line ∷ [])) (events_with u s (suc number) (with_call opened client None) (more ++ line ∷ []))
      ≡ closed_by (opened_after u s (suc number) (with_call opened client (cond b (Some number) None)) more (client_of line)) last line
      (cond b (Asks (call_at number client call more) ∷ events_with u s (suc number) (with_call opened client (Some number)) more) (events_with u s (suc number) (with_call opened client None) more)) ++ asks_of u s last line) [
        | true ↦ λ after.
            let opened' : OpenCalls = with_call opened client (Some number) in
            let one = opened_after u s (suc number) opened' more (client_of line) in
            let ends : end_of client (suc number) (more ++ line ∷ []) ≡ outcome_next one number (end_at last line) (end_of client (suc number) more)
            = end_next more line (suc number) last opened' client number (omega (arith, m)) (omega arith) (with_same opened client (Some number)) (λ other h. elim (same_or_not other client) [
              | inl e ↦ e
              | inr k ↦ let lt : number < number = past other number (sym (with_other opened client (Some number) other k) ∙ h) in absurd (omega (arith, lt))
            ]) in
            let rest = next_events more line (suc number) last opened' (omega (arith, m)) after in
            (λ i. Asks (record { asked = number; call = call; outcome = ends i }) ∷ rest i)
            ∙ ap (λ es. es ++ asks_of u s last line) (sym (closed_asks one last line (call_at number client call more) (events_with u s (suc number) opened' more)))
        | false ↦ λ after. next_events more line (suc number) last (with_call opened client None) (omega (arith, m)) after
      ] (past_next number opened (Ask client call) past)
  next_events (End client recorded ∷ more) line number last opened n past =
      let m : number + suc (length more) ≡ last = n in
      let opened' : OpenCalls = with_call opened client None in
      let one = opened_after u s (suc number) opened' more (client_of line) in
      let events = events_with u s (suc number) opened' more in
      ap (end_before (opened client) number) (next_events more line (suc number) last opened' (omega (arith, m)) (past_next number opened (End client recorded) past))
      ∙ (before_both (opened client) number (closed_by one last line events) (asks_of u s last line)
      ∙ ap (λ es. es ++ asks_of u s last line) (sym (closed_end one (opened client) last number line events)))
  next_events (Abort client ∷ more) line number last opened n past =
      let m : number + suc (length more) ≡ last = n in
      next_events more line (suc number) last (with_call opened client None) (omega (arith, m)) (past_next number opened (Abort client) past)
  next_events (Lost client ∷ more) line number last opened n past =
      let m : number + suc (length more) ≡ last = n in
      next_events more line (suc number) last (with_call opened client None) (omega (arith, m)) (past_next number opened (Lost client) past)

  none_past : (number : ℕ) → ArePast number no_calls
  none_past number client asked h = absurd (none-some asked h)

  pub events_next : (lines : List Line) (line : Line)
      → events_of u s (lines ++ line ∷ []) ≡ closed_by (opened_after u s 1 no_calls lines (client_of line)) (suc (length lines)) line (events_of u s lines) ++ asks_of u s (suc (length lines)) line
  events_next lines line = next_events lines line 1 (suc (length lines)) no_calls (omega arith) (none_past 1)

  -- ---- open calls
  pub opened_next : (lines : List Line) (line : Line) (number last : ℕ) (opened : OpenCalls) → number + length lines ≡ last → opened_after u s number opened (lines ++ line ∷ []) ≡ opened_by u s last (opened_after u s number opened lines) line
  opened_next [] line number last opened n = let at : number ≡ last = omega (arith, n) in ap (λ k. opened_by u s k opened line) at
  opened_next (first ∷ more) line number last opened n =
      let m : number + suc (length more) ≡ last = n in opened_next more line (suc number) last (opened_by u s number opened first) (omega (arith, m))

  pub opened_past : (lines : List Line) (number last : ℕ) (opened : OpenCalls) → number + length lines ≡ last → ArePast number opened → ArePast last (opened_after u s number opened lines)
  opened_past [] number last opened n past = let at : number ≡ last = omega (arith, n) in subst (λ k. ArePast k opened) at past
  opened_past (first ∷ more) number last opened n past =
      let m : number + suc (length more) ≡ last = n in opened_past more (suc number) last (opened_by u s number opened first) (omega (arith, m)) (past_next number opened first past)
