-- A window after one line more.
use Rattle.std.proofs.Common.{◌≡◌, ◌≢◌, ℕ, suc, ◌+◌, ◌<◌, ◌≤◌, ◌⊎◌, ◌∙◌, sym, ap, subst, true, false, cond, List, [], ◌∷◌, ◌++◌, length, refl, arith, Option, Some, None, ne_eqb, inl, inr, append_assoc}
use Rattle.std.specs.List.{AllByRecursion}
use Rattle.std.proofs.lemmas.Bool.{cases_lt}
use Rattle.std.proofs.lemmas.List.{length-append}
use Rattle.std.proofs.lemmas.Option.{none-some}
use Rattle.tatp_tables.specs.Database.{Database, of_subscriber}
use Rattle.tatp_history.specs.declared.line.Line.{Line}
use Rattle.tatp_history.specs.declared.line.Line.TheVariants.{Ask, End, Abort, Lost}
use Rattle.tatp_history.specs.declared.event.Event.{Event}
use Rattle.tatp_history.specs.declared.event.Event.TheVariants.{Asks, Ends}
use Rattle.tatp_history.specs.declared.observed.Outcome.{Outcome}
use Rattle.tatp_history.specs.declared.observed.Observed.{Observed}
use Rattle.tatp_history.specs.HistoryLines.{client_of, end_at, call_at}
use Rattle.tatp_history.specs.Locality.{is_on}
use Rattle.tatp_history.specs.Events.{time_of, AreAfter}
use Rattle.tatp_history.specs.SubscriberEvents.{OpenCalls, no_calls, with_call, opened_by, opened_after}
use Rattle.tatp_history.proofs.SubscriberEventLaws.{same_or_not, with_same, with_other}
use Rattle.tatp_linearization.specs.Cut.{events_by}
use Rattle.tatp_linearization.specs.Held.{IsAcceptedEvent}
use Rattle.tatp_linearization.specs.Reached.{AreOfSubscriber, AreReached}
use Rattle.tatp_linearization.specs.declared.explanations.Explanations.{Explanations}
use Rattle.tatp_judge.specs.declared.window.Window.{Window}
use Rattle.tatp_judge.specs.Accepted.{IsAcceptedLine}
use Rattle.tatp_judge.specs.NextLine.{ended_call, with_outcome, ends_of, closed_by, asks_of}
use Rattle.tatp_judge.specs.Steps.{fewer, IsNoted}
use Rattle.tatp_judge.specs.Windows.{IsAmong, AreEachOnce, AreCounted, IsWindowAfter, IsCounted}
use Rattle.tatp_judge.proofs.FirstLinesLaws.{times_within}
use Rattle.tatp_judge.proofs.NumberLaws.{kept_next, number_noted}
use Rattle.tatp_judge.proofs.NextLineLaws.{events_next, opened_next, opened_own, opened_other}

-- ---- an outcome is written
outcome_both : (asked : ℕ) (o : Outcome) (first second : List Event) → with_outcome asked o (first ++ second) ≡ with_outcome asked o first ++ with_outcome asked o second
outcome_both asked o [] second = refl
outcome_both asked o (Asks x ∷ first) second = ap (λ es. Asks (ended_call asked o x) ∷ es) (outcome_both asked o first second)
outcome_both asked o (Ends other at ∷ first) second = ap (λ es. Ends other at ∷ es) (outcome_both asked o first second)

-- of a call that was asked later, in earlier events
outcome_apart : (asked from : ℕ) (o : Outcome) (events : List Event) → from < asked → AllByRecursion (λ event. time_of event ≤ from) events → with_outcome asked o events ≡ events
outcome_apart asked from o [] lt h = refl
outcome_apart asked from o (Asks x ∷ more) lt h =
    let by : x.asked ≤ from = h.0 in
    (λ i. Asks (record { asked = x.asked; call = x.call; outcome = ap (λ b. cond b o x.outcome) (ne_eqb x.asked asked (λ e. omega (arith, e, by, lt))) i }) ∷ outcome_apart asked from o more lt h.1 i)
outcome_apart asked from o (Ends other at ∷ more) lt h = ap (λ es. Ends other at ∷ es) (outcome_apart asked from o more lt h.1)

closed_both : (one : Option ℕ) (from number : ℕ) (line : Line) (before events : List Event) → ((asked : ℕ) → one ≡ Some asked → from < asked) → AllByRecursion (λ event. time_of event ≤ from) before
    → closed_by one number line (before ++ events) ≡ before ++ closed_by one number line events
closed_both None from number line before events since past = refl
closed_both (Some asked) from number line before events since past =
    ap (λ es. es ++ ends_of asked number line) (outcome_both asked (end_at number line) before events)
    ∙ (append_assoc (with_outcome asked (end_at number line) before) (with_outcome asked (end_at number line) events) (ends_of asked number line)
    ∙ ap (λ es. es ++ (with_outcome asked (end_at number line) events ++ ends_of asked number line)) (outcome_apart asked from (end_at number line) before (since asked refl) past))

-- ---- what holds of all events
all_append : (P : Event → Type 0) (first second : List Event) → AllByRecursion P first → AllByRecursion P second → AllByRecursion P (first ++ second)
all_append P [] second h k = k
all_append P (event ∷ first) second h k = (h.0, all_append P first second h.1 k)

-- ... whatever the outcomes are
module _ (P : Event → Type 0) (whatever : (x : Observed) (o : Outcome) → P (Asks x) → P (Asks (record { asked = x.asked; call = x.call; outcome = o }))) where
  all_outcome : (asked : ℕ) (o : Outcome) (events : List Event) → AllByRecursion P events → AllByRecursion P (with_outcome asked o events)
  all_outcome asked o [] h = tt
  all_outcome asked o (Asks x ∷ more) h = (whatever x (ended_call asked o x).outcome h.0, all_outcome asked o more h.1)
  all_outcome asked o (Ends other at ∷ more) h = (h.0, all_outcome asked o more h.1)

  all_ends : (asked number : ℕ) (line : Line) → ((asked : ℕ) → P (Ends asked number)) → AllByRecursion P (ends_of asked number line)
  all_ends asked number (Ask client call) h = tt
  all_ends asked number (End client recorded) h = (h asked, tt)
  all_ends asked number (Abort client) h = tt
  all_ends asked number (Lost client) h = tt

  all_closed : (one : Option ℕ) (number : ℕ) (line : Line) (events : List Event) → ((asked : ℕ) → P (Ends asked number)) → AllByRecursion P events → AllByRecursion P (closed_by one number line events)
  all_closed None number line events e h = h
  all_closed (Some asked) number line events e h = all_append P (with_outcome asked (end_at number line) events) (ends_of asked number line) (all_outcome asked (end_at number line) events h) (all_ends asked number line e)

accepted_asks : (u : Database) (s number : ℕ) (line : Line) → IsAcceptedLine line → AllByRecursion IsAcceptedEvent (asks_of u s number line)
accepted_asks u s number (Ask client call) h = elim (is_on u s call) as (λ b. AllByRecursion IsAcceptedEvent (cond b (Asks (call_at number client call []) ∷ []) [])) [ true ↦ (h, tt) | false ↦ tt ]
accepted_asks u s number (End client recorded) h = tt
accepted_asks u s number (Abort client) h = tt
accepted_asks u s number (Lost client) h = tt

later_asks : (u : Database) (s from number : ℕ) (line : Line) → from < number → AreAfter from (asks_of u s number line)
later_asks u s from number (Ask client call) lt = elim (is_on u s call) as (λ b. AreAfter from (cond b (Asks (call_at number client call []) ∷ []) [])) [ true ↦ (lt, tt) | false ↦ tt ]
later_asks u s from number (End client recorded) lt = tt
later_asks u s from number (Abort client) lt = tt
later_asks u s from number (Lost client) lt = tt

-- ---- open calls, counted
-- one of them less
pub record IsLess (client : ℕ) (clients less : List ℕ) : Type 0 where
  pub count : suc (length less) ≡ length clients
  pub others : (other : ℕ) → other ≢ client → IsAmong other clients → IsAmong other less
  pub among : (other : ℕ) → IsAmong other less → IsAmong other clients
  pub once : AreEachOnce clients → AreEachOnce less
  pub gone : AreEachOnce clients → IsAmong client less → ⊥

pub one_less : (client : ℕ) (clients : List ℕ) → IsAmong client clients → (less : List ℕ) × IsLess client clients less
one_less client [] h = absurd h
one_less client (first ∷ more) h = elim h [
  | inl e ↦ (
    more,
    record {
      count = refl;
      others = λ other n k. elim k [ inl same ↦ absurd (n (same ∙ sym e)) | inr later ↦ later ];
      among = λ other k. inr k;
      once = λ o. o.1;
      gone = λ o k. o.0 (subst (λ c. IsAmong c more) e k);
    },
  )
  | inr later ↦
      let rest = one_less client more later in (
        first ∷ rest.0,
        record {
          count = ap suc rest.1.count;
          others = λ other n k. elim k [ inl same ↦ inl same | inr m ↦ inr (rest.1.others other n m) ];
          among = λ other k. elim k [ inl same ↦ inl same | inr m ↦ inr (rest.1.among other m) ];
          once = λ o. (λ k. o.0 (rest.1.among first k), rest.1.once o.1);
          gone = λ o k. elim k [ inl same ↦ o.0 (subst (λ c. IsAmong c more) same later) | inr m ↦ rest.1.gone o.1 m ];
        },
      )
]

-- the clients of the other open calls
pub record AreOthers (client n : ℕ) (opened : OpenCalls) : Type 0 where
  pub clients : List ℕ
  pub count : length clients ≡ fewer (opened client) n
  pub once : AreEachOnce clients
  pub all : (other : ℕ) → other ≢ client → (opened other ≡ None) ⊎ IsAmong other clients
  pub still : (other : ℕ) → IsAmong other clients → opened other ≡ None → ⊥
  pub apart : (other : ℕ) → IsAmong other clients → other ≢ client

pub others_of : (client n : ℕ) (opened : OpenCalls) (one : Option ℕ) → AreCounted opened n → opened client ≡ one → AreOthers client n opened
others_of client n opened None c has = record {
  clients = c.clients;
  count = c.count ∙ sym (ap (λ o. fewer o n) has);
  once = c.once;
  all = λ other k. c.all other;
  still = λ other k. c.still other k;
  apart = λ other k e. c.still other k (ap opened e ∙ has);
}
others_of client n opened (Some asked) c has =
    let among : IsAmong client c.clients = elim (c.all client) [ inl none ↦ absurd (none-some asked (sym none ∙ has)) | inr h ↦ h ] in
    let less = one_less client c.clients among in
    record {
      clients = less.0;
      count = subst (λ o. length less.0 ≡ fewer o n) (sym has) (omega (arith, less.1.count, c.count));
      once = less.1.once c.once;
      all = λ other k. elim (c.all other) [ inl none ↦ inl none | inr h ↦ inr (less.1.others other k h) ];
      still = λ other k. c.still other (less.1.among other k);
      apart = λ other k e. less.1.gone c.once (subst (λ d. IsAmong d less.0) e k);
    }

pub counted_closed : (client n : ℕ) (opened : OpenCalls) → AreCounted opened n → AreCounted (with_call opened client None) (fewer (opened client) n + 0)
counted_closed client n opened c =
    let rest = others_of client n opened (opened client) c refl in
    record {
      clients = rest.clients;
      count = omega (arith, rest.count);
      once = rest.once;
      all = λ other. elim (same_or_not other client) [
        | inl e ↦ inl (ap (with_call opened client None) e ∙ with_same opened client None)
        | inr k ↦ elim (rest.all other k) [ inl none ↦ inl (with_other opened client None other k ∙ none) | inr h ↦ inr h ]
      ];
      still = λ other k none. rest.still other k (sym (with_other opened client None other (rest.apart other k)) ∙ none);
    }

pub counted_asked : (client n number : ℕ) (opened : OpenCalls) → AreCounted opened n → AreCounted (with_call opened client (Some number)) (fewer (opened client) n + 1)
counted_asked client n number opened c =
    let rest = others_of client n opened (opened client) c refl in
    record {
      clients = client ∷ rest.clients;
      count = omega (arith, rest.count);
      once = (λ k. rest.apart client k refl, rest.once);
      all = λ other. elim (same_or_not other client) [
        | inl e ↦ inr (inl e)
        | inr k ↦ elim (rest.all other k) [ inl none ↦ inl (with_other opened client (Some number) other k ∙ none) | inr h ↦ inr (inr h) ]
      ];
      still = λ other k none. elim k [
        | inl e ↦ none-some number (sym none ∙ (ap (with_call opened client (Some number)) e ∙ with_same opened client (Some number)))
        | inr m ↦ rest.still other m (sym (with_other opened client (Some number) other (rest.apart other m)) ∙ none)
      ];
    }

pub counted_next : (u : Database) (s number n : ℕ) (opened : OpenCalls) (line : Line) → AreCounted opened n → AreCounted (opened_by u s number opened line) (fewer (opened (client_of line)) n + length (asks_of u s number line))
counted_next u s number n opened (Ask client call) c = elim (is_on u s call) as (λ b. AreCounted (with_call opened client (cond b (Some number) None)) (fewer (opened client) n + length (cond b (Asks (call_at number client call []) ∷ []) []))) [
  | true ↦ counted_asked client n number opened c
  | false ↦ counted_closed client n opened c
]
counted_next u s number n opened (End client recorded) c = counted_closed client n opened c
counted_next u s number n opened (Abort client) c = counted_closed client n opened c
counted_next u s number n opened (Lost client) c = counted_closed client n opened c

pub fewer_at_most : (one : Option ℕ) (n : ℕ) → fewer one n ≤ n
fewer_at_most None n = omega arith
fewer_at_most (Some asked) n = omega arith

pub asks_few : (u : Database) (s number : ℕ) (line : Line) → length (asks_of u s number line) ≤ 1
asks_few u s number (Ask client call) = elim (is_on u s call) as (λ b. length (cond b (Asks (call_at number client call []) ∷ []) []) ≤ 1) [ true ↦ omega arith | false ↦ omega arith ]
asks_few u s number (End client recorded) = omega arith
asks_few u s number (Abort client) = omega arith
asks_few u s number (Lost client) = omega arith

-- one is open, where a client has one
pub some_waits : (opened : OpenCalls) (n client asked : ℕ) → AreCounted opened n → opened client ≡ Some asked → 0 < n
some_waits opened n client asked c has = elim (c.all client) [
  | inl none ↦ absurd (none-some asked (sym none ∙ has))
  | inr among ↦ positive c.clients c.count among
]
  where
    positive : (clients : List ℕ) → length clients ≡ n → IsAmong client clients → 0 < n
    positive [] e h = absurd h
    positive (first ∷ more) e h = omega (arith, e)

-- and none, where none has one
pub nothing_waits : (opened : OpenCalls) (n : ℕ) → AreCounted opened n → ((client : ℕ) → opened client ≡ None) → n ≡ 0
nothing_waits opened n c none = empty c.clients c.count c.still
  where
    empty : (clients : List ℕ) → length clients ≡ n → ((client : ℕ) → IsAmong client clients → opened client ≡ None → ⊥) → n ≡ 0
    empty [] e still = sym e
    empty (first ∷ more) e still = absurd (still first (inl refl) (none first))

pub nothing_open : (opened : OpenCalls) (n : ℕ) → AreCounted opened n → n ≡ 0 → (client : ℕ) → opened client ≡ None
nothing_open opened n c zero client = elim (c.all client) [ inl none ↦ none | inr among ↦ absurd (empty c.clients (c.count ∙ zero) among) ]
  where
    empty : (clients : List ℕ) → length clients ≡ 0 → IsAmong client clients → ⊥
    empty [] e h = h
    empty (first ∷ more) e h = omega (arith, e)

pub none_waits : (opened : OpenCalls) (client asked : ℕ) → AreCounted opened 0 → opened client ≡ Some asked → ⊥
none_waits opened client asked c has = let lt : 0 < 0 = some_waits opened 0 client asked c has in omega (arith, lt)

-- ---- the window
-- what the line makes of it
abbrev pub IsNotedAfter : Database → ℕ → List Line → Line → Window → Window → Type 0
IsNotedAfter u s lines line w after =
    IsNoted (opened_after u s 1 no_calls lines (client_of line)) (asks_of u s (suc (length lines)) line) (suc (length lines)) line w after

since_next : (u : Database) (s number from : ℕ) (opened : OpenCalls) (line : Line) → from < number → ((client asked : ℕ) → opened client ≡ Some asked → from < asked) → (client asked : ℕ) → opened_by u s number opened line client ≡ Some asked → from < asked
since_next u s number from opened line lt since client asked h = elim (same_or_not (client_of line) client) [
  | inl e ↦ elim (cases_lt asked number) [
    | inl early ↦ absurd (opened_own u s number opened line asked early (ap (opened_by u s number opened line) e ∙ h))
    | inr late ↦ omega (arith, lt, late)
  ]
  | inr n ↦ since client asked (sym (opened_other u s number opened line client n) ∙ h)
]

pub window_next : (u : Database) (most s : ℕ) (lines : List Line) (line : Line) (w after : Window) → IsAcceptedLine line → IsNotedAfter u s lines line w after → (w.waiting ≡ 0 → w.numbers.items ≡ []) → IsWindowAfter u most s lines w
    → IsWindowAfter u most s (lines ++ line ∷ []) after
window_next u most s lines line w after accepted noted quiet is =
    let number = suc (length lines) in
    let opened = opened_after u s 1 no_calls lines in
    let one = opened (client_of line) in
    let longer : length (lines ++ line ∷ []) ≡ suc (length lines) = length-append lines (line ∷ []) ∙ omega arith in
    let later : w.from < number = omega (arith, is.from_within) in
    let open_then : opened_after u s 1 no_calls (lines ++ line ∷ []) ≡ opened_by u s number opened line = opened_next u s lines line 1 number no_calls (omega arith) in
    let few : length (asks_of u s number line) ≤ 1 = asks_few u s number line in
    let no_more : fewer one w.waiting ≤ w.waiting = fewer_at_most one w.waiting in
    record {
      before = is.before;
      all = events_next u s lines line
          ∙ (ap (λ es. closed_by one number line es ++ asks_of u s number line) is.all
          ∙ (ap (λ es. es ++ asks_of u s number line) (closed_both one w.from number line is.before w.events.items (λ asked h. is.since (client_of line) asked h) (times_within w.from is.before is.past))
          ∙ (append_assoc is.before (closed_by one number line w.events.items) (asks_of u s number line) ∙ ap (λ es. is.before ++ es) (sym noted.events_are))));
      accepted = subst (AllByRecursion IsAcceptedEvent) (sym noted.events_are)
          (all_append IsAcceptedEvent (closed_by one number line w.events.items) (asks_of u s number line)
          (all_closed IsAcceptedEvent (λ x o h. h) one number line w.events.items (λ asked. tt) is.accepted) (accepted_asks u s number line accepted));
      reached = subst (AreReached (of_subscriber u s) is.before) (sym noted.explanations_are) is.reached;
      own = subst (AreOfSubscriber s) (sym noted.explanations_are) is.own;
      most_is = ap (λ (e : Explanations). e.most) noted.explanations_are ∙ is.most_is;
      ends = is.ends;
      past = subst (λ k. events_by k is.before ≡ is.before) (sym noted.from_is) is.past;
      after = subst (λ k. AreAfter k after.events.items) (sym noted.from_is) (subst (AreAfter w.from) (sym noted.events_are)
          (all_append (λ event. w.from < time_of event) (closed_by one number line w.events.items) (asks_of u s number line)
          (all_closed (λ event. w.from < time_of event) (λ x o h. h) one number line w.events.items (λ asked. later) is.after) (later_asks u s w.from number line later)));
      from_within = omega (arith, noted.from_is, is.from_within, longer);
      since = subst (λ (o : OpenCalls). (client asked : ℕ) → o client ≡ Some asked → after.from < asked) (sym open_then)
          (subst (λ k. (client asked : ℕ) → opened_by u s number opened line client ≡ Some asked → k < asked) (sym noted.from_is) (since_next u s number w.from opened line later is.since));
      counted = subst (λ (o : OpenCalls). AreCounted o after.waiting) (sym open_then) (subst (AreCounted (opened_by u s number opened line)) (sym noted.waiting_is) (counted_next u s number w.waiting opened line is.counted));
      few = omega (arith, noted.waiting_is, few, no_more, is.few, longer);
      numbers = kept_next u s lines line w after is.from_within noted.from_is (noted.numbers_are ∙ ap (λ ns. w.numbers.items ++ ns) (number_noted u s number opened line))
          (λ none. quiet (nothing_waits opened w.waiting is.counted none)) is.numbers;
    }

-- the window of a subscriber that is set aside
pub counted_then : (u : Database) (s : ℕ) (lines : List Line) (line : Line) (w after : Window) → after.aside ≡ w.aside → after.waiting ≡ fewer (opened_after u s 1 no_calls lines (client_of line)) w.waiting + length (asks_of u s (suc (length lines)) line) → IsCounted u s lines w
    → IsCounted u s (lines ++ line ∷ []) after
counted_then u s lines line w after same waiting_is is =
    let number = suc (length lines) in
    let opened = opened_after u s 1 no_calls lines in
    let one = opened (client_of line) in
    let longer : length (lines ++ line ∷ []) ≡ suc (length lines) = length-append lines (line ∷ []) ∙ omega arith in
    let open_then : opened_after u s 1 no_calls (lines ++ line ∷ []) ≡ opened_by u s number opened line = opened_next u s lines line 1 number no_calls (omega arith) in
    let few : length (asks_of u s number line) ≤ 1 = asks_few u s number line in
    let no_more : fewer one w.waiting ≤ w.waiting = fewer_at_most one w.waiting in
    record {
      aside = same ∙ is.aside;
      counted = subst (λ (o : OpenCalls). AreCounted o after.waiting) (sym open_then) (subst (AreCounted (opened_by u s number opened line)) (sym waiting_is) (counted_next u s number w.waiting opened line is.counted));
      few = omega (arith, waiting_is, few, no_more, is.few, longer);
    }
