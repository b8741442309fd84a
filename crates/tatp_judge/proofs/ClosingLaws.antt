-- Windows that end, and up to which line one is explained.
use Rattle.std.proofs.Common.{◌≡◌, ℕ, suc, ◌+◌, ◌-◌, ◌<◌, ◌≤◌, ◌⊎◌, ◌∙◌, sym, ap, subst, nat_le, true, false, cond, List, [], ◌∷◌, ◌++◌, length, take, map, refl, arith, Result, Ok, Err, leb-true, inl, inr}
use Rattle.std.specs.Prelude.{IfOk}
use Rattle.std.specs.List.{AllByRecursion}
use Rattle.std.proofs.lemmas.Bool.{cases_lt}
use Rattle.std.proofs.lemmas.List.{append-nil, take_all}
use Rattle.tatp_tables.specs.Database.{Database, of_subscriber}
use Rattle.tatp_history.specs.declared.line.Line.{Line}
use Rattle.tatp_history.specs.declared.event.Event.{Event}
use Rattle.tatp_history.specs.declared.observed.Outcome.{Outcome}
use Rattle.tatp_history.specs.declared.observed.Outcome.TheVariants.{Answered, Aborted, Unknown}
use Rattle.tatp_history.specs.declared.observed.Observed.{Observed}
use Rattle.tatp_history.specs.Histories.{IsIn, IsAnswered, IsStrictlySerializable}
use Rattle.tatp_history.specs.HistoryLines.{calls_of}
use Rattle.tatp_history.specs.Locality.{calls_on}
use Rattle.tatp_history.specs.Prefixes.{outcome_by, call_by, calls_by}
use Rattle.tatp_history.specs.Events.{asked_in, time_of, AreAfter, TimesRise, HaveEnds, IsAnsweredAt}
use Rattle.tatp_history.specs.SubscriberEvents.{no_calls, opened_after, events_of}
use Rattle.tatp_history.proofs.OrderLaws.{all_map}
use Rattle.tatp_history.proofs.SubscriberEventLaws.{times_rise, have_ends, opened_none}
use Rattle.tatp_linearization.specs.declared.first.First.{First}
use Rattle.tatp_linearization.specs.declared.first.First.TheVariants.{Never, At, Undecided}
use Rattle.tatp_linearization.specs.declared.explanations.Explanations.{Explanations}
use Rattle.tatp_linearization.specs.Cut.{events_by, AreWindow}
use Rattle.tatp_linearization.specs.Held.{IsAcceptedEvent}
use Rattle.tatp_linearization.specs.Possible.{NeedMore}
use Rattle.tatp_linearization.specs.Reached.{AreOfSubscriber, AreReached}
use Rattle.tatp_linearization.specs.Single.{events_alone}
use Rattle.tatp_linearization.proofs.CutLaws.{asked_by, both_by, by_append, none_by, first_rises}
use Rattle.tatp_linearization.proofs.SearchedLaws.{reached_explained}
use Rattle.tatp_linearization.proofs.SingleLaws.{alone_answered}
use Rattle.tatp_judge.specs.declared.window.Window.{Window}
use Rattle.tatp_judge.specs.Verdicts.{NeedMoreBy}
use Rattle.tatp_judge.specs.Windows.{AreCounted, IsForgotten, IsWindowAfter, IsExplainedBy, IsExplainedBefore, IsFirstOf}
use Rattle.tatp_judge.proofs.FirstLinesLaws.{events_then, events_now, asked_then, explained_now, now_explained, fewer_explained, still_past, times_within}
use Rattle.tatp_judge.proofs.NumberLaws.{kept_closed}
use Rattle.tatp_judge.proofs.WindowLaws.{nothing_open, none_waits}

pub none_left : (events : List Event) → length events ≡ 0 → events ≡ []
none_left [] e = refl
none_left (event ∷ more) e = absurd (omega (arith, e))

-- ---- all events on a subscriber
pub rises : (u : Database) (s : ℕ) (lines : List Line) → TimesRise (events_of u s lines)
rises u s lines = times_rise u s 1 no_calls lines

pub all_end : (u : Database) (s : ℕ) (lines : List Line) → HaveEnds (events_of u s lines)
all_end u s lines = have_ends u s 1 no_calls lines (opened_none 1)

module _ (u : Database) (most s : ℕ) (lines : List Line) (w : Window) (is : IsWindowAfter u most s lines w) where
  pub rise_both : TimesRise (is.before ++ w.events.items)
  rise_both = subst TimesRise is.all (rises u s lines)

  pub end_both : HaveEnds (is.before ++ w.events.items)
  end_both = subst HaveEnds is.all (all_end u s lines)

  pub is_window : AreWindow is.before w.events.items
  is_window = record { rise = rise_both; own = is.ends; ends = end_both }

  -- what is said of the calls of all these events
  pub said : IsStrictlySerializable (of_subscriber u s) (asked_in (is.before ++ w.events.items)) → IsExplainedBy u s lines (length lines)
  said h = now_explained u s lines (subst (IsStrictlySerializable (of_subscriber u s)) (ap asked_in (sym is.all) ∙ asked_then u s lines) h)

  pub unsaid : IsExplainedBy u s lines (length lines) → IsStrictlySerializable (of_subscriber u s) (asked_in (is.before ++ w.events.items))
  unsaid h = subst (IsStrictlySerializable (of_subscriber u s)) (sym (ap asked_in (sym is.all) ∙ asked_then u s lines)) (explained_now u s lines h)

  -- ---- the end of the window
  pub closed : (after : Window) → w.waiting ≡ 0 → AreReached (of_subscriber u s) (is.before ++ w.events.items) after.explanations → AreOfSubscriber s after.explanations → after.explanations.most ≡ w.explanations.most → IsForgotten after → after.from ≡ length lines → after.waiting ≡ w.waiting
      → IsWindowAfter u most s lines after
  closed after none reached own most_is forgotten from_is waiting_is = let events_are = forgotten.events in record {
    before = events_of u s lines;
    all = sym (append-nil (events_of u s lines)) ∙ ap (λ es. events_of u s lines ++ es) (sym events_are);
    accepted = subst (AllByRecursion IsAcceptedEvent) (sym events_are) tt;
    reached = subst (λ es. AreReached (of_subscriber u s) es after.explanations) (sym is.all) reached;
    own = own;
    most_is = most_is ∙ is.most_is;
    ends = all_end u s lines;
    past = subst (λ k. events_by k (events_of u s lines) ≡ events_of u s lines) (sym from_is) (events_now u s lines);
    after = subst (AreAfter after.from) (sym events_are) tt;
    from_within = omega (arith, from_is);
    since = λ client asked h. absurd (none_waits (opened_after u s 1 no_calls lines) client asked (subst (AreCounted (opened_after u s 1 no_calls lines)) none is.counted) h);
    counted = subst (AreCounted (opened_after u s 1 no_calls lines)) (sym waiting_is) is.counted;
    few = omega (arith, waiting_is, is.few);
    numbers = kept_closed u s lines after from_is forgotten.numbers (nothing_open (opened_after u s 1 no_calls lines) w.waiting is.counted none);
  }

  -- ... of a window without events
  pub closed_empty : (after : Window) → w.waiting ≡ 0 → w.events.items ≡ [] → after.explanations ≡ w.explanations → IsForgotten after → after.from ≡ length lines → after.waiting ≡ w.waiting → IsWindowAfter u most s lines after
  closed_empty after none empty explanations forgotten from_is waiting_is =
      closed after none
      (subst (AreReached (of_subscriber u s) (is.before ++ w.events.items)) (sym explanations) (subst (λ es. AreReached (of_subscriber u s) es w.explanations) (sym (ap (λ es. is.before ++ es) empty ∙ append-nil is.before)) is.reached))
      (subst (AreOfSubscriber s) (sym explanations) is.own) (ap (λ (e : Explanations). e.most) explanations) forgotten from_is waiting_is

  -- ---- too many configurations
  pub many_now : NeedMore most (of_subscriber u s) (is.before ++ w.events.items) → NeedMoreBy u most lines (length lines) s
  many_now h = record {
    within = omega arith;
    first = length lines;
    by = omega arith;
    many = subst (NeedMore most (of_subscriber u s)) (sym is.all ∙ ap (events_of u s) (sym (take_all (length lines) lines (omega arith)))) h;
  }

  -- ---- the first lines
  events_at : (k : ℕ) → w.from ≤ k → k ≤ length lines → is.before ++ events_by k w.events.items ≡ events_of u s (take k lines)
  events_at k later le =
      ap (λ es. es ++ events_by k w.events.items) (sym (still_past k w.from is.before later is.past))
      ∙ (sym (by_append k is.before w.events.items) ∙ (ap (events_by k) (sym is.all) ∙ events_then u s k lines le))

  pub calls_at : (k : ℕ) → w.from ≤ k → k ≤ length lines → asked_in is.before ++ calls_by k (asked_in w.events.items) ≡ calls_on u s (calls_of (take k lines))
  calls_at k later le = sym (both_by k is.before w.events.items) ∙ (ap asked_in (events_at k later le) ∙ asked_then u s (take k lines))

  pub explained_at : (k : ℕ) → w.from ≤ k → k ≤ length lines → IsStrictlySerializable (of_subscriber u s) (asked_in is.before ++ calls_by k (asked_in w.events.items)) → IsExplainedBy u s lines k
  explained_at k later le h = subst (IsStrictlySerializable (of_subscriber u s)) (calls_at k later le) h

  pub at_explained : (k : ℕ) → w.from ≤ k → k ≤ length lines → IsExplainedBy u s lines k → IsStrictlySerializable (of_subscriber u s) (asked_in is.before ++ calls_by k (asked_in w.events.items))
  at_explained k later le h = subst (IsStrictlySerializable (of_subscriber u s)) (sym (calls_at k later le)) h

  by_now : events_by (length lines) w.events.items ≡ w.events.items
  by_now = front_off is.before (events_by (length lines) w.events.items) w.events.items
      (events_at (length lines) is.from_within (omega arith) ∙ (ap (events_of u s) (take_all (length lines) lines (omega arith)) ∙ is.all))
    where
      tail_is : (a b : Event) (xs ys : List Event) → a ∷ xs ≡ b ∷ ys → xs ≡ ys
      tail_is a b xs ys e = cc

      front_off : (front xs ys : List Event) → front ++ xs ≡ front ++ ys → xs ≡ ys
      front_off [] xs ys e = e
      front_off (event ∷ front) xs ys e = front_off front xs ys (tail_is event event (front ++ xs) (front ++ ys) e)

  -- events that aren't there end after the window's beginning, and by now
  pub times_now : AllByRecursion (λ event. time_of event ≤ length lines) w.events.items
  times_now = times_within (length lines) w.events.items by_now

  pub many_then : (time : ℕ) → NeedMore most (of_subscriber u s) (is.before ++ events_by time w.events.items) → NeedMoreBy u most lines (length lines) s
  many_then time h = elim (cases_lt time w.from) [
    | inl early ↦
        let none : events_by time w.events.items ≡ [] = none_by time w.events.items (all_map (λ event. w.from < time_of event) (λ event. time < time_of event) (λ event lt. omega (arith, lt, early)) w.events.items is.after) in
        let none_then : events_by w.from w.events.items ≡ [] = none_by w.from w.events.items is.after in
        at w.from (omega arith) is.from_within (subst (λ es. NeedMore most (of_subscriber u s) (is.before ++ es)) (none ∙ sym none_then) h)
    | inr later ↦ elim (cases_lt (length lines) time) [
      | inl after ↦ many_now (subst (λ es. NeedMore most (of_subscriber u s) (is.before ++ es)) (still_past time (length lines) w.events.items (omega (arith, after)) by_now) h)
      | inr le ↦ at time later le h
    ]
  ]
    where
      at : (k : ℕ) → w.from ≤ k → k ≤ length lines → NeedMore most (of_subscriber u s) (is.before ++ events_by k w.events.items) → NeedMoreBy u most lines (length lines) s
      at k later le h = record {
        within = omega arith;
        first = k;
        by = le;
        many = subst (NeedMore most (of_subscriber u s)) (events_at k later le) h;
      }

  -- ---- a call that overlaps no other, and is answered in the last line
  past_explained : IsStrictlySerializable (of_subscriber u s) (asked_in is.before)
  past_explained = reached_explained w.explanations (of_subscriber u s) is.before is.reached (first_rises is.before w.events.items rise_both) is.ends

  -- so it begins before a line by which they are unexplained
  pub begins_after : (line : ℕ) → line ≤ length lines → (IsExplainedBy u s lines line → ⊥) → w.from < line
  begins_after line within fails = elim (cases_lt w.from line) [
    | inl lt ↦ lt
    | inr le ↦ absurd (fails (fewer_explained u s w.from lines is.from_within (explained_at w.from (omega arith) is.from_within past_then) line (omega (arith, le)) within))
  ]
    where
      none_then : calls_by w.from (asked_in w.events.items) ≡ []
      none_then = sym (asked_by w.from w.events.items) ∙ ap asked_in (none_by w.from w.events.items is.after)

      past_then : IsStrictlySerializable (of_subscriber u s) (asked_in is.before ++ calls_by w.from (asked_in w.events.items))
      past_then = subst (IsStrictlySerializable (of_subscriber u s)) (sym (ap (λ xs. asked_in is.before ++ xs) none_then ∙ append-nil (asked_in is.before))) past_explained

-- one more call, which may not have taken effect
in_front : (x : Observed) (first second : List Observed) → IsIn x first → IsIn x (first ++ second)
in_front x [] second h = absurd h
in_front x (y ∷ first) second h = elim h [ inl e ↦ inl e | inr k ↦ inr (in_front x first second k) ]

in_one : (x y : Observed) (first : List Observed) → IsIn x (first ++ y ∷ []) → IsIn x first ⊎ (x ≡ y)
in_one x y [] h = elim h [ inl e ↦ inr e | inr k ↦ absurd k ]
in_one x y (z ∷ first) h = elim h [ inl e ↦ inl (inl e) | inr k ↦ elim (in_one x y first k) [ inl m ↦ inl (inr m) | inr e ↦ inr e ] ]

one_more : (v : Database) (calls : List Observed) (x : Observed) → (IsAnswered x.outcome → ⊥) → IsStrictlySerializable v calls → IsStrictlySerializable v (calls ++ x ∷ [])
one_more v calls x unanswered h = (
  h.0,
  record {
    made = all_map (λ y. IsIn y calls) (λ y. IsIn y (calls ++ x ∷ [])) (λ y k. in_front y calls (x ∷ []) k) h.0 h.1.made;
    once = h.1.once;
    all = λ y there answered. elim (in_one y x calls there) [
      | inl k ↦ h.1.all y k answered
      | inr e ↦ absurd (unanswered (subst (λ (z : Observed). IsAnswered z.outcome) e answered))
    ];
    real_time = h.1.real_time;
    replies = h.1.replies;
  },
)

not_yet : (time at : ℕ) (o : Outcome) → time < at → IsAnsweredAt at o → IsAnswered (outcome_by time o) → ⊥
not_yet time at (Answered when recorded) lt h = elim (nat_le when time) as (λ b. nat_le when time ≡ b → IsAnswered (cond b (Answered when recorded) Unknown) → ⊥) [
  | true ↦ λ e _. let le : when ≤ time = leb-true when time e in omega (arith, lt, h, le)
  | false ↦ λ e k. k
] refl
not_yet time at (Aborted when) lt h = absurd h
not_yet time at Unknown lt h = absurd h

alone_then : (time at : ℕ) (x : Observed) → time < at → (calls_by time (x ∷ []) ≡ []) ⊎ (calls_by time (x ∷ []) ≡ call_by time x ∷ [])
alone_then time at x lt = elim (nat_le x.asked time) as (λ b. (map (call_by time) (cond b (x ∷ []) []) ≡ []) ⊎ (map (call_by time) (cond b (x ∷ []) []) ≡ call_by time x ∷ [])) [
  | true ↦ inr refl
  | false ↦ inl refl
]

pub alone_began : (u : Database) (most s : ℕ) (lines : List Line) (w : Window) (x : Observed) → IsWindowAfter u most s lines w → w.events.items ≡ events_alone x (length lines) → w.from < length lines
alone_began u most s lines w x is alone = (subst (AreAfter w.from) alone is.after).1.0

pub spent : (u : Database) (most s : ℕ) (lines : List Line) (w : Window) (x : Observed) → IsWindowAfter u most s lines w → w.events.items ≡ events_alone x (length lines) → IsExplainedBefore u s lines (length lines)
spent u most s lines w x is alone =
    let answered : IsAnsweredAt (length lines) x.outcome = alone_answered x (length lines) is.before (subst (λ es. HaveEnds (is.before ++ es)) alone (end_both u most s lines w is)) in
    let last : w.from < length lines = alone_began u most s lines w x is alone in
    let before = length lines - 1 in
    let next : suc before ≡ length lines = omega (arith, last) in
    let past = past_explained u most s lines w is in
    let calls : asked_in w.events.items ≡ x ∷ [] = ap asked_in alone in
    let explained : IsStrictlySerializable (of_subscriber u s) (asked_in is.before ++ calls_by before (x ∷ [])) = elim (alone_then before (length lines) x (omega (arith, last))) [
      | inl none ↦ subst (λ (xs : List Observed). IsStrictlySerializable (of_subscriber u s) (asked_in is.before ++ xs)) (sym none) (subst (IsStrictlySerializable (of_subscriber u s)) (sym (append-nil (asked_in is.before))) past)
      | inr some ↦ subst (λ (xs : List Observed). IsStrictlySerializable (of_subscriber u s) (asked_in is.before ++ xs)) (sym some)
          (one_more (of_subscriber u s) (asked_in is.before) (call_by before x) (not_yet before (length lines) x.outcome (omega (arith, last)) answered) past)
    ] in
    subst (IsExplainedBefore u s lines) next
    (fewer_explained u s before lines (omega arith)
    (explained_at u most s lines w is before (omega (arith, last)) (omega arith) (subst (λ xs. IsStrictlySerializable (of_subscriber u s) (asked_in is.before ++ calls_by before xs)) (sym calls) explained)))

-- ---- up to which line a window is explained
pub all_explained : (u : Database) (most s : ℕ) (lines : List Line) (w : Window) → IsWindowAfter u most s lines w → w.events.items ≡ [] → IsExplainedBefore u s lines (suc (length lines))
all_explained u most s lines w is none =
    fewer_explained u s (length lines) lines (omega arith)
    (said u most s lines w is (subst (λ es. IsStrictlySerializable (of_subscriber u s) (asked_in es)) (sym (ap (λ es. is.before ++ es) none ∙ append-nil is.before)) (past_explained u most s lines w is)))

pub begins_before : (u : Database) (most s : ℕ) (lines : List Line) (w : Window) → IsWindowAfter u most s lines w → (w.events.items ≡ [] → ⊥) → w.from < length lines
begins_before u most s lines w is some = first w.events.items is.after (times_now u most s lines w is) some
  where
    first : (events : List Event) → AreAfter w.from events → AllByRecursion (λ event. time_of event ≤ length lines) events → (events ≡ [] → ⊥) → w.from < length lines
    first [] after by some = absurd (some refl)
    first (event ∷ more) after by some = let lt : w.from < time_of event = after.0 in let le : time_of event ≤ length lines = by.0 in omega (arith, lt, le)

-- what the search of a window says
pub first_told : {E : Type 0} (w : Window) (number : ℕ) (events : List Event) (r : Result First E) → events ≡ w.events.items → (w.events.items ≡ [] → ⊥)
    → (r ≡ Ok Never → (v : Database) (past : List Event) → AreReached v past w.explanations → AreWindow past events → IsStrictlySerializable v (asked_in past ++ calls_by number (asked_in events)))
    → ((before : ℕ) → r ≡ Ok (At (before + 1)) → (v : Database) (past : List Event) → AreReached v past w.explanations → AreWindow past events → IsStrictlySerializable v (asked_in past ++ calls_by before (asked_in events)))
    → ((time : ℕ) → r ≡ Ok (At time) → (v : Database) (past : List Event) → AreReached v past w.explanations → AreWindow past events → IsStrictlySerializable v (asked_in past ++ calls_by time (asked_in events)) → ⊥)
    → ((time : ℕ) → r ≡ Ok (At time) → (w.from < time) × (time ≤ number))
    → (r ≡ Ok Undecided → (v : Database) (past : List Event) → AreReached v past w.explanations → (time : ℕ) × NeedMore w.explanations.most v (past ++ events_by time events))
    → IfOk r (λ first. (u : Database) (most s : ℕ) (lines : List Line) → IsWindowAfter u most s lines w → number ≡ length lines → IsFirstOf u most s lines first)
first_told w number events (Err e) same some never explained unexplained within undecided = tt
first_told w number events (Ok Never) same some never explained unexplained within undecided = λ u most s lines is now.
    let window = subst (AreWindow is.before) (sym same) (is_window u most s lines w is) in
    let h = never refl (of_subscriber u s) is.before is.reached window in
    let here = subst (λ es. IsStrictlySerializable (of_subscriber u s) (asked_in is.before ++ calls_by number (asked_in es))) same h in
    fewer_explained u s (length lines) lines (omega arith)
    (explained_at u most s lines w is (length lines) is.from_within (omega arith) (subst (λ k. IsStrictlySerializable (of_subscriber u s) (asked_in is.before ++ calls_by k (asked_in w.events.items))) now here))
first_told w number events (Ok (At time)) same some never explained unexplained within undecided = λ u most s lines is now.
    let window = subst (AreWindow is.before) (sym same) (is_window u most s lines w is) in
    let bounds = within time refl in
    let last : time ≡ time - 1 + 1 = omega (arith, bounds.0) in
    let by : time ≤ length lines = omega (arith, bounds.1, now) in
    let before = explained (time - 1) (ap (λ k. Ok (At k)) last) (of_subscriber u s) is.before is.reached window in
    let fewer : suc (time - 1) ≡ time = omega (arith, bounds.0) in (
      omega (arith, bounds.0),
      by,
      subst (IsExplainedBefore u s lines) fewer (fewer_explained u s (time - 1) lines (omega (arith, by))
          (explained_at u most s lines w is (time - 1) (omega (arith, bounds.0)) (omega (arith, by))
          (subst (λ es. IsStrictlySerializable (of_subscriber u s) (asked_in is.before ++ calls_by (time - 1) (asked_in es))) same before))),
      λ h. unexplained time refl (of_subscriber u s) is.before is.reached window
          (subst (λ es. IsStrictlySerializable (of_subscriber u s) (asked_in is.before ++ calls_by time (asked_in es))) (sym same) (at_explained u most s lines w is time (omega (arith, bounds.0)) by h)),
    )
first_told w number events (Ok Undecided) same some never explained unexplained within undecided = λ u most s lines is now.
    let many = undecided refl (of_subscriber u s) is.before is.reached in
    many_then u most s lines w is many.0
    (subst (λ es. NeedMore most (of_subscriber u s) (is.before ++ events_by many.0 es)) same (subst (λ m. NeedMore m (of_subscriber u s) (is.before ++ events_by many.0 events)) is.most_is many.1))

-- ---- a window that stays as it was
pub same_window : (u : Database) (most s : ℕ) (lines : List Line) (w after : Window) → IsWindowAfter u most s lines w → after.explanations ≡ w.explanations → after.events ≡ w.events → after.numbers ≡ w.numbers → after.from ≡ w.from → after.waiting ≡ w.waiting → after.only ≡ w.only → after.aside ≡ w.aside
    → IsWindowAfter u most s lines after
same_window u most s lines w after is explanations events numbers from waiting only aside =
    subst (IsWindowAfter u most s lines) (λ i. record { explanations = sym explanations i; from = sym from i; events = sym events i; numbers = sym numbers i; waiting = sym waiting i; only = sym only i; aside = sym aside i }) is
