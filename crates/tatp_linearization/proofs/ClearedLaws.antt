-- Configurations that are possible with data_a cleared come of as many that are possible without.
use Rattle.std.proofs.Common.{◌≡◌, ℕ, zero, suc, ◌<◌, nat_eq, nat_le, Bool, true, false, cond, List, [], ◌∷◌, ◌++◌, map, length, take, drop, refl, sym, ◌∙◌, ap, subst, inl, inr}
use Rattle.std.specs.List.{AllByRecursion}
use Rattle.std.proofs.lemmas.List.{map-append, length-map, take-append-drop, take-map}
use Rattle.tatp_tables.specs.Tuples.{Tuples}
use Rattle.tatp_tables.specs.Database.{Database}
use Rattle.tatp_calls.specs.declared.reply.Reply.{Reply}
use Rattle.tatp_calls.specs.Transactions.{Answer, transaction}
use Rattle.tatp_history.specs.declared.event.Event.{Event}
use Rattle.tatp_history.specs.declared.event.Event.TheVariants.{Asks, Ends}
use Rattle.tatp_history.specs.declared.observed.Observed.{Observed}
use Rattle.tatp_history.specs.Histories.{MayHaveReply}
use Rattle.tatp_history.specs.Outcomes.{may_take_effect}
use Rattle.tatp_history.specs.JustInTime.{Chooses}
use Rattle.tatp_history.specs.Configurations.{Configuration, starting}
use Rattle.tatp_history.specs.Prefixes.{call_by}
use Rattle.tatp_history.specs.Events.{TimesRise, HaveEnds}
use Rattle.tatp_history.specs.Cleared.{cleared, cleared_calls, cleared_event, cleared_events, cleared_configuration, with_facilities, AreCleared, IsCleared}
use Rattle.tatp_history.proofs.OrderLaws.{all_map}
use Rattle.tatp_history.proofs.ClearedLaws.{cleared_answer, cleared_after}
use Rattle.tatp_history.proofs.ClearedOrderLaws.{mapped_all}
use Rattle.tatp_history.proofs.ClearedEventLaws.{rise_cleared, have_cleared, nothing_cleared, accepted_cleared}
use Rattle.tatp_linearization.specs.AtOnce.{FitsAtOnce, IsSettled}
use Rattle.tatp_linearization.specs.Possible.{CallTakesEffect, CallsTakeEffect, Passes, MayBecome, AreDistinct, AreMoreThan, IsPossible, NeedMore}
use Rattle.tatp_linearization.specs.Held.{IsAcceptedEvent}
use Rattle.tatp_linearization.specs.Single.{answered_with}
use Rattle.tatp_linearization.specs.Cut.{events_by, AreWindow}
use Rattle.tatp_linearization.specs.Legal.{events_with}

-- ---- what comes of a configuration
-- a configuration that is another with data_a cleared: the other, of which this holds
pub record ComesOf (others : Tuples) (Holds : Configuration → Type 0) (d : Configuration) : Type 0 where
  pub from : Configuration
  pub holds : Holds from
  pub is : d ≡ cleared_configuration others from
  pub facilities : AreCleared from.rows.facilities others

choice_cleared : (others : Tuples) (xs : List Observed) (x : Observed) (left : List Observed) → Chooses (cleared_calls others xs) x left
    → (y : Observed) × (rest : List Observed) × Chooses xs y rest × (x ≡ cleared others y) × (left ≡ cleared_calls others rest)
choice_cleared others [] x left h = absurd h
choice_cleared others (y ∷ ys) x left h = elim h [
  | inl k ↦ (y, ys, inl (refl, refl), k.0, k.1)
  | inr k ↦ let more = choice_cleared others ys x k.0 k.2 in
      (more.0, y ∷ more.1, inr (more.1, refl, more.2), more.3, k.1 ∙ ap (λ zs. cleared others y ∷ zs) more.4)
]

abbrev pub with_open : Database → List Observed → Configuration
with_open rows opened = record { rows = rows; opened = opened }

-- the configuration once a call is asked, if it may take effect
abbrev once_asked : Configuration → Observed → Bool → Configuration
once_asked c x may = record { rows = c.rows; opened = cond may (x ∷ c.opened) c.opened }

module _ (others : Tuples) where
  call_cleared : (c d : Configuration) → AreCleared c.rows.facilities others → CallTakesEffect (cleared_configuration others c) d → ComesOf others (CallTakesEffect c) d
  call_cleared c d cleared_rows h =
      let chosen = choice_cleared others c.opened h.0 h.1 h.2 in
      let x : Observed = chosen.0 in
      let left : List Observed = chosen.1 in
      let same = cleared_answer x.call c.rows others cleared_rows in
      let may : MayHaveReply x.outcome (transaction x.call c.rows).reply
      = subst (λ (a : Answer). MayHaveReply x.outcome a.reply) same (subst (λ (z : Observed). MayHaveReply z.outcome (transaction z.call (with_facilities c.rows others)).reply) chosen.3 h.3) in
      let after : with_open (transaction h.0.call (with_facilities c.rows others)).database h.1 ≡ with_open (transaction (cleared others x).call (with_facilities c.rows others)).database (cleared_calls others left)
      = λ i. with_open (transaction (chosen.3 i).call (with_facilities c.rows others)).database (chosen.4 i) in
      record {
        from = with_open (transaction x.call c.rows).database left;
        holds = (x, left, chosen.2, may, refl);
        is = h.4 ∙ (after ∙ ap (λ (a : Answer). with_open a.database (cleared_calls others left)) same);
        facilities = cleared_after x.call c.rows others cleared_rows;
      }

  many_cleared : (n : ℕ) (c d : Configuration) → AreCleared c.rows.facilities others → CallsTakeEffect n (cleared_configuration others c) d → ComesOf others (CallsTakeEffect n c) d
  many_cleared zero c d cleared_rows h = record { from = c; holds = refl; is = h; facilities = cleared_rows }
  many_cleared (suc n) c d cleared_rows h =
      let first = call_cleared c h.0 cleared_rows h.1 in
      let rest = many_cleared n first.from d first.facilities (subst (λ b. CallsTakeEffect n b d) first.is h.2) in
      record { from = rest.from; holds = (first.from, first.holds, rest.holds); is = rest.is; facilities = rest.facilities }

  asked_once : (c : Configuration) (x : Observed) (may : Bool) → once_asked (cleared_configuration others c) (cleared others x) may ≡ cleared_configuration others (once_asked c x may)
  asked_once c x true = refl
  asked_once c x false = refl

  event_cleared : (event : Event) (c d : Configuration) → AreCleared c.rows.facilities others → Passes (cleared_event others event) (cleared_configuration others c) d → ComesOf others (Passes event c) d
  event_cleared (Asks x) c d cleared_rows h = record {
    from = once_asked c x (may_take_effect x.outcome);
    holds = refl;
    is = h ∙ asked_once c x (may_take_effect x.outcome);
    facilities = cleared_rows;
  }
  event_cleared (Ends asked at) c d cleared_rows h = record {
    from = c;
    holds = (mapped_all (cleared others) (λ (x : Observed). x.asked ≡ asked → ⊥) c.opened h.0, refl);
    is = h.1;
    facilities = cleared_rows;
  }

  become_cleared : (events : List Event) (c d : Configuration) → AreCleared c.rows.facilities others → MayBecome (cleared_events others events) (cleared_configuration others c) d → ComesOf others (MayBecome events c) d
  become_cleared [] c d cleared_rows h =
      let rest = many_cleared h.0 c d cleared_rows h.1 in
      record { from = rest.from; holds = (h.0, rest.holds); is = rest.is; facilities = rest.facilities }
  become_cleared (event ∷ more) c d cleared_rows h =
      let first = many_cleared h.0 c h.1 cleared_rows h.2 in
      let next = event_cleared event first.from h.3 first.facilities (subst (λ b. Passes (cleared_event others event) b h.3) first.is h.4) in
      let rest = become_cleared more next.from d next.facilities (subst (λ b. MayBecome (cleared_events others more) b d) next.is h.5) in
      record { from = rest.from; holds = (h.0, first.from, first.holds, next.from, next.holds, rest.holds); is = rest.is; facilities = rest.facilities }

  -- ---- settled ones
  fits_cleared : (u : Database) (x : Observed) → AreCleared u.facilities others → FitsAtOnce u x → FitsAtOnce (with_facilities u others) (cleared others x)
  fits_cleared u x c fits = (nothing_cleared others x ∙ fits.0, subst (λ (a : Answer). MayHaveReply x.outcome a.reply) (sym (cleared_answer x.call u others c)) fits.1)

  settled_back : (c : Configuration) → AreCleared c.rows.facilities others → IsSettled (cleared_configuration others c) → IsSettled c
  settled_back c cleared_rows h =
      all_map (λ x. FitsAtOnce (with_facilities c.rows others) (cleared others x) → ⊥) (λ x. FitsAtOnce c.rows x → ⊥) (λ x none fits. none (fits_cleared c.rows x cleared_rows fits)) c.opened
      (mapped_all (cleared others) (λ x. FitsAtOnce (with_facilities c.rows others) x → ⊥) c.opened h)

-- each that is possible with data_a cleared comes of one that is possible
pub possible_cleared : (u v : Database) (past : List Event) (d : Configuration) → IsCleared u v → IsPossible v (cleared_events v.facilities past) d → ComesOf v.facilities (IsPossible u past) d
possible_cleared u v past d is h =
    let others : Tuples = v.facilities in
    let begun : MayBecome (cleared_events others past) (cleared_configuration others (starting u)) d = subst (λ w. MayBecome (cleared_events others past) (starting w) d) is.rows h.0 in
    let come = become_cleared others past (starting u) d is.facilities begun in
    record {
      from = come.from;
      holds = (come.holds, settled_back others come.from come.facilities (subst IsSettled come.is h.1));
      is = come.is;
      facilities = come.facilities;
    }

-- so its facilities are those of the rows at the start
pub possible_facilities : (u v : Database) (past : List Event) (d : Configuration) → IsCleared u v → IsPossible v (cleared_events v.facilities past) d → d.rows.facilities ≡ v.facilities
possible_facilities u v past d is h = ap (λ (c : Configuration). c.rows.facilities) (possible_cleared u v past d is h).is

-- ---- as many
-- where each comes of one, distinct ones come of distinct ones
come_apart : (g : Configuration → Configuration) (c : Configuration) (cs : List Configuration) → AllByRecursion (λ d. g c ≡ d → ⊥) (map g cs) → AllByRecursion (λ d. c ≡ d → ⊥) cs
come_apart g c [] h = tt
come_apart g c (d ∷ ds) h = ((λ same. h.0 (ap g same)), come_apart g c ds h.1)

come_distinct : (g : Configuration → Configuration) (cs : List Configuration) → AreDistinct (map g cs) → AreDistinct cs
come_distinct g [] h = tt
come_distinct g (c ∷ cs) h = (come_apart g c cs h.0, come_distinct g cs h.1)

come_each : (g : Configuration → Configuration) (P Q : Configuration → Type 0) → ((d : Configuration) → P d → (c : Configuration) × Q c × (d ≡ g c)) → (ds : List Configuration) → AllByRecursion P ds
    → (cs : List Configuration) × (ds ≡ map g cs) × AllByRecursion Q cs
come_each g P Q f [] h = ([], refl, tt)
come_each g P Q f (d ∷ ds) h =
    let first = f d h.0 in
    let rest = come_each g P Q f ds h.1 in
    (first.0 ∷ rest.0, (λ i. first.2 i ∷ rest.1 i), (first.1, rest.2))

pub come_more : (g : Configuration → Configuration) (P Q : Configuration → Type 0) → ((d : Configuration) → P d → (c : Configuration) × Q c × (d ≡ g c)) → (most : ℕ) → AreMoreThan most P → AreMoreThan most Q
come_more g P Q f most p =
    let come = come_each g P Q f p.some p.hold in
    record {
      some = come.0;
      many = subst (λ n. most < n) (ap length come.1 ∙ length-map come.0 g) p.many;
      distinct = come_distinct g come.0 (subst AreDistinct come.1 p.distinct);
      hold = come.2;
    }

take_first : (xs ys : List Event) → take (length xs) (xs ++ ys) ≡ xs
take_first [] ys = refl
take_first (x ∷ xs) ys = ap (λ zs. x ∷ zs) (take_first xs ys)

pub need_more_cleared : (u v : Database) (events : List Event) (most : ℕ) → IsCleared u v → NeedMore most v (cleared_events v.facilities events) → NeedMore most u events
need_more_cleared u v events most is h =
    let others : Tuples = v.facilities in
    let n : ℕ = length h.0 in
    let first : h.0 ≡ cleared_events others (take n events) = sym (take_first h.0 h.1) ∙ (ap (take n) (sym h.2) ∙ take-map (cleared_event others) n events) in (
      take n events,
      drop n events,
      sym (take-append-drop n events),
      come_more (cleared_configuration others) (IsPossible v (cleared_events others (take n events))) (IsPossible u (take n events))
          (λ d k. let come = possible_cleared u v (take n events) d is k in (come.from, come.holds, come.is)) most
          (subst (λ es. AreMoreThan most (IsPossible v es)) first h.3),
    )

-- ---- windows
module _ (others : Tuples) where
  pub both_cleared : (past events : List Event) → cleared_events others (past ++ events) ≡ cleared_events others past ++ cleared_events others events
  both_cleared past events = map-append (cleared_event others) past events

  pub window_cleared : (past events : List Event) → AreWindow past events → AreWindow (cleared_events others past) (cleared_events others events)
  window_cleared past events w = record {
    rise = subst TimesRise (both_cleared past events) (rise_cleared others (past ++ events) w.rise);
    own = have_cleared others past w.own;
    ends = subst HaveEnds (both_cleared past events) (have_cleared others (past ++ events) w.ends);
  }

  pub by_cleared : (time : ℕ) (events : List Event) → events_by time (cleared_events others events) ≡ cleared_events others (events_by time events)
  by_cleared time [] = refl
  by_cleared time (Asks x ∷ more) = elim (nat_le x.asked time) as (λ b. cond b (Asks (call_by time (cleared others x)) ∷ events_by time (cleared_events others more)) (events_by time (cleared_events others more)) ≡ cleared_events others (cond b (Asks (call_by time x) ∷ events_by time more) (events_by time more))) [
    | true ↦ ap (λ es. Asks (cleared others (call_by time x)) ∷ es) (by_cleared time more)
    | false ↦ by_cleared time more
  ]
  by_cleared time (Ends asked at ∷ more) = elim (nat_le at time) as (λ b. cond b (Ends asked at ∷ events_by time (cleared_events others more)) (events_by time (cleared_events others more)) ≡ cleared_events others (cond b (Ends asked at ∷ events_by time more) (events_by time more))) [
    | true ↦ ap (λ es. Ends asked at ∷ es) (by_cleared time more)
    | false ↦ by_cleared time more
  ]

  placed_cleared : (y x : Observed) (b : Bool) → cond b (cleared others y) (cleared others x) ≡ cleared others (cond b y x)
  placed_cleared y x true = refl
  placed_cleared y x false = refl

  pub with_cleared : (y : Observed) (events : List Event) → events_with (cleared others y) (cleared_events others events) ≡ cleared_events others (events_with y events)
  with_cleared y [] = refl
  with_cleared y (Asks x ∷ more) = λ i. Asks (placed_cleared y x (nat_eq x.asked y.asked) i) ∷ with_cleared y more i
  with_cleared y (Ends asked at ∷ more) = ap (λ es. Ends asked at ∷ es) (with_cleared y more)

  pub reply_cleared : (x : Observed) (at : ℕ) (reply : Reply) → answered_with (cleared others x) at reply ≡ cleared others (answered_with x at reply)
  reply_cleared x at reply = refl

  pub window_accepted : (events : List Event) → AllByRecursion IsAcceptedEvent events → AllByRecursion IsAcceptedEvent (cleared_events others events)
  window_accepted [] h = tt
  window_accepted (Asks x ∷ more) h = (accepted_cleared others x.call h.0, window_accepted more h.1)
  window_accepted (Ends asked at ∷ more) h = (tt, window_accepted more h.1)
