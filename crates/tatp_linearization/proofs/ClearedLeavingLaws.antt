-- Rows that calls may leave with data_a cleared are as many as some that they may leave without.
use Rattle.std.proofs.Common.{◌≡◌, ℕ, ◌⊎◌, List, [], ◌∷◌, ◌++◌, map, refl, sym, ◌∙◌, ap, subst, inl, inr}
use Rattle.std.specs.List.{AllByRecursion}
use Rattle.tatp_tables.specs.Tuples.{Tuples}
use Rattle.tatp_tables.specs.Database.{Database}
use Rattle.tatp_calls.specs.declared.call.Call.{Call}
use Rattle.tatp_calls.specs.Order.{in_order}
use Rattle.tatp_calls.specs.Transactions.{Answer, transaction}
use Rattle.tatp_history.specs.declared.event.Event.{Event}
use Rattle.tatp_history.specs.declared.observed.Observed.{Observed}
use Rattle.tatp_history.specs.Events.{asked_in}
use Rattle.tatp_history.specs.Configurations.{Configuration}
use Rattle.tatp_history.specs.Cleared.{cleared_call, cleared_calls, cleared_events, cleared_configuration, with_facilities, AreCleared, IsCleared}
use Rattle.tatp_history.proofs.ClearedLaws.{cleared_answer, cleared_after}
use Rattle.tatp_history.proofs.ClearedEventLaws.{asked_cleared, cleared_stays}
use Rattle.tatp_linearization.specs.declared.configuration.Configuration.{Configuration as Held}
use Rattle.tatp_linearization.specs.Possible.{AreMoreThan, IsPossible}
use Rattle.tatp_linearization.specs.Held.{seen, Has}
use Rattle.tatp_linearization.specs.Covering.{OneStandsFor}
use Rattle.tatp_linearization.specs.Legal.{IsAmong, MayBeLeft, all_calls, calls_in, open_calls}
use Rattle.tatp_linearization.proofs.CoveringLaws.{has_stands}
use Rattle.tatp_linearization.proofs.ClearedLaws.{with_open, ComesOf, possible_cleared, come_more}

-- ---- one after another
in_order_cleared : (others : Tuples) (order : List Call) (u : Database) → AreCleared u.facilities others → (in_order (with_facilities u others) (map (cleared_call others) order)).database ≡ with_facilities (in_order u order).database others
in_order_cleared others [] u c = refl
in_order_cleared others (call ∷ more) u c =
    ap (λ (a : Answer). (in_order a.database (map (cleared_call others) more)).database) (cleared_answer call u others c)
    ∙ in_order_cleared others more (transaction call u).database (cleared_after call u others c)

-- ---- the calls of configurations, and of a window
-- each call of the list stays as it is where it is cleared
abbrev Stay : Tuples → List Call → Type 0
Stay others calls = (call : Call) → IsAmong call calls → cleared_call others call ≡ call

-- the call is another, cleared, which is one of these
abbrev ComesAmong : Tuples → List Call → Call → Type 0
ComesAmong others calls call = (other : Call) × IsAmong other calls × (call ≡ cleared_call others other)

among_either : (call : Call) (xs ys : List Call) → IsAmong call (xs ++ ys) → IsAmong call xs ⊎ IsAmong call ys
among_either call [] ys h = inr h
among_either call (x ∷ xs) ys h = elim h [
  | inl e ↦ inl (inl e)
  | inr k ↦ elim (among_either call xs ys k) [ inl q ↦ inl (inr q) | inr q ↦ inr q ]
]

among_left : (call : Call) (xs ys : List Call) → IsAmong call xs → IsAmong call (xs ++ ys)
among_left call [] ys h = absurd h
among_left call (x ∷ xs) ys h = elim h [ inl e ↦ inl e | inr k ↦ inr (among_left call xs ys k) ]

among_right : (call : Call) (xs ys : List Call) → IsAmong call ys → IsAmong call (xs ++ ys)
among_right call [] ys h = h
among_right call (x ∷ xs) ys h = inr (among_right call xs ys h)

calls_come : (others : Tuples) (xs : List Observed) (call : Call) → IsAmong call (calls_in (cleared_calls others xs)) → ComesAmong others (calls_in xs) call
calls_come others [] call h = absurd h
calls_come others (x ∷ xs) call h = elim h [
  | inl e ↦ (x.call, inl refl, e)
  | inr k ↦ let rest = calls_come others xs call k in (rest.0, inr rest.1, rest.2)
]

calls_stay : (others : Tuples) (xs : List Observed) → Stay others (calls_in (cleared_calls others xs))
calls_stay others xs call h =
    let come = calls_come others xs call h in
    ap (cleared_call others) come.2 ∙ (cleared_stays others come.0 ∙ sym come.2)

all_come : (others : Tuples) (cs : List Held) (events : List Event) → Stay others (open_calls cs) → (call : Call) → IsAmong call (all_calls cs (cleared_events others events)) → ComesAmong others (all_calls cs events) call
all_come others cs events stay call h = elim (among_either call (open_calls cs) (calls_in (asked_in (cleared_events others events))) h) [
  | inl k ↦ (call, among_left call (open_calls cs) (calls_in (asked_in events)) k, sym (stay call k))
  | inr k ↦
      let come = calls_come others (asked_in events) call (subst (λ zs. IsAmong call (calls_in zs)) (asked_cleared others events) k) in
      (come.0, among_right come.0 (open_calls cs) (calls_in (asked_in events)) come.1, come.2)
]

order_comes : (others : Tuples) (calls : List Call) (order : List Call) → AllByRecursion (ComesAmong others calls) order → (own : List Call) × (order ≡ map (cleared_call others) own) × AllByRecursion (λ call. IsAmong call calls) own
order_comes others calls [] h = ([], refl, tt)
order_comes others calls (call ∷ order) h =
    let rest = order_comes others calls order h.1 in
    (h.0.0 ∷ rest.0, (λ i. h.0.2 i ∷ rest.1 i), (h.0.1, rest.2))

come_all : (others : Tuples) (calls own order : List Call) → ((call : Call) → IsAmong call calls → ComesAmong others own call) → AllByRecursion (λ call. IsAmong call calls) order → AllByRecursion (ComesAmong others own) order
come_all others calls own [] f h = tt
come_all others calls own (call ∷ order) f h = (f call h.0, come_all others calls own order f h.1)

-- ---- configurations that are held
opens_stay : (others : Tuples) (cs : List Held) → ((d : Configuration) → Has cs d → (xs : List Observed) × (d.opened ≡ cleared_calls others xs)) → Stay others (open_calls cs)
opens_stay others [] f call h = absurd h
opens_stay others (c ∷ cs) f call h = elim (among_either call (calls_in c.opened.items) (open_calls cs) h) [
  | inl k ↦ let own = f (seen c) (inl refl) in calls_stay others own.0 call (subst (λ xs. IsAmong call (calls_in xs)) own.1 k)
  | inr k ↦ opens_stay others cs (λ d there. f d (inr there)) call k
]

module _ (u v : Database) (past : List Event) (cs : List Held) (is : IsCleared u v) (sound : (d : Configuration) → OneStandsFor cs d → IsPossible v (cleared_events v.facilities past) d) where
  held_comes : (c : Configuration) → Has cs c → ComesOf v.facilities (IsPossible u past) c
  held_comes c there = possible_cleared u v past c is (sound c (has_stands cs c there))

  held_stay : Stay v.facilities (open_calls cs)
  held_stay = opens_stay v.facilities cs (λ d there. let come = held_comes d there in (come.from.opened, ap (λ (c : Configuration). c.opened) come.is))

  -- cleared facilities are themselves, cleared
  own_cleared : AreCleared v.facilities v.facilities
  own_cleared = record {
    keys = is.facilities.other_keys;
    other_keys = is.facilities.other_keys;
    alike = λ s t. refl;
    types = is.facilities.types;
    first = is.facilities.first;
  }

  left_comes : (events : List Event) (d : Configuration) → MayBeLeft cs (cleared_events v.facilities events) d → (e : Configuration) × MayBeLeft cs events e × (d ≡ cleared_configuration v.facilities e)
  left_comes events d h =
      let others : Tuples = v.facilities in
      let c : Configuration = h.0 in
      let facilities : c.rows.facilities ≡ others = ap (λ (b : Configuration). b.rows.facilities) (held_comes c h.1).is in
      let whole : c.rows ≡ with_facilities c.rows others = λ i. with_facilities c.rows (facilities i) in
      let rows_cleared : AreCleared c.rows.facilities others = subst (λ own. AreCleared own others) (sym facilities) own_cleared in
      let come = order_comes others (all_calls cs events) h.2.order (come_all others (all_calls cs (cleared_events others events)) (all_calls cs events) h.2.order (all_come others cs events held_stay) h.2.made) in
      let after : with_open (in_order c.rows h.2.order).database [] ≡ with_open (in_order (with_facilities c.rows others) (map (cleared_call others) come.0)).database []
      = λ i. with_open (in_order (whole i) (come.1 i)).database [] in (
        with_open (in_order c.rows come.0).database [],
        (c, h.1, record { order = come.0; made = come.2; rows = refl }),
        h.2.rows ∙ (after ∙ ap (λ (rows : Database). with_open rows []) (in_order_cleared others come.0 c.rows rows_cleared)),
      )

  pub left_more : (events : List Event) (most : ℕ) → AreMoreThan most (MayBeLeft cs (cleared_events v.facilities events)) → AreMoreThan most (MayBeLeft cs events)
  left_more events most p = come_more (cleared_configuration v.facilities) (MayBeLeft cs (cleared_events v.facilities events)) (MayBeLeft cs events) (left_comes events) most p
