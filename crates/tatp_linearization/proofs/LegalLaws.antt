-- Replies with which a call could have been answered.
use Rattle.std.proofs.Common.{◌≡◌, ℕ, ◌↔◌, List, [], ◌∷◌, ◌++◌, sym, ap, ◌∙◌, subst, Ok, inl, inr}
use Rattle.std.specs.List.{AllByRecursion}
use Rattle.tatp_tables.specs.Database.{Database}
use Rattle.tatp_calls.specs.declared.call.Call.{Call}
use Rattle.tatp_calls.specs.declared.reply.Reply.{Reply}
use Rattle.tatp_calls.specs.Arguments.{arguments_accepted}
use Rattle.tatp_calls.specs.Transactions.{transaction}
use Rattle.tatp_history.specs.declared.event.Event.{Event}
use Rattle.tatp_history.specs.declared.event.Event.TheVariants.{Asks, Ends}
use Rattle.tatp_history.specs.declared.observed.Observed.{Observed}
use Rattle.tatp_history.specs.Histories.{IsIn, MayHaveReply, AreAnsweredInOrder, IsStrictlySerializable}
use Rattle.tatp_history.specs.Locality.{AreAccepted}
use Rattle.tatp_history.specs.Prefixes.{calls_by}
use Rattle.tatp_history.specs.Events.{asked_in, IsAnsweredAt}
use Rattle.tatp_history.specs.Configurations.{Configuration}
use Rattle.tatp_history.specs.Remaining.{IsLeft}
use Rattle.tatp_history.proofs.OrderLaws.{in_all, all_in}
use Rattle.tatp_linearization.specs.declared.configuration.Configuration.{Configuration as Held}
use Rattle.tatp_linearization.specs.declared.explanations.Explanations.{Explanations}
use Rattle.tatp_linearization.specs.Held.{seen, Has, AreReady, IsAcceptedEvent}
use Rattle.tatp_linearization.specs.Overwritten.{IsBlind}
use Rattle.tatp_linearization.specs.Covering.{OneStandsFor}
use Rattle.tatp_linearization.specs.Reached.{AreKept, AreReached}
use Rattle.tatp_linearization.specs.Single.{answered_with}
use Rattle.tatp_linearization.specs.Cut.{events_by, AreWindow}
use Rattle.tatp_linearization.specs.Legal.{with_call, events_with, calls_in, open_calls, all_calls, IsAmong}
use Rattle.tatp_linearization.specs.Leaving.{without_calls, AreAcceptedCalls, AreClosed}
use Rattle.tatp_linearization.specs.Listed.{IsListed, AreSifted}
use Rattle.tatp_linearization.specs.Searched.{searched, searched_call, searched_events}
use Rattle.tatp_linearization.proofs.GoingLaws.{serial_leads, serial_to}
use Rattle.tatp_linearization.proofs.ButSomeLaws.{but_in}
use Rattle.tatp_linearization.proofs.HeldLaws.{get_has}
use Rattle.tatp_linearization.proofs.CoveringLaws.{stands_get}
use Rattle.tatp_linearization.proofs.SearchedLaws.{searched_both, searched_call_of, searched_in, searched_outcome, searched_serial, searched_told, searched_window}
use Rattle.tatp_linearization.proofs.PlacedLaws.{told_rises, told_have, told_asked, other_in, among_window}

-- ---- calls among those of a window and those open before it
among_in : (z : Observed) (zs : List Observed) → IsIn z zs → IsAmong z.call (calls_in zs)
among_in z [] h = h
among_in z (y ∷ ys) h = elim h [ inl e ↦ inl (ap (λ (w : Observed). w.call) e) | inr k ↦ inr (among_in z ys k) ]

among_first : (call : Call) (xs ys : List Call) → IsAmong call xs → IsAmong call (xs ++ ys)
among_first call [] ys h = absurd h
among_first call (x ∷ xs) ys h = elim h [ inl e ↦ inl e | inr k ↦ inr (among_first call xs ys k) ]

among_second : (call : Call) (xs ys : List Call) → IsAmong call ys → IsAmong call (xs ++ ys)
among_second call [] ys h = h
among_second call (x ∷ xs) ys h = inr (among_second call xs ys h)

among_open : (cs : List Held) (d : Configuration) (z : Observed) → OneStandsFor cs d → IsIn z d.opened → IsAmong z.call (open_calls cs)
among_open [] d z h k = absurd h
among_open (c ∷ cs) d z h k = elim h [
  | inl e ↦ among_first z.call (calls_in c.opened.items) (open_calls cs) (among_in z c.opened.items (but_in (IsBlind c.home.tables) c.overwritten c.opened.items d.opened e.opened z k))
  | inr q ↦ among_second z.call (calls_in c.opened.items) (open_calls cs) (among_open cs d z q k)
]

-- ---- each legal reply is one on rows that the calls leave
on_rows : (calls : List Call) (rows : List Held) → AreClosed calls rows → (y : Observed) (order : List Observed) (v : Database) → Has rows (record { rows = v; opened = [] })
    → AllByRecursion (λ (z : Observed). IsAmong z.call calls) order → AreAnsweredInOrder v order → IsIn y order → (w : Configuration) × Has rows w × MayHaveReply y.outcome (transaction y.call w.rows).reply
on_rows calls rows closed y [] v has among runs h = absurd h
on_rows calls rows closed y (x ∷ order) v has among runs h = elim h [
  | inl e ↦ (record { rows = v; opened = [] }, has, subst (λ (z : Observed). MayHaveReply z.outcome (transaction z.call v).reply) (sym e) runs.0)
  | inr k ↦ on_rows calls rows closed y order (transaction x.call v).database (closed (record { rows = v; opened = [] }) has x.call among.0) among.1 runs.1 k
]

pub legal_on_rows : (u : Database) (past events : List Event) (x : Observed) (at : ℕ) (reply : Reply) (cs rows : List Held) → AreWindow past events → IsIn x (asked_in events) → IsAnsweredAt at x.outcome → AreKept u past cs
    → ((c : Configuration) → Has cs c → Has rows (without_calls c)) → AreClosed (all_calls cs events) rows
    → IsStrictlySerializable u (asked_in past ++ with_call (answered_with x at reply) (calls_by at (asked_in events))) → (w : Configuration) × Has rows w × (reply ≡ (transaction x.call w.rows).reply)
legal_on_rows u past events x at reply cs rows window there was kept starts closed s =
    let rise = told_rises past events x at reply window there was in
    let have = told_have past events x at reply window there was in
    let E : List Event = events_with (answered_with x at reply) (events_by at events) in
    let s' : IsStrictlySerializable u (asked_in (past ++ E)) = subst (IsStrictlySerializable u) (sym (told_asked past events x at reply window there was)) s in
    let to = serial_to u (past ++ E) s' in
    let led = kept.complete to.0 E (serial_leads u to.0 (past ++ E) rise have to.1) in
    let d : Configuration = led.0 in
    let has : OneStandsFor cs d = led.1 in
    let one = stands_get cs d has in
    let bare : Has rows (record { rows = d.rows; opened = [] }) = subst (λ v. Has rows (record { rows = v; opened = [] })) (sym one.4.rows) (starts (seen one.2) (get_has cs one.0 one.2 one.3)) in
    let order = led.2.order in
    let calls : List Call = all_calls cs events in
    let own : IsAmong x.call calls = among_second x.call (open_calls cs) (calls_in (asked_in events)) (among_in x (asked_in events) there) in
    let among : AllByRecursion (λ (z : Observed). IsAmong z.call calls) order.0 = all_in (λ (z : Observed). IsAmong z.call calls) order.0 (λ z h. elim (in_all (IsLeft E d.opened) z order.0 order.1.made h) [
      | inl k ↦ among_first z.call (open_calls cs) (calls_in (asked_in events)) (among_open cs d z has k)
      | inr k ↦ elim (among_window past events x at reply window there was events z k) [
        | inl e ↦ subst (λ (q : Call). IsAmong q calls) (sym e) own
        | inr q ↦ among_second z.call (open_calls cs) (calls_in (asked_in events)) q
      ]
    ]) in
    let stands : IsIn (answered_with x at reply) order.0 = order.1.all (answered_with x at reply) (inr (other_in past events x at reply window there was events there)) tt in
    on_rows calls rows closed (answered_with x at reply) order.0 d.rows bare among order.1.replies stands

-- a call of a window is accepted
pub accepted_in : (x : Observed) (events : List Event) → AllByRecursion IsAcceptedEvent events → IsIn x (asked_in events) → arguments_accepted x.call ≡ Ok tt
accepted_in x [] h k = absurd k
accepted_in x (Asks y ∷ more) h k = elim k [ inl e ↦ subst (λ (z : Observed). arguments_accepted z.call ≡ Ok tt) (sym e) h.0 | inr q ↦ accepted_in x more h.1 q ]
accepted_in x (Ends asked at ∷ more) h k = accepted_in x more h.1 k

all_both : (xs ys : List Call) → AreAcceptedCalls xs → AreAcceptedCalls ys → AreAcceptedCalls (xs ++ ys)
all_both [] ys h k = k
all_both (x ∷ xs) ys h k = (h.0, all_both xs ys h.1 k)

calls_accepted : (xs : List Observed) → AreAccepted xs → AreAcceptedCalls (calls_in xs)
calls_accepted [] h = tt
calls_accepted (x ∷ xs) h = (h.0, calls_accepted xs h.1)

open_accepted : (cs : List Held) → AreReady cs → AreAcceptedCalls (open_calls cs)
open_accepted [] h = tt
open_accepted (c ∷ cs) h = all_both (calls_in c.opened.items) (open_calls cs) (calls_accepted c.opened.items h.0) (open_accepted cs h.1)

window_accepted : (events : List Event) → AllByRecursion IsAcceptedEvent events → AreAcceptedCalls (calls_in (asked_in events))
window_accepted [] h = tt
window_accepted (Asks x ∷ more) h = (h.0, window_accepted more h.1)
window_accepted (Ends asked at ∷ more) h = window_accepted more h.1

pub all_accepted : (cs : List Held) (events : List Event) → AreReady cs → AllByRecursion IsAcceptedEvent events → AreAcceptedCalls (all_calls cs events)
all_accepted cs events ready accepted = all_both (open_calls cs) (calls_in (asked_in events)) (open_accepted cs ready) (window_accepted events accepted)

-- ---- the replies that are left are the legal ones
pub legal_exact : (explanations : Explanations) (u : Database) (past events : List Event) (x : Observed) (at : ℕ) (rows : List Held) (replies legal : List Reply) (reached : AreReached u past explanations) → AreWindow past events → IsIn x (asked_in events) → IsAnsweredAt at x.outcome
    → ((c : Configuration) → Has explanations.configurations.items c → Has rows (without_calls c)) → AreClosed (all_calls explanations.configurations.items (searched_events explanations.exact reached.from.facilities events)) rows
    → ((w : Configuration) → Has rows w → IsListed (transaction (searched_call explanations.exact reached.from.facilities x.call) w.rows).reply replies) → AreSifted explanations (λ reply. events_with (answered_with x at reply) (events_by at events)) replies legal
    → (reply : Reply) → IsListed reply legal ↔ IsStrictlySerializable u (asked_in past ++ with_call (answered_with x at reply) (calls_by at (asked_in events)))
legal_exact explanations u past events x at rows replies legal reached window there was starts closed listed sifted reply =
    let e = explanations.exact in
    let v = reached.from in
    let fs = v.facilities in
    let rise = told_rises past events x at reply window there was in
    let have = told_have past events x at reply window there was in
    let asked = told_asked past events x at reply window there was in
    let x' : Observed = searched e fs x in
    let past' : List Event = searched_events e fs past in
    let events' : List Event = searched_events e fs events in
    let window' : AreWindow past' events' = searched_window e fs past events window in
    let there' : IsIn x' (asked_in events') = searched_in e fs x events there in
    let was' : IsAnsweredAt at x'.outcome = subst (IsAnsweredAt at) (sym (searched_outcome e fs x)) was in
    let told : List Event = events_with (answered_with x at reply) (events_by at events) in
    let told_is : searched_events e fs (past ++ told) ≡ past' ++ events_with (answered_with x' at reply) (events_by at events') = searched_both e fs past told ∙ ap (λ es. past' ++ es) (searched_told e fs x at reply events) in (
      λ h. subst (IsStrictlySerializable u) asked (sifted.sound reply h u past reached rise have),
      λ s.
          let s' : IsStrictlySerializable v (asked_in (past' ++ events_with (answered_with x' at reply) (events_by at events'))) = subst (λ es. IsStrictlySerializable v (asked_in es)) told_is
          ((searched_serial e u v reached.begins (past ++ told) rise).0 (subst (IsStrictlySerializable u) (sym asked) s)) in
          let on = legal_on_rows v past' events' x' at reply explanations.configurations.items rows window' there' was' reached.kept starts closed (subst (IsStrictlySerializable v) (told_asked past' events' x' at reply window' there' was') s') in
          let here = subst (λ (call : Call). IsListed (transaction call on.0.rows).reply replies) (sym (searched_call_of e fs x)) (listed on.0 on.1) in
          elim (sifted.found reply (subst (λ r. IsListed r replies) (sym on.2) here)) [
            | inl k ↦ k
            | inr fails ↦ absurd (fails u past reached rise have (subst (IsStrictlySerializable u) (sym asked) s))
          ],
    )
