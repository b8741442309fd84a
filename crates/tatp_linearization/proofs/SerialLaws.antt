-- A configuration that is possible after all events is one of a serial order.
use Rattle.std.proofs.Common.{◌≡◌, ℕ, zero, suc, ◌<◌, true, false, cond, List, [], ◌∷◌, ◌++◌, refl, sym, subst, arith, inl, inr}
use Rattle.std.proofs.lemmas.List.{append-nil}
use Rattle.std.specs.List.{AllByRecursion}
use Rattle.tatp_tables.specs.Database.{Database}
use Rattle.tatp_calls.specs.Transactions.{transaction}
use Rattle.tatp_history.specs.declared.event.Event.{Event}
use Rattle.tatp_history.specs.declared.event.Event.TheVariants.{Asks, Ends}
use Rattle.tatp_history.specs.declared.observed.Observed.{Observed}
use Rattle.tatp_history.specs.Histories.{IsIn, AreAskedApart, IsStrictlySerializable, IsStrictlySerializableTo}
use Rattle.tatp_history.specs.Outcomes.{may_take_effect}
use Rattle.tatp_history.specs.Events.{asked_in, AreAfter, TimesRise, HaveEnds}
use Rattle.tatp_history.specs.JustInTime.{Chooses, AreOpen}
use Rattle.tatp_history.specs.Configurations.{Configuration, starting}
use Rattle.tatp_history.specs.Remaining.{HasOrder}
use Rattle.tatp_history.proofs.OrderLaws.{in_all, all_in}
use Rattle.tatp_history.proofs.ChoiceLaws.{rest_in}
use Rattle.tatp_history.proofs.RemainingLaws.{open_asked, open_chosen, open_ended, put_first, order_asks, order_ends}
use Rattle.tatp_history.proofs.JustInTimeLaws.{Any, is_serial, none_open}
use Rattle.tatp_linearization.specs.Possible.{CallTakesEffect, CallsTakeEffect, Passes, MayBecome}
use Rattle.tatp_linearization.proofs.AtOnceLaws.{aborted_in, have_more}

-- ---- orders
module _ (Q : Database → Type 0) where
  nothing_more : (c : Configuration) → AreOpen [] c.opened → Q c.rows → HasOrder Q c.rows [] c.opened
  nothing_more c are q = (
    [],
    record {
      made = tt;
      once = tt;
      all = λ z h answered. elim h [ inl k ↦ absurd (are.ends z k answered) | inr k ↦ absurd k ];
      real_time = tt;
      replies = tt;
    },
    q,
  )

  call_sound : (events : List Event) → HaveEnds events → (c d : Configuration) (h : CallTakesEffect c d) → AreOpen events c.opened → AreOpen events d.opened × (HasOrder Q d.rows events d.opened → HasOrder Q c.rows events c.opened)
  call_sound events have c d h are = (
    subst (λ (b : Configuration). AreOpen events b.opened) (sym h.4) (open_chosen events c.opened h.0 h.1 h.2 are),
    λ order.
        let rest : HasOrder Q (transaction h.0.call c.rows).database events h.1 = subst (λ (b : Configuration). HasOrder Q b.rows events b.opened) h.4 order in
        (h.0 ∷ rest.0, put_first c.rows events c.opened h.0 h.1 rest.0 have are h.2 h.3 rest.1, rest.2),
  )

  calls_sound : (events : List Event) → HaveEnds events → (n : ℕ) (c d : Configuration) → CallsTakeEffect n c d → AreOpen events c.opened → AreOpen events d.opened × (HasOrder Q d.rows events d.opened → HasOrder Q c.rows events c.opened)
  calls_sound events have zero c d h are = (
    subst (λ (b : Configuration). AreOpen events b.opened) (sym h) are,
    λ order. subst (λ (b : Configuration). HasOrder Q b.rows events b.opened) h order,
  )
  calls_sound events have (suc n) c d h are =
      let one = call_sound events have c h.0 h.1 are in
      let rest = calls_sound events have n h.0 d h.2 one.0 in
      (rest.0, λ order. one.1 (rest.1 order))

  passes_sound : (event : Event) (more : List Event) → TimesRise (event ∷ more) → HaveEnds (event ∷ more) → (c d : Configuration) → Passes event c d → AreOpen (event ∷ more) c.opened
      → AreOpen more d.opened × (HasOrder Q d.rows more d.opened → HasOrder Q c.rows (event ∷ more) c.opened)
  passes_sound (Asks x) more rise have c d h are =
      let on = open_asked x more c.opened rise have are in
      elim (may_take_effect x.outcome) as (λ b. may_take_effect x.outcome ≡ b → d ≡ record { rows = c.rows; opened = cond b (x ∷ c.opened) c.opened }
      → AreOpen more d.opened × (HasOrder Q d.rows more d.opened → HasOrder Q c.rows (Asks x ∷ more) c.opened)) [
        | true ↦ λ e is. (
          subst (λ (b : Configuration). AreOpen more b.opened) (sym is) on,
          λ order. order_asks Q c.rows x more c.opened (subst (λ (b : Configuration). HasOrder Q b.rows more b.opened) is order),
        )
        | false ↦ λ e is. (
          subst (λ (b : Configuration). AreOpen more b.opened) (sym is) (open_chosen more (x ∷ c.opened) x c.opened (inl (refl, refl)) on),
          λ order. order_asks Q c.rows x more c.opened (aborted_in Q more x e c.rows c.opened (subst (λ (b : Configuration). HasOrder Q b.rows more b.opened) is order)),
        )
      ] refl h
  passes_sound (Ends asked at) more rise have c d h are = (
    subst (λ (b : Configuration). AreOpen more b.opened) (sym h.1) (open_ended asked at more c.opened h.0 are),
    λ order. order_ends Q c.rows asked at more c.opened (subst (λ (b : Configuration). HasOrder Q b.rows more b.opened) h.1 order),
  )

  pub becomes_sound : (events : List Event) → TimesRise events → HaveEnds events → (c d : Configuration) → MayBecome events c d → AreOpen events c.opened → Q d.rows → HasOrder Q c.rows events c.opened
  becomes_sound [] rise have c d may are q =
      let calls = calls_sound [] have may.0 c d may.1 are in
      calls.1 (nothing_more d calls.0 q)
  becomes_sound (event ∷ more) rise have c d may are q =
      let calls = calls_sound (event ∷ more) have may.0 c may.1 may.2 are in
      let passes = passes_sound event more rise have may.1 may.3 may.4 calls.0 in
      calls.1 (passes.1 (becomes_sound more rise.1 (have_more event more have) may.3 d may.5 passes.0 q))

-- ---- the laws
pub possible_serial : (u : Database) (events : List Event) (d : Configuration) → TimesRise events → HaveEnds events → MayBecome events (starting u) d → IsStrictlySerializable u (asked_in events)
possible_serial u events d rise have may =
    let order = becomes_sound Any events rise have (starting u) d may (none_open events) tt in
    (order.0, is_serial u events [] order.0 order.1)

pub possible_to : (u after : Database) (events : List Event) (d : Configuration) → TimesRise events → HaveEnds events → MayBecome events (starting u) d → d.rows ≡ after → IsStrictlySerializableTo u (asked_in events) after
possible_to u after events d rise have may is =
    let order = becomes_sound (λ v. v ≡ after) events rise have (starting u) d may (none_open events) is in
    (order.0, is_serial u events [] order.0 order.1, order.2)

-- ---- times
-- the open calls were asked apart, and before the events
record AreEarly (events : List Event) (opened : List Observed) : Type 0 where
  pub apart : AreAskedApart opened
  pub before : (z : Observed) → IsIn z opened → AreAfter z.asked events

chosen_apart : (xs : List Observed) (x : Observed) (left : List Observed) → Chooses xs x left → AreAskedApart xs → AreAskedApart left
chosen_apart [] x left c h = absurd c
chosen_apart (y ∷ ys) x left c h = elim c [
  | inl p ↦ subst AreAskedApart (sym p.1) h.1
  | inr p ↦ subst AreAskedApart (sym p.1) (all_in (λ (v : Observed). y.asked ≡ v.asked → ⊥) p.0 (λ v k. in_all (λ (w : Observed). y.asked ≡ w.asked → ⊥) v ys h.0 (rest_in ys x p.0 p.2 v k)), chosen_apart ys x p.0 p.2 h.1)
]

calls_early : (events : List Event) (n : ℕ) (c d : Configuration) → CallsTakeEffect n c d → AreEarly events c.opened → AreEarly events d.opened
calls_early events zero c d h are = subst (λ (b : Configuration). AreEarly events b.opened) (sym h) are
calls_early events (suc n) c d h are = calls_early events n h.0 d h.2 (subst (λ (b : Configuration). AreEarly events b.opened) (sym h.1.4) (record {
  apart = chosen_apart c.opened h.1.0 h.1.1 h.1.2 are.apart;
  before = λ z k. are.before z (rest_in c.opened h.1.0 h.1.1 h.1.2 z k);
}))

passes_early : (event : Event) (more : List Event) → TimesRise (event ∷ more) → (c d : Configuration) → Passes event c d → AreEarly (event ∷ more) c.opened → AreEarly more d.opened
passes_early (Asks x) more rise c d h are = elim (may_take_effect x.outcome) as (λ b. d ≡ record { rows = c.rows; opened = cond b (x ∷ c.opened) c.opened } → AreEarly more d.opened) [
  | true ↦ λ is. subst (λ (b : Configuration). AreEarly more b.opened) (sym is) (record {
    apart = (all_in (λ (v : Observed). x.asked ≡ v.asked → ⊥) c.opened (λ v k e. let lt : v.asked < x.asked = (are.before v k).0 in omega (arith, lt, e)), are.apart);
    before = λ z k. elim k [ inl e ↦ subst (λ (w : Observed). AreAfter w.asked more) (sym e) rise.0 | inr q ↦ (are.before z q).1 ];
  })
  | false ↦ λ is. subst (λ (b : Configuration). AreEarly more b.opened) (sym is) (record { apart = are.apart; before = λ z k. (are.before z k).1 })
] h
passes_early (Ends asked at) more rise c d h are = subst (λ (b : Configuration). AreEarly more b.opened) (sym h.1) (record { apart = are.apart; before = λ z k. (are.before z k).1 })

becomes_early : (events more : List Event) → TimesRise (events ++ more) → (c d : Configuration) → MayBecome events c d → AreEarly (events ++ more) c.opened → AreEarly more d.opened
becomes_early [] more rise c d may are = calls_early more may.0 c d may.1 are
becomes_early (event ∷ events) more rise c d may are = becomes_early events more rise.1 may.3 d may.5 (passes_early event (events ++ more) rise may.1 may.3 may.4 (calls_early (event ∷ (events ++ more)) may.0 c may.1 may.2 are))

started : (events more : List Event) (u : Database) (d : Configuration) → TimesRise (events ++ more) → MayBecome events (starting u) d → AreEarly more d.opened
started events more u d rise may = becomes_early events more rise (starting u) d may (record { apart = tt; before = λ z k. absurd k })

pub possible_apart : (u : Database) (events : List Event) (d : Configuration) → TimesRise events → MayBecome events (starting u) d → AreAskedApart d.opened
possible_apart u events d rise may = (started events [] u d (subst TimesRise (sym (append-nil events)) rise) may).apart

-- a call that is asked next is asked after those that are open
pub possible_later : (u : Database) (events more : List Event) (x : Observed) (d : Configuration) → TimesRise (events ++ Asks x ∷ more) → MayBecome events (starting u) d → AllByRecursion (λ (z : Observed). z.asked < x.asked) d.opened
possible_later u events more x d rise may = let early = started events (Asks x ∷ more) u d rise may in all_in (λ (z : Observed). z.asked < x.asked) d.opened (λ z k. (early.before z k).0)
