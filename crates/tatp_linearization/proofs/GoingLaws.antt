-- Orders lead on over events from one configuration to another that follows just in time.
use Rattle.std.proofs.Common.{◌≡◌, ℕ, List, [], ◌∷◌, ◌++◌, refl, sym, subst}
use Rattle.std.proofs.lemmas.List.{append-nil}
use Rattle.tatp_tables.specs.Database.{Database}
use Rattle.tatp_history.specs.declared.event.Event.{Event}
use Rattle.tatp_history.specs.declared.event.Event.TheVariants.{Ends}
use Rattle.tatp_history.specs.Histories.{IsStrictlySerializable, IsStrictlySerializableTo, rows_after}
use Rattle.tatp_history.specs.Events.{asked_in, TimesRise, HaveEnds}
use Rattle.tatp_history.specs.JustInTime.{NoneAskedAt}
use Rattle.tatp_history.specs.Configurations.{Configuration, starting}
use Rattle.tatp_history.proofs.RemainingLaws.{open_ended, ends_order}
use Rattle.tatp_history.proofs.JustInTimeLaws.{serial_is, none_open}
use Rattle.tatp_linearization.specs.AtOnce.{FollowsAtOnce}
use Rattle.tatp_linearization.specs.Going.{LeadsOn}
use Rattle.tatp_linearization.proofs.AtOnceLaws.{LeadAtOnce, have_more, event_settled, event_open, event_complete}

-- ---- from the rows on
-- a serial order leads on over all events
pub serial_leads : (u after : Database) (events : List Event) → TimesRise events → HaveEnds events → IsStrictlySerializableTo u (asked_in events) after → LeadsOn after events (starting u)
serial_leads u after events rise have s = record { rise = rise; ends = have; waiting = none_open events; settled = tt; order = (s.0, serial_is u events [] s.0 s.1, s.2) }

-- so it does over no more events
pub serial_leads_on : (u after : Database) (events : List Event) → TimesRise events → HaveEnds events → IsStrictlySerializableTo u (asked_in events) after → LeadsOn after (events ++ []) (starting u)
serial_leads_on u after events rise have s = subst (λ es. LeadsOn after es (starting u)) (sym (append-nil events)) (serial_leads u after events rise have s)

-- it leaves some rows
pub serial_to : (u : Database) (events : List Event) → IsStrictlySerializable u (asked_in events) → (after : Database) × IsStrictlySerializableTo u (asked_in events) after
serial_to u events s = (rows_after u s.0, (s.0, s.1, refl))

-- ---- over events
pub event_on : (after : Database) (event : Event) (more : List Event) (c : Configuration) → LeadsOn after (event ∷ more) c → (d : Configuration) × FollowsAtOnce event c d × LeadsOn after more d
event_on after event more c on =
    let next = event_complete (λ v. v ≡ after) event more on.rise on.ends c on.settled on.waiting on.order in (
      next.0,
      next.1,
      record {
        rise = on.rise.1;
        ends = have_more event more on.ends;
        waiting = event_open event more on.rise on.ends c next.0 next.1 on.waiting;
        settled = event_settled event c next.0 on.settled next.1;
        order = next.2;
      },
    )

pub events_on : (after : Database) (first second : List Event) (c : Configuration) → LeadsOn after (first ++ second) c → (d : Configuration) × LeadAtOnce first c d × LeadsOn after second d
events_on after [] second c on = (c, refl, on)
events_on after (event ∷ more) second c on =
    let next = event_on after event (more ++ second) c on in
    let rest = events_on after more second next.0 next.2 in
    (rest.0, (next.0, next.1, rest.1), rest.2)

-- over the end of a call that isn't open
pub end_on : (after : Database) (asked at : ℕ) (rest : List Event) (c : Configuration) → NoneAskedAt asked c.opened → LeadsOn after (Ends asked at ∷ rest) c → LeadsOn after rest c
end_on after asked at rest c none on = record {
  rise = on.rise.1;
  ends = on.ends;
  waiting = open_ended asked at rest c.opened none on.waiting;
  settled = on.settled;
  order = ends_order (λ v. v ≡ after) c.rows asked at rest c.opened on.order;
}
