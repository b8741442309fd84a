-- Why an event is refused: the first obstacle that is there, in their order.
use Rattle.std.specs.Prelude.{ℕ, ◌-◌, ◌^◌, ◌==◌, not, Bool, if◌then◌else◌, is_none, Option, Some, None, slice_get}
use Rattle.std.specs.Option.{option_map, option_map_or}
use Rattle.tatp_encoding.specs.Modules.{ModuleState}
use Rattle.tatp_calls.specs.declared.ask.Ask.{Ask}
use Rattle.tatp_partition.specs.declared.item.Item.{Item}
use Rattle.tatp_partition.specs.declared.refusal.SiteRefusal.{SiteRefusal}
use Rattle.tatp_calls.specs.Asked.{has_procedure, bad_argument}
use Rattle.tatp_partition.specs.Checkpointing.{checkpoint_obstacle}
use Rattle.tatp_partition.specs.Sites.{SiteState, slot}
use Rattle.tatp_partition.specs.Obstacles.{begin_obstacle, step_obstacle, one_obstacle, take_obstacle, stop_obstacle, resume_obstacle, break_obstacle}
use Rattle.tatp_events.specs.declared.refusal.Refusal.{Refusal}
use Rattle.tatp_events.specs.declared.refusal.Refusal.TheVariants.{NoPartition, NoClient, ClientBusy, NothingQueued, NotInHand, NoProcedure, NumbersFull, BadArgument, Site}
use Rattle.tatp_dispatch.specs.Worlds.{WorldState}
use Rattle.tatp_dispatch.specs.Counts.{or_else}
use Rattle.tatp_dispatch.specs.Queues.{front_in}
use Rattle.tatp_dispatch.specs.declared.client.Client.{Client}

abbrev pub where_holds : Bool → Refusal → Option Refusal
where_holds holds refusal = if holds then Some refusal else None

-- ---- a client asks
abbrev pub argument_obstacle : Ask → Option Refusal
argument_obstacle ask = option_map BadArgument (bad_argument ask)

-- why a call of this client is refused, if it is
abbrev pub call_obstacle : ModuleState → Ask → Client → Option Refusal
call_obstacle modul ask c =
    or_else (where_holds c.is_busy ClientBusy)
    (or_else (where_holds (not (has_procedure modul ask)) NoProcedure)
    (or_else (argument_obstacle ask)
    (where_holds (c.accepted == 2 ^ 64 - 1) NumbersFull)))

abbrev pub client_obstacle : WorldState → Ask → Option Client → Option Refusal
client_obstacle w ask None = Some NoClient
client_obstacle w ask (Some c) = call_obstacle w.modul ask c

abbrev pub submit_obstacle : WorldState → ℕ → Ask → Option Refusal
submit_obstacle w client ask = client_obstacle w ask (slice_get w.clients client)

-- ---- at a site
-- why an event at this site is refused, if it is
abbrev pub at_site : WorldState → ℕ → (SiteState → Option SiteRefusal) → Option Refusal
at_site w p obstacle =
    option_map_or (λ (s : SiteState). option_map Site (obstacle s)) (slice_get w.sites p)
    (Some NoPartition)

-- the call at the front of a partition's queue
abbrev pub front_of : WorldState → ℕ → Option Item
front_of w p = front_in w.queues p

-- why the front call of a partition can't begin, if so; that its home isn't there is the
-- site's NotHere
abbrev pub front_obstacle : SiteState → Option Item → Option Refusal
front_obstacle s None = Some NothingQueued
front_obstacle s (Some item) = option_map Site (begin_obstacle s item)

abbrev pub begin_obstacle_at : WorldState → ℕ → Option Refusal
begin_obstacle_at w p =
    option_map_or (λ (s : SiteState). front_obstacle s (front_of w p)) (slice_get w.sites p)
    (Some NoPartition)

abbrev pub step_obstacle_at : WorldState → ℕ → Option Refusal
step_obstacle_at w p = at_site w p step_obstacle

abbrev pub one_obstacle_at : WorldState → ℕ → Option Refusal
one_obstacle_at w p = at_site w p one_obstacle

abbrev pub take_obstacle_at : WorldState → ℕ → ℕ → Option Refusal
take_obstacle_at w p e = at_site w p (λ s. take_obstacle s e)

abbrev pub checkpoint_obstacle_at : WorldState → ℕ → ℕ → Option Refusal
checkpoint_obstacle_at w p e = at_site w p (λ s. checkpoint_obstacle s e)

abbrev pub stop_obstacle_at : WorldState → ℕ → Option Refusal
stop_obstacle_at w p = at_site w p stop_obstacle

abbrev pub resume_obstacle_at : WorldState → ℕ → Option Refusal
resume_obstacle_at w p = at_site w p resume_obstacle

abbrev pub break_obstacle_at : WorldState → ℕ → ℕ → ℕ → Option Refusal
break_obstacle_at w p procedure pc = at_site w p (λ s. break_obstacle s procedure pc)

abbrev pub clear_obstacle_at : WorldState → ℕ → Option Refusal
clear_obstacle_at w p = at_site w p (λ s. None)

-- ---- in hand
abbrev pub give_obstacle : WorldState → ℕ → ℕ → Option Refusal
give_obstacle w p e =
    or_else (at_site w p (λ s. None)) (where_holds (is_none (slot w.parcels e)) NotInHand)
