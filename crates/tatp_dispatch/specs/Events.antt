-- trusted: read it
-- What each event answers and changes. At a site it is the site's own relation.
use Rattle.std.specs.Prelude.{◌≡◌, ℕ, ◌<◌, length, Bool, List, [], ◌∷◌, ◌++◌, Option, Some, None, Ok, Err, slice_get, slice_set, remove}
use Rattle.tatp_numbers.specs.Listing.{answer}
use Rattle.tatp_calls.specs.declared.ask.Ask.{Ask}
use Rattle.tatp_extents.specs.Extents.{ExtentState}
use Rattle.tatp_extents.specs.Chapters.{ChapterState}
use Rattle.tatp_partition.specs.declared.item.Item.{Item}
use Rattle.tatp_partition.specs.declared.item.Completion.{Completion}
use Rattle.tatp_partition.specs.declared.item.Offer.TheVariants.{Began as Did_begin}
use Rattle.tatp_partition.specs.declared.item.Stepped.TheVariants.{Moved as Did_move, Ended as Did_end}
use Rattle.tatp_partition.specs.declared.refusal.SiteRefusal.TheVariants.{NotHere}
use Rattle.tatp_calls.specs.Asked.{key_asked}
use Rattle.tatp_partition.specs.Checkpointing.{Checkpoints}
use Rattle.tatp_partition.specs.Moving.{LandedState, Takes, Gives}
use Rattle.tatp_partition.specs.Running.{Begins, Advances}
use Rattle.tatp_partition.specs.Sites.{SiteState, slot}
use Rattle.tatp_partition.specs.Stopping.{Stops, Resumes, SetsBreak, ClearsBreak}
use Rattle.tatp_move.specs.Routing.{RoutesState, route_of, UpdatesRoute}
use Rattle.tatp_move.specs.declared.route.RouteUpdate.{RouteUpdate}
use Rattle.tatp_move.specs.declared.route.RouteUpdate.TheVariants.{Set as Is_set, Superseded as Is_superseded}
use Rattle.tatp_dispatch.specs.declared.client.Client.{Client}
use Rattle.tatp_events.specs.declared.event.Event.{Event}
use Rattle.tatp_events.specs.declared.event.Event.TheVariants.{Submit, Begin, Deny, Step, Take, Give, Route, Checkpoint, Stop, Resume, One, Break, Clear}
use Rattle.tatp_events.specs.declared.event.Answer.TheVariants.{Queued, Began, Away, Denied, Moved, Ended, Parcel, Landed, Set, Superseded, Chapter, Done}
use Rattle.tatp_events.specs.declared.refusal.Refusal.{Refusal}
use Rattle.tatp_events.specs.declared.refusal.Refusal.TheVariants.{NotInHand, NoMemory, Site}
use Rattle.tatp_events.specs.Answers.{Answered}
use Rattle.tatp_dispatch.specs.Clients.{with_call_accepted, with_call_refused, with_call_ended}
use Rattle.tatp_dispatch.specs.Worlds.{WorldState}
use Rattle.tatp_dispatch.specs.Routed.{AreNoLandingsOf}
use Rattle.tatp_dispatch.specs.Obstacles.{submit_obstacle, begin_obstacle_at, step_obstacle_at, one_obstacle_at, take_obstacle_at, give_obstacle, checkpoint_obstacle_at, stop_obstacle_at, resume_obstacle_at, break_obstacle_at, clear_obstacle_at}

-- a refused event: the first obstacle is named, and all stays
abbrev pub IsRefused : Option Refusal → Refusal → WorldState → WorldState → Type 0
IsRefused obstacle refusal w w' = (obstacle ≡ Some refusal) × (w' ≡ w)

abbrev pub with_site : WorldState → ℕ → SiteState → WorldState
with_site w p s = record w { sites = slice_set w.sites p s }

-- ---- a client asks
-- the call of this client in this state as it waits, with the home that its key names
abbrev pub item_of : WorldState → ℕ → Client → Ask → Item
item_of w client c ask = record {
  client = client;
  number = c.accepted;
  seen = c.seen;
  ask = ask;
  home = answer w.directory (key_asked ask);
}

-- the call goes to the back of the queue that the route names
pub record QueuesCall (w : WorldState) (client : ℕ) (ask : Ask) (p : ℕ) (w' : WorldState)
    : Type 0 where
  pub c : Client
  pub before : List Item
  pub of_client : slice_get w.clients client ≡ Some c
  pub by_route : p ≡ route_of w.routes (answer w.directory (key_asked ask))
  pub queue : slice_get w.queues p ≡ Some before
  pub after : w' ≡ record w {
    queues = slice_set w.queues p (before ++ item_of w client c ask ∷ []);
    clients = slice_set w.clients client (with_call_accepted c);
  }

abbrev pub Submits : WorldState → ℕ → Ask → Answered → WorldState → Type 0
Submits w client ask (Ok (Queued p)) w' =
    (submit_obstacle w client ask ≡ None) × QueuesCall w client ask p w'
Submits w client ask (Ok other) w' = ⊥
Submits w client ask (Err refusal) w' = IsRefused (submit_obstacle w client ask) refusal w w'

-- ---- the front call of a partition
-- it begins at the site, and leaves the queue
pub record BeginsFront (w : WorldState) (p client : ℕ) (w' : WorldState) : Type 0 where
  pub before : SiteState
  pub after_it : SiteState
  pub item : Item
  pub rest : List Item
  pub site : slice_get w.sites p ≡ Some before
  pub queue : slice_get w.queues p ≡ Some (item ∷ rest)
  pub of_client : client ≡ item.client
  pub begins : Begins before item (Ok Did_begin) after_it
  pub after : w' ≡ record (with_site w p after_it) { queues = slice_set w.queues p rest }

-- it leaves the queue, and its client is answered that memory was refused
pub record DropsFront (w : WorldState) (p client : ℕ) (w' : WorldState) : Type 0 where
  pub item : Item
  pub rest : List Item
  pub c : Client
  pub queue : slice_get w.queues p ≡ Some (item ∷ rest)
  pub is_client : client ≡ item.client
  pub of_client : slice_get w.clients client ≡ Some c
  pub after : w' ≡ record w {
    queues = slice_set w.queues p rest;
    clients = slice_set w.clients client (with_call_refused c);
  }

-- it goes, unchanged, to the back of the queue that the route names, perhaps the same one
pub record ForwardsFront (w : WorldState) (p q : ℕ) (w' : WorldState) : Type 0 where
  pub item : Item
  pub rest : List Item
  pub before : List Item
  pub queue : slice_get w.queues p ≡ Some (item ∷ rest)
  pub by_route : q ≡ route_of w.routes item.home
  pub there : slice_get (slice_set w.queues p rest) q ≡ Some before
  pub after : w' ≡ record w {
    queues = slice_set (slice_set w.queues p rest) q (before ++ item ∷ []);
  }

-- where memory is refused, Begin is Deny
abbrev pub BeginsAt : WorldState → ℕ → Answered → WorldState → Type 0
BeginsAt w p (Ok (Began client)) w' = (begin_obstacle_at w p ≡ None) × BeginsFront w p client w'
BeginsAt w p (Ok (Denied client)) w' = (begin_obstacle_at w p ≡ None) × DropsFront w p client w'
BeginsAt w p (Ok (Away q)) w' =
    (begin_obstacle_at w p ≡ Some (Site NotHere)) × ForwardsFront w p q w'
BeginsAt w p (Ok other) w' = ⊥
BeginsAt w p (Err refusal) w' =
    IsRefused (begin_obstacle_at w p) refusal w w' × (refusal ≡ Site NotHere → ⊥)

abbrev pub DeniesAt : WorldState → ℕ → Answered → WorldState → Type 0
DeniesAt w p (Ok (Denied client)) w' = (begin_obstacle_at w p ≡ None) × DropsFront w p client w'
DeniesAt w p (Ok other) w' = ⊥
DeniesAt w p (Err refusal) w' = IsRefused (begin_obstacle_at w p) refusal w w'

-- ---- the running call of a site
pub record MovesAt (w : WorldState) (p : ℕ) (w' : WorldState) : Type 0 where
  pub before : SiteState
  pub after_it : SiteState
  pub site : slice_get w.sites p ≡ Some before
  pub moves : Advances before Did_move after_it
  pub after : w' ≡ with_site w p after_it

-- the call is completed, and its client has the stamp
pub record EndsAt (w : WorldState) (p : ℕ) (completion : Completion) (w' : WorldState)
    : Type 0 where
  pub before : SiteState
  pub after_it : SiteState
  pub c : Client
  pub site : slice_get w.sites p ≡ Some before
  pub ends : Advances before (Did_end completion) after_it
  pub of_client : slice_get w.clients completion.entry.client ≡ Some c
  pub after : w' ≡ record (with_site w p after_it) {
    completions = w.completions ++ completion.entry ∷ [];
    clients = slice_set w.clients completion.entry.client
        (with_call_ended completion.entry.stamp c);
  }

-- one instruction more, unless it is refused for this
abbrev pub AdvancesAt : Option Refusal → WorldState → ℕ → Answered → WorldState → Type 0
AdvancesAt obstacle w p (Ok Moved) w' = (obstacle ≡ None) × MovesAt w p w'
AdvancesAt obstacle w p (Ok (Ended client ask reply)) w' =
    (obstacle ≡ None)
    × ((completion : Completion)
    × (client ≡ completion.entry.client)
    × (ask ≡ completion.entry.ask)
    × (reply ≡ completion.entry.reply)
    × EndsAt w p completion w')
AdvancesAt obstacle w p (Ok other) w' = ⊥
AdvancesAt obstacle w p (Err refusal) w' = IsRefused obstacle refusal w w'

-- ---- extents under way
pub record TakesAt (w : WorldState) (p e number moves : ℕ) (w' : WorldState) : Type 0 where
  pub before : SiteState
  pub after_it : SiteState
  pub parcel : ExtentState
  pub site : slice_get w.sites p ≡ Some before
  pub takes : Takes before e (Ok parcel) after_it
  pub of_number : number ≡ e
  pub of_moves : moves ≡ parcel.moves
  pub after : w' ≡ record (with_site w p after_it) { parcels = slice_set w.parcels e (Some parcel) }

-- memory for the parcel's landing is taken first, at a site that is there
abbrev pub TakesExtent : WorldState → ℕ → ℕ → Answered → WorldState → Type 0
TakesExtent w p e (Ok (Parcel number moves)) w' =
    (take_obstacle_at w p e ≡ None) × TakesAt w p e number moves w'
TakesExtent w p e (Ok other) w' = ⊥
TakesExtent w p e (Err NoMemory) w' = (p < length w.sites) × (w' ≡ w)
TakesExtent w p e (Err refusal) w' = IsRefused (take_obstacle_at w p e) refusal w w'

pub record GivesAt (w : WorldState) (p e number moves : ℕ) (w' : WorldState) : Type 0 where
  pub before : SiteState
  pub after_it : SiteState
  pub parcel : ExtentState
  pub landed : LandedState
  pub site : slice_get w.sites p ≡ Some before
  pub in_hand : slot w.parcels e ≡ Some parcel
  pub gives : Gives before parcel (Ok landed) after_it
  pub of_number : number ≡ e
  pub of_moves : moves ≡ parcel.moves
  pub after : w' ≡ record (with_site w p after_it) {
    parcels = slice_set w.parcels e None;
    landings = w.landings ++ landed ∷ [];
  }

abbrev pub GivesExtent : WorldState → ℕ → ℕ → Answered → WorldState → Type 0
GivesExtent w p e (Ok (Landed number moves)) w' =
    (give_obstacle w p e ≡ None) × GivesAt w p e number moves w'
GivesExtent w p e (Ok other) w' = ⊥
GivesExtent w p e (Err refusal) w' = IsRefused (give_obstacle w p e) refusal w w'

-- the landing of extent e after that number of moves is routed, and is no longer in hand
pub record RoutesLanding (w : WorldState) (e moves : ℕ) (settled : RouteUpdate)
    (landed : LandedState) (w' : WorldState) : Type 0 where
  pub i : ℕ
  pub routes : RoutesState
  pub in_hand : slice_get w.landings i ≡ Some landed
  pub of_number : landed.number ≡ e
  pub of_moves : landed.moves ≡ moves
  pub settles : UpdatesRoute w.routes landed settled routes
  pub after : w' ≡ record w { routes = routes; landings = remove w.landings i }

abbrev pub RoutesExtent : WorldState → ℕ → ℕ → Answered → WorldState → Type 0
RoutesExtent w e moves (Ok (Set number p)) w' =
    (number ≡ e)
    × ((landed : LandedState)
    × (p ≡ landed.site)
    × RoutesLanding w e moves Is_set landed w')
RoutesExtent w e moves (Ok (Superseded number)) w' =
    (number ≡ e) × ((landed : LandedState) × RoutesLanding w e moves Is_superseded landed w')
RoutesExtent w e moves (Ok other) w' = ⊥
RoutesExtent w e moves (Err refusal) w' =
    (refusal ≡ NotInHand) × AreNoLandingsOf w.landings e moves × (w' ≡ w)

-- ---- checkpoints
-- the chapter that the site hands out is kept, after those before it; extent 0 is the log of the
-- calls without a home
pub record KeepsChapter (w : WorldState) (p e extent index entries : ℕ) (w' : WorldState)
    : Type 0 where
  pub before : SiteState
  pub after_it : SiteState
  pub chapter : ChapterState
  pub site : slice_get w.sites p ≡ Some before
  pub checkpoints : Checkpoints before e (Ok chapter) after_it
  pub of_extent : extent ≡ e
  pub of_index : index ≡ chapter.index
  pub of_entries : entries ≡ length chapter.entries
  pub after : w' ≡ record (with_site w p after_it) { chapters = w.chapters ++ chapter ∷ [] }

-- memory for the chapter is taken first, at a site that is there
abbrev pub CheckpointsAt : WorldState → ℕ → ℕ → Answered → WorldState → Type 0
CheckpointsAt w p e (Ok (Chapter extent index entries)) w' =
    (checkpoint_obstacle_at w p e ≡ None) × KeepsChapter w p e extent index entries w'
CheckpointsAt w p e (Ok other) w' = ⊥
CheckpointsAt w p e (Err NoMemory) w' = (p < length w.sites) × (w' ≡ w)
CheckpointsAt w p e (Err refusal) w' = IsRefused (checkpoint_obstacle_at w p e) refusal w w'

-- ---- stops and breakpoints
-- the site goes from one state to another so
abbrev pub ChangesSite : WorldState → ℕ → (SiteState → SiteState → Type 0) → WorldState → Type 0
ChangesSite w p Change w' =
    (before : SiteState)
    × (after : SiteState)
    × (slice_get w.sites p ≡ Some before)
    × Change before after
    × (w' ≡ with_site w p after)

-- done by a change of the site, or refused
abbrev pub DoesAt : Option Refusal → WorldState → ℕ → (SiteState → SiteState → Type 0) → Answered
    → WorldState → Type 0
DoesAt obstacle w p Change (Ok Done) w' = (obstacle ≡ None) × ChangesSite w p Change w'
DoesAt obstacle w p Change (Ok other) w' = ⊥
DoesAt obstacle w p Change (Err refusal) w' = IsRefused obstacle refusal w w'

abbrev pub StopsAt : WorldState → ℕ → Answered → WorldState → Type 0
StopsAt w p answered w' = DoesAt (stop_obstacle_at w p) w p (λ s s'. Stops s (Ok tt) s') answered w'

abbrev pub ResumesAt : WorldState → ℕ → Answered → WorldState → Type 0
ResumesAt w p answered w' =
    DoesAt (resume_obstacle_at w p) w p (λ s s'. Resumes s (Ok tt) s') answered w'

abbrev pub SetsBreakAt : WorldState → ℕ → ℕ → ℕ → Answered → WorldState → Type 0
SetsBreakAt w p procedure pc answered w' =
    DoesAt (break_obstacle_at w p procedure pc) w p (λ s s'. SetsBreak s procedure pc (Ok tt) s')
    answered w'

-- whether it was set or not
abbrev pub ClearsBreakAt : WorldState → ℕ → ℕ → ℕ → Answered → WorldState → Type 0
ClearsBreakAt w p procedure pc answered w' =
    DoesAt (clear_obstacle_at w p) w p
    (λ s s'. (was_set : Bool) × ClearsBreak s procedure pc was_set s')
    answered w'

-- ---- all events
abbrev pub Happens : WorldState → Event → Answered → WorldState → Type 0
Happens w (Submit client ask) answered w' = Submits w client ask answered w'
Happens w (Begin p) answered w' = BeginsAt w p answered w'
Happens w (Deny p) answered w' = DeniesAt w p answered w'
Happens w (Step p) answered w' = AdvancesAt (step_obstacle_at w p) w p answered w'
Happens w (One p) answered w' = AdvancesAt (one_obstacle_at w p) w p answered w'
Happens w (Take p e) answered w' = TakesExtent w p e answered w'
Happens w (Give p e) answered w' = GivesExtent w p e answered w'
Happens w (Route e moves) answered w' = RoutesExtent w e moves answered w'
Happens w (Checkpoint p e) answered w' = CheckpointsAt w p e answered w'
Happens w (Stop p) answered w' = StopsAt w p answered w'
Happens w (Resume p) answered w' = ResumesAt w p answered w'
Happens w (Break p procedure pc) answered w' = SetsBreakAt w p procedure pc answered w'
Happens w (Clear p procedure pc) answered w' = ClearsBreakAt w p procedure pc answered w'
