-- The steps of a running call up to its end, each as a step of the whole.
use Rattle.std.proofs.Common.{◌≡◌, ℕ, zero, suc, ◌+◌, ◌<◌, ◌≤◌, true, false, is_some, List, [], ◌∷◌, ◌++◌, length, Option, Some, None, Result, Ok, Err, Vec, Global, slice_get, refl, sym, ◌∙◌, ap, subst}
use Rattle.std.specs.Vec.{with_item}
use Rattle.std.proofs.Math.ListN.{set}
use Rattle.std.proofs.lemmas.Bool.{false≢true}
use Rattle.std.proofs.lemmas.Option.{slice_get_within}
use Rattle.tatp_logs.specs.Completions.{CompletionsState}
use Rattle.tatp_partition.specs.declared.item.Completion.{Completion}
use Rattle.tatp_partition.specs.declared.item.Stepped.TheVariants.{Moved as Did_move, Ended as Did_end}
use Rattle.tatp_partition.specs.declared.refusal.SiteRefusal.{SiteRefusal}
use Rattle.tatp_partition.specs.Obstacles.{step_obstacle}
use Rattle.tatp_partition.specs.Running.{GoesOnFor, AdvancesUnless, StepsUpTo as SiteStepsUpTo, stepped_of}
use Rattle.tatp_partition.specs.Sites.{SiteState, RunningCall}
use Rattle.tatp_partition.specs.Sound.{IsSite}
use Rattle.tatp_partition.proofs.StepLaws.{goes_on}
use Rattle.tatp_events.specs.declared.refusal.Refusal.{Refusal}
use Rattle.tatp_events.specs.declared.refusal.Refusal.TheVariants.{NoPartition, Site}
use Rattle.tatp_dispatch.specs.declared.client.Client.{Client}
use Rattle.tatp_dispatch.specs.declared.world.World.TheInside.{Inside}
use Rattle.tatp_dispatch.specs.Calling.{CompletesNone, CallsOnce, IsOutcome, StepsUpTo, last_reply, outcome_in}
use Rattle.tatp_dispatch.specs.Events.{EndsAt}
use Rattle.tatp_dispatch.specs.Fields.{world_of, IsSound}
use Rattle.tatp_dispatch.specs.Placed.{RunsAt}
use Rattle.tatp_dispatch.specs.Worlds.{WorldState}
use Rattle.tatp_dispatch.proofs.CountLaws.{get_set_same, set_set}
use Rattle.tatp_dispatch.proofs.EventLaws.{StepsAt, no_site, set_as_it_is, told_same, with_sites, sound_refused, refused_at, line_at, end_at, line_told, ending_client, room_to_end, after_end, EndedFields, end_told, end_happens}
use Rattle.tatp_dispatch.proofs.CallingLaws.{StillRuns, none_by, none_itself, none_more, then_called, still_runs, ends_call}
use Rattle.tatp_dispatch.proofs.CallEventsLaws.{MovesFor, steps_up_to, reply_left, ends_by_steps}

-- ---- steps that went on
-- the fields with this site in the place of partition p
abbrev pub at_place : Inside → ℕ → SiteState → Inside
at_place a p s = with_sites a (with_item a.sites p s)

-- this many steps at partition p went on, and left this site there
pub record WentOnFor (a : Inside) (p steps : ℕ) (s : SiteState) : Type 0 where
  pub sound : IsSound (at_place a p s)
  pub here : slice_get (at_place a p s).sites.items p ≡ Some s
  pub whole : IsSite s
  pub moves : MovesFor steps (world_of a) p (world_of (at_place a p s))
  pub none : CompletesNone (world_of a) (world_of (at_place a p s))
  pub still : (r : RunningCall) → RunsAt a.sites.items p r → StillRuns (world_of (at_place a p s)) p r.client r.ask

-- one site after another in a place
put_after : (a : Inside) (p : ℕ) (s s' : SiteState) → (at_place a p s').sites.items ≡ set (at_place a p s).sites.items p s'
put_after a p s s' = sym (set_set a.sites.items p s s')

none_went_on : (a : Inside) (p : ℕ) (s s' : SiteState) → IsSound a → slice_get a.sites.items p ≡ Some s → s' ≡ s → WentOnFor a p zero s'
none_went_on a p s s' h here same =
    let w : WorldState = world_of a in
    let as_it_was : world_of (at_place a p s') ≡ w = ap (λ (sites : List SiteState). record w { sites = sites }) (ap (set a.sites.items p) same ∙ set_as_it_is a.sites.items p s here) in
    record {
      sound = sound_refused a (with_item a.sites p s') h as_it_was;
      here = get_set_same a.sites.items p s' s here;
      whole = subst IsSite (sym same) (h.world.sites p s here).site;
      moves = as_it_was;
      none = subst (CompletesNone w) (sym as_it_was) (none_itself w);
      still = λ r at. subst (λ (t : WorldState). StillRuns t p r.client r.ask) (sym as_it_was) (record { r = r; at = at; of_client = refl; of_ask = refl });
    }

-- the site that is there now makes one step more
one_more : (a : Inside) (p steps : ℕ) (s mid s' : SiteState) → slice_get a.sites.items p ≡ Some s → WentOnFor a p steps mid → AdvancesUnless (step_obstacle mid) mid (Ok Did_move) s' → WentOnFor a p (suc steps) s'
one_more a p steps s mid s' here t one =
    let b : Inside = at_place a p mid in
    let after : Inside = at_place a p s' in
    let whole : IsSite s' = goes_on mid s' one.1 t.whole in
    let told = line_told b after.sites p mid s' t.sound (put_after a p mid s') t.here whole one.1 in
    let line = line_at (world_of b) p step_obstacle after.sites.items (record { before = mid; after_it = s'; site = t.here; steps = one; whole = whole; after = put_after a p mid s' }) in
    record {
      sound = told.0;
      here = get_set_same a.sites.items p s' s here;
      whole = whole;
      moves = (world_of b, t.moves, (line, told.1));
      none = none_more (world_of a) (world_of b) (world_of after) t.none (none_by (world_of b) (world_of after) told.1.serves refl);
      still = λ r at. still_runs (world_of b) (world_of after) p r.client r.ask line.1 (t.still r at);
    }

went_on_for : (a : Inside) (p : ℕ) (s : SiteState) (steps : ℕ) (s' : SiteState) → IsSound a → slice_get a.sites.items p ≡ Some s → GoesOnFor steps s s' → WentOnFor a p steps s'
went_on_for a p s zero s' h here same = none_went_on a p s s' h here same
went_on_for a p s (suc steps) s' h here (mid, before, one) = one_more a p steps s mid s' here (went_on_for a p s steps mid h here before) one

-- ---- what became of a call that was run to its end, or up to a refused step
pub record Finishes (a : Inside) (p : ℕ) (result : Result (Unit {0}) Refusal) (a' : Inside) : Type 0 where
  pub sound : IsSound a'
  pub steps : (r : RunningCall) → RunsAt a.sites.items p r → IsOutcome (λ last. StepsUpTo (world_of a) p last (world_of a')) r.client r.ask (outcome_in (world_of a') result)
  pub call : (r : RunningCall) → RunsAt a.sites.items p r → CallsOnce (world_of a) r.client r.ask (outcome_in (world_of a') result) (world_of a')

-- there is no such partition
pub finishes_nowhere : (a : Inside) (p : ℕ) → IsSound a → length a.sites.items ≤ p → Finishes a p (Err NoPartition) a
finishes_nowhere a p h past =
    let w : WorldState = world_of a in
    record {
      sound = h;
      steps = λ r at. (Err NoPartition, refl, steps_up_to w w w p zero (Err NoPartition) refl (no_site w p step_obstacle past, refl) h.world);
      call = λ r at. none_itself w;
    }

-- ---- a step is refused
pub finishes_refused : (a : Inside) (p : ℕ) (s s' : SiteState) (refusal : SiteRefusal) → IsSound a → slice_get a.sites.items p ≡ Some s → SiteStepsUpTo s (Err refusal) s' → IsSite s' → Finishes a p (Err (Site refusal)) (at_place a p s')
finishes_refused a p s s' refusal h here u whole =
    let mid : SiteState = u.mid in
    let b : Inside = at_place a p mid in
    let after : Inside = at_place a p s' in
    let t = went_on_for a p s u.steps mid h here u.goes_on in
    let r = refused_at (world_of b) p step_obstacle refusal after.sites.items (record { before = mid; after_it = s'; site = t.here; steps = u.advances; whole = whole; after = put_after a p mid s' }) in
    let told = told_same (world_of b) (world_of after) (Site refusal) t.sound.world r.1 in
    record {
      sound = sound_refused b after.sites t.sound r.1;
      steps = λ k at. (Err (Site refusal), refl, steps_up_to (world_of a) (world_of b) (world_of after) p u.steps (Err (Site refusal)) t.moves r told.world);
      call = λ k at. subst (CompletesNone (world_of a)) (sym r.1) t.none;
    }

-- ---- a step ends the call
-- the whole before it, and that step at its site
pub record IsLastStep (a : Inside) (p : ℕ) (s' : SiteState) (completion : Completion) : Type 0 where
  pub steps : ℕ
  pub mid : SiteState
  pub before : WentOnFor a p steps mid
  pub step : StepsAt step_obstacle (at_place a p mid).sites.items p (Ok (Did_end completion)) (at_place a p s').sites.items

pub last_step : (a : Inside) (p : ℕ) (s s' : SiteState) (ended : Option Completion) (completion : Completion) → IsSound a → slice_get a.sites.items p ≡ Some s → SiteStepsUpTo s (Ok (stepped_of ended)) s' → IsSite s' → ended ≡ Some completion → IsLastStep a p s' completion
last_step a p s s' ended completion h here u whole is =
    let t = went_on_for a p s u.steps u.mid h here u.goes_on in
    record {
      steps = u.steps;
      mid = u.mid;
      before = t;
      step = record {
        before = u.mid;
        after_it = s';
        site = t.here;
        steps = subst (λ (k : Option Completion). AdvancesUnless (step_obstacle u.mid) u.mid (Ok (stepped_of k)) s') is u.advances;
        whole = whole;
        after = put_after a p u.mid s';
      };
    }

-- which completion stands there
pub some_there : (ended : Option Completion) → is_some ended ≡ true → (completion : Completion) × (ended ≡ Some completion)
some_there None there = absurd (false≢true there)
some_there (Some completion) there = (completion, refl)

pub room_at_last : (a : Inside) (p : ℕ) (s' : SiteState) (completion : Completion) → IsLastStep a p s' completion → 1 ≤ a.completions.room
room_at_last a p s' completion l = room_to_end (at_place a p l.mid) p l.step.before l.step.after_it completion l.before.sound l.step.site l.step.steps.1

pub client_at_last : (a : Inside) (p : ℕ) (s' : SiteState) (completion : Completion) → IsLastStep a p s' completion → completion.entry.client < length a.clients.items
client_at_last a p s' completion l =
    let k = ending_client (world_of (at_place a p l.mid)) p l.step.before l.step.after_it completion l.before.sound.world l.step.site l.step.steps.1 in
    slice_get_within a.clients.items completion.entry.client k.0 k.1

-- what completing the call says of the fields
pub record IsCompleted (a : Inside) (completed : CompletionsState) (clients : Vec Client Global) (completion : Completion) : Type 0 where
  pub pushed : completed.entries ≡ a.completions.entries ++ completion.entry ∷ []
  pub taken : a.completions.room ≤ completed.room + 1
  pub freed : (c : Client) → slice_get a.clients.items completion.entry.client ≡ Some c → clients.items ≡ set a.clients.items completion.entry.client (record c { is_busy = false; seen = completion.entry.stamp })

pub finishes_ended : (a : Inside) (p : ℕ) (s' : SiteState) (completed : CompletionsState) (clients : Vec Client Global) (completion : Completion) → IsLastStep a p s' completion → IsCompleted a completed clients completion
    → Finishes a p (Ok tt) (after_end a (with_item a.sites p s') completed clients)
finishes_ended a p s' completed clients completion l c =
    let t = l.before in
    let x = l.step in
    let w : WorldState = world_of a in
    let b : Inside = at_place a p l.mid in
    let sites = with_item a.sites p s' in
    let after : WorldState = world_of (after_end a sites completed clients) in
    let fields : EndedFields b sites completed clients p x.before x.after_it completion = record { sites = x.after; pushed = c.pushed; taken = c.taken; freed = c.freed } in
    let told = end_told b sites completed clients p x.before x.after_it completion t.sound fields x.site x.whole x.steps.1 in
    let ends : EndsAt (world_of b) p completion after = end_happens b sites completed clients p x.before x.after_it completion t.sound fields x.site x.steps.1 in
    record {
      sound = told.0;
      steps = λ r at. ends_by_steps w (world_of b) after p l.steps r.client r.ask completion t.moves (t.still r at) (end_at (world_of b) p step_obstacle completion sites.items x) ends told.1.world;
      call = λ r at.
          then_called w (world_of b) after r.client r.ask (Ok (last_reply after.completions)) refl t.none
          (ends_call (world_of b) after p r.client r.ask completion (last_reply after.completions) told.1.serves ends (reply_left (world_of b) after p completion ends) (t.still r at));
    }
