-- The steps of a call up to its end, one after another.
use Rattle.std.proofs.Common.{◌≡◌, ℕ, zero, suc, ◌-◌, ◌<◌, ◌==◌, Bool, true, false, is_some, List, [], ◌∷◌, length, Option, Some, None, IsSomeAnd, Ok, refl, sym, ◌∙◌, ap, subst, arith}
use Rattle.std.specs.Option.{option_map_or}
use Rattle.std.proofs.lemmas.Bool.{false≢true}
use Rattle.tatp_limits.specs.declared.limits.TheConstants.{MAX_STEPS}
use Rattle.tatp_tables.specs.Database.{Database}
use Rattle.tatp_homes.specs.Home.{SubscriberRows}
use Rattle.tatp_instr.specs.declared.ending.End.{End}
use Rattle.tatp_machine.specs.declared.progress.Progress.{Progress}
use Rattle.tatp_machine.specs.declared.progress.Progress.TheVariants.{Running, Ended}
use Rattle.tatp_machine.specs.Machines.{MachineState}
use Rattle.tatp_extents.specs.Extents.{ExtentState, home_at}
use Rattle.tatp_extents.specs.Pinning.{PinnedState}
use Rattle.tatp_extents.specs.Lending.{with_pinned_home}
use Rattle.tatp_partition.specs.declared.item.Breakpoint.{Breakpoint}
use Rattle.tatp_partition.specs.declared.item.Completion.{Completion}
use Rattle.tatp_partition.specs.declared.item.Item.{Item}
use Rattle.tatp_partition.specs.declared.item.Stepped.TheVariants.{Moved}
use Rattle.tatp_partition.specs.RunnerStates.{RunnerState, call_that_runs}
use Rattle.tatp_partition.specs.declared.site.Site.TheInside.{Inside}
use Rattle.tatp_partition.specs.Sites.{SiteState, RunningCall, with_rows_here}
use Rattle.tatp_partition.specs.Obstacles.{obstacle_to_step, step_obstacle}
use Rattle.tatp_partition.specs.Running.{GoesOn, GoesOnFor, AdvancesUnless, stepped_of}
use Rattle.tatp_partition.specs.Showing.{runner_shown, running_shown, rows_shown, pinned_of, IsEmptyAt}
use Rattle.tatp_partition.specs.Fields.{site_of, IsSound}
use Rattle.tatp_partition.specs.Runners.{OfRunning, IsItsHome, MayStep, Turns, TurnsRunning, TurnsFor, TurnsToEnd, StepsOnHome, GoesOnAlone, GoesOnOnHome, EndsAlone, EndsOnHome}
use Rattle.tatp_partition.proofs.ListLaws.{differs}
use Rattle.tatp_partition.proofs.HomeLaws.{home_put, put_twice, put_back}
use Rattle.tatp_partition.proofs.TurnLaws.{turns_alone, turns_on_home}
use Rattle.tatp_partition.proofs.ShownLaws.{still_empty}
use Rattle.tatp_partition.proofs.StepLaws.{turned, runs, has_moved}

-- ---- a machine without a home
-- the call of this item that it runs
abbrev alone : Item → MachineState → RunnerState
alone i m = record { item = i; machine = m; pinned = None }

turns_for_alone : (i : Item) (m : MachineState) (steps : ℕ) (m' : MachineState) → m.frame.home ≡ None → GoesOnAlone steps m m' → TurnsFor steps (Some (alone i m)) (Some (alone i m')) × (m'.frame.home ≡ None)
turns_for_alone i m zero m' at same = (ap (λ (k : MachineState). Some (alone i k)) same, ap (λ (k : MachineState). k.frame.home) same ∙ at)
turns_for_alone i m (suc steps) m' at (mid, before, one) =
    let t = turns_for_alone i m steps mid at before in
    ((Some (alone i mid), t.0, turns_alone i mid m' Running t.1 one), (one.running refl).1.home ∙ t.1)

pub finished_alone : (i : Option Item) (m m' : MachineState) (p : Option PinnedState) (end : End) → p ≡ None → OfRunning MayStep (call_that_runs i m p) → EndsAlone m end m' → TurnsToEnd (call_that_runs i m p) end (call_that_runs i m' p)
finished_alone None m m' p end none may h = absurd may
finished_alone (Some i) m m' p end none may h =
    let t = turns_for_alone i m h.steps h.mid (subst (IsItsHome m.frame.home) none may.home) h.goes_on in
    subst (λ (q : Option PinnedState). TurnsToEnd (Some (record { item = i; machine = m; pinned = q })) end (Some (record { item = i; machine = m'; pinned = q }))) (sym none)
    (record { steps = h.steps; mid = Some (alone i h.mid); goes_on = t.0; ends = turns_alone i h.mid m' (Ended end) t.1 h.ends })

-- ---- a machine on its home
-- the call of this item that it runs, with this home in its place
abbrev on_home : Item → MachineState → PinnedState → SubscriberRows → RunnerState
on_home i m p home = record { item = i; machine = m; pinned = Some (with_pinned_home p home) }

turns_again : (i : Item) (m m' : MachineState) (p : PinnedState) (home home' : SubscriberRows) (progress : Progress) → m.frame.home ≡ Some p.s_id → home_at (with_pinned_home p home).extent p.s_id ≡ Some home → home.s_id ≡ p.s_id → StepsOnHome m home progress m' home'
    → Turns (on_home i m p home) progress (on_home i m' p home')
turns_again i m m' p home home' progress at is own h =
    subst (λ (x : ExtentState). Turns (on_home i m p home) progress (record { item = i; machine = m'; pinned = Some (record p { extent = x }) })) (put_twice p.extent p.s_id home home')
    (turns_on_home i m m' (with_pinned_home p home) home home' progress at is own h)

-- the machine and its home after steps that went on
record HasTurnedFor (i : Item) (m : MachineState) (p : PinnedState) (steps : ℕ) (m' : MachineState) (home' : SubscriberRows) : Type 0 where
  turns : TurnsFor steps (Some (record { item = i; machine = m; pinned = Some p })) (Some (on_home i m' p home'))
  at : m'.frame.home ≡ Some p.s_id
  is : home_at (with_pinned_home p home').extent p.s_id ≡ Some home'
  own : home'.s_id ≡ p.s_id

turns_for_on_home : (i : Item) (m : MachineState) (p : PinnedState) (home : SubscriberRows) (steps : ℕ) (m' : MachineState) (home' : SubscriberRows) → m.frame.home ≡ Some p.s_id → home_at p.extent p.s_id ≡ Some home → home.s_id ≡ p.s_id
    → GoesOnOnHome steps m home m' home' → HasTurnedFor i m p steps m' home'
turns_for_on_home i m p home zero m' home' at is own (same, same_home) = record {
  turns = ap (λ (k : MachineState). Some (on_home i k p home')) same
      ∙ (ap (λ (k : SubscriberRows). Some (on_home i m p k)) same_home ∙ ap (λ (x : ExtentState). Some (record { item = i; machine = m; pinned = Some (record p { extent = x }) })) (put_back p.extent p.s_id home is));
  at = ap (λ (k : MachineState). k.frame.home) same ∙ at;
  is = home_put p.extent p.s_id home home' is;
  own = ap (λ (k : SubscriberRows). k.s_id) same_home ∙ own;
}
turns_for_on_home i m p home (suc steps) m' home' at is own (mid, between, before, one) =
    let t = turns_for_on_home i m p home steps mid between at is own before in
    record {
      turns = (Some (on_home i mid p between), t.turns, turns_again i mid m' p between home' Running t.at t.is t.own one);
      at = (one.running refl).1.home ∙ t.at;
      is = home_put p.extent p.s_id home home' is;
      own = one.same ∙ t.own;
    }

pub finished_on_home : (i : Option Item) (m m' : MachineState) (k : Option PinnedState) (p : PinnedState) (home home' : SubscriberRows) (end : End) → k ≡ Some p → OfRunning MayStep (call_that_runs i m k) → home_at p.extent p.s_id ≡ Some home → EndsOnHome m home end m' home'
    → TurnsToEnd (call_that_runs i m k) end (call_that_runs i m' (Some (with_pinned_home p home')))
finished_on_home None m m' k p home home' end some may is h = absurd may
finished_on_home (Some i) m m' k p home home' end some may is h =
    let its : IsItsHome m.frame.home (Some p) = subst (IsItsHome m.frame.home) some may.home in
    let own : home.s_id ≡ p.s_id = subst (λ (o : Option SubscriberRows). IsSomeAnd o (λ (x : SubscriberRows). x.s_id ≡ p.s_id)) is its.1 in
    let t = turns_for_on_home i m p home h.steps h.mid h.between its.0 is own h.goes_on in
    subst (λ (q : Option PinnedState). TurnsToEnd (Some (record { item = i; machine = m; pinned = q })) end (Some (on_home i m' p home'))) (sym some)
    (record { steps = h.steps; mid = Some (on_home i h.mid p h.between); goes_on = t.turns; ends = turns_again i h.mid m' p h.between home' (Ended end) t.at t.is t.own h.ends })

-- ---- a site without breakpoints
-- it isn't stopped where nothing stands against a step
goes : (running : Option RunningCall) (stopped : Bool) (breakpoints : List Breakpoint) → obstacle_to_step running stopped breakpoints ≡ None → stopped ≡ false
goes running false breakpoints free = refl
goes None true breakpoints free = absurd cc
goes (Some r) true breakpoints free = absurd cc

-- nothing stands against a step of the running call
free_to_step : (r : RunnerState) (stopped : Bool) (breakpoints : List Breakpoint) → stopped ≡ false → breakpoints ≡ [] → obstacle_to_step (Some (runner_shown r)) stopped breakpoints ≡ None
free_to_step r stopped breakpoints going none = rw (going, none) refl

-- the fields after steps that went on, with this in the place of the running call
pub record HasGoneOn (a : Inside) (steps : ℕ) (running : Option RunnerState) : Type 0 where
  pub moves : GoesOnFor steps (site_of a) (site_of (record a { running = running }))
  pub sound : IsSound (record a { running = running })

goes_on_for : (a : Inside) (steps : ℕ) (running : Option RunnerState) → IsSound a → a.stopped ≡ false → a.breakpoints.items ≡ [] → TurnsFor steps a.running running → HasGoneOn a steps running
goes_on_for a zero running h going none same = subst (HasGoneOn a zero) (sym same) (record { moves = refl; sound = h })
goes_on_for a (suc steps) running h going none (mid, before, one) =
    let b : Inside = record a { running = mid } in
    let g = goes_on_for a steps mid h going none before in
    let t = turned mid Running running one in
    let m = has_moved b running g.sound one in
    record { moves = (site_of b, g.moves, (ap (λ k. obstacle_to_step (running_shown k) a.stopped a.breakpoints.items) t.was ∙ free_to_step t.old a.stopped a.breakpoints.items going none, m.moves)); sound = m.sound }

-- the fields before the last step, against which nothing stands
pub record IsLastStep (a : Inside) (mid : Option RunnerState) : Type 0 where
  pub steps : ℕ
  pub moves : GoesOnFor steps (site_of a) (site_of (record a { running = mid }))
  pub sound : IsSound (record a { running = mid })
  pub free : step_obstacle (site_of (record a { running = mid })) ≡ None

pub last_step : (a : Inside) (end : End) (running : Option RunnerState) (t : TurnsToEnd a.running end running) → IsSound a → step_obstacle (site_of a) ≡ None → a.breakpoints.items ≡ [] → IsLastStep a t.mid
last_step a end running t h free none =
    let going = goes (running_shown a.running) a.stopped a.breakpoints.items free in
    let g = goes_on_for a t.steps t.mid h going none t.goes_on in
    let last = turned t.mid (Ended end) running t.ends in
    record {
      steps = t.steps;
      moves = g.moves;
      sound = g.sound;
      free = ap (λ k. obstacle_to_step (running_shown k) a.stopped a.breakpoints.items) last.was ∙ free_to_step last.old a.stopped a.breakpoints.items going none;
    }

empty_list : (xs : List Breakpoint) (empty : Bool) → empty ≡ (length xs == 0) → empty ≡ true → xs ≡ []
empty_list [] empty is holds = refl
empty_list (b ∷ more) empty is holds = absurd (false≢true (sym (is ∙ differs (length (b ∷ more)) 0 (λ e. omega arith)) ∙ holds))

-- as the code knows it
pub last_at : (a : Inside) (s : SiteState) (end : End) (running : Option RunnerState) (empty : Bool) (t : TurnsToEnd a.running end running) → IsSound a → site_of a ≡ s → step_obstacle s ≡ None → empty ≡ (length a.breakpoints.items == 0) → empty ≡ true → IsLastStep a t.mid
last_at a s end running empty t h is free count holds = last_step a end running t h (ap step_obstacle is ∙ free) (empty_list a.breakpoints.items empty count holds)

-- the place of the extent that is set free is empty
pub place_to_end : (a : Inside) (running : Option RunnerState) (end : End) → IsSound a → TurnsRunning a.running (Ended end) running → IsEmptyAt a.slots (pinned_of running)
place_to_end a running end h turns =
    let t = turned a.running (Ended end) running turns in
    subst (λ (k : Option RunnerState). IsEmptyAt a.slots (pinned_of k)) (sym t.is)
    (subst (IsEmptyAt a.slots) (sym t.turns.pinned) (still_empty a.slots t.old.pinned (rows_shown t.new.pinned) (runs a t.old h t.was).shown.empty))

-- ---- a site with breakpoints
-- a step that left no completion went on
pub went_on : (s s' : SiteState) (ended : Option Completion) (there : Bool) → there ≡ is_some ended → there ≡ false → AdvancesUnless (step_obstacle s) s (Ok (stepped_of ended)) s' → (ended ≡ None) × AdvancesUnless (step_obstacle s) s (Ok Moved) s'
went_on s s' None there is left h = (refl, h)
went_on s s' (Some completion) there is left h = absurd (false≢true (sym left ∙ is))

-- ---- a step that goes on takes one of the steps that are left
pub kept_running : (s : SiteState) (home : Option ℕ) (rows : Database) → (with_rows_here s home rows).running ≡ s.running
kept_running s None rows = refl
kept_running s (Some h) rows = refl

pub runs_after : (s s' : SiteState) (g : GoesOn s s') → s'.running ≡ Some (record g.running { call = g.call })
runs_after s s' g = ap (λ (t : SiteState). t.running) g.after ∙ kept_running (record s { running = Some (record g.running { call = g.call }) }) g.running.call.frame.home g.rows

-- how many steps the running call is short of the most
abbrev pub left_of : RunningCall → ℕ
left_of r = MAX_STEPS - r.call.frame.steps

abbrev pub left_at : SiteState → ℕ
left_at s = option_map_or left_of s.running 0

pub fewer_left : (s s' : SiteState) → GoesOn s s' → left_at s' < left_at s
fewer_left s s' g =
    let old : left_at s ≡ left_of g.running = ap (λ r. option_map_or left_of r 0) g.is in
    let new : left_at s' ≡ MAX_STEPS - g.call.frame.steps = ap (λ r. option_map_or left_of r 0) (runs_after s s' g) in
    omega (arith, old, new, g.later.steps, g.later.few)
