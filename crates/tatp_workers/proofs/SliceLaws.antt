-- Steps under one hold of the lock, one after another.
use Rattle.std.proofs.Common.{◌≡◌, ℕ, suc, ◌+◌, ◌<◌, List, [], ◌++◌, Option, Some, None, is_some, false, Result, Ok, refl, subst, arith}
use Rattle.tatp_partition.specs.declared.item.Stepped.{Stepped}
use Rattle.tatp_partition.specs.declared.item.Stepped.TheVariants.{Moved}
use Rattle.tatp_partition.specs.declared.refusal.SiteRefusal.{SiteRefusal}
use Rattle.tatp_partition.specs.Obstacles.{step_obstacle}
use Rattle.tatp_partition.specs.Running.{AdvancesUnless}
use Rattle.tatp_partition.specs.Sites.{SiteState}
use Rattle.tatp_workers.specs.declared.observer.StepAhead.{StepAhead}
use Rattle.tatp_workers.specs.Growing.{Grows, Does}
use Rattle.tatp_workers.specs.Slices.{IsSlice, GoesOnObserved, steps_ahead, most_steps}
use Rattle.tatp_workers.proofs.GrowthLaws.{not_grown, grown_twice}

-- ---- a place without a completion
pub none_there : {A : Type 0} (o : Option A) → is_some o ≡ false → o ≡ None
none_there None is = refl
none_there (Some a) is = absurd cc

-- ---- steps that went on
-- so many steps went on, and were seen
abbrev pub WentOn : ℕ → SiteState → SiteState → Option (List StepAhead) → Option (List StepAhead) → Type 0
WentOn n s s' known known' = Does (GoesOnObserved n s s') known known'

pub none_made : (s : SiteState) (known : Option (List StepAhead)) → WentOn 0 s s known known
none_made s known = ([], (refl, refl), not_grown known)

pub one_more : (n : ℕ) (s mid s' : SiteState) (known mid_known known' : Option (List StepAhead))
    → WentOn n s mid known mid_known
    → AdvancesUnless (step_obstacle mid) mid (Ok Moved) s'
    → Grows mid_known known' (steps_ahead mid)
    → WentOn (n + 1) s s' known known'
one_more n s mid s' known mid_known known' before moved seen =
    let e : suc n ≡ n + 1 = omega arith in
    let steps = before.0 ++ steps_ahead mid in (
      steps,
      subst (λ (k : ℕ). GoesOnObserved k s s' steps) e (mid, before.0, before.1, moved.0, moved.1, refl),
      grown_twice known mid_known known' before.0 (steps_ahead mid) before.2 seen,
    )

pub last_made : (n : ℕ) (s mid s' : SiteState) (answer : Result Stepped SiteRefusal) (known mid_known known' : Option (List StepAhead))
    → n < most_steps
    → WentOn n s mid known mid_known
    → AdvancesUnless (step_obstacle mid) mid answer s'
    → Grows mid_known known' (steps_ahead mid)
    → Does (IsSlice s answer s') known known'
last_made n s mid s' answer known mid_known known' few before last seen = (
  before.0 ++ steps_ahead mid,
  record { count = n; mid = mid; before = before.0; few = few; went_on = before.1; last = last; seen = refl },
  grown_twice known mid_known known' before.0 (steps_ahead mid) before.2 seen,
)
