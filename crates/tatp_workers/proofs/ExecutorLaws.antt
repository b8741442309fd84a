-- What an executor has done so far, and at the end.
use Rattle.std.proofs.Common.{◌≡◌, ℕ, suc, Bool, true, false, List, [], ◌∷◌, ◌++◌, All, Option, Some, Result, refl}
use Rattle.std.proofs.lemmas.List.Elements.{All-nil, All-push}
use Rattle.tatp_partition.specs.declared.item.Item.{Item}
use Rattle.tatp_partition.specs.declared.item.Completion.{Completion}
use Rattle.tatp_partition.specs.declared.item.Stepped.{Stepped}
use Rattle.tatp_partition.specs.declared.refusal.SiteRefusal.{SiteRefusal}
use Rattle.tatp_workers.specs.declared.message.Message.{Message}
use Rattle.tatp_workers.specs.declared.message.Message.TheVariants.{Call}
use Rattle.tatp_workers.specs.declared.offers.Offered.{Offered}
use Rattle.tatp_workers.specs.declared.effects.Effect.{Effect}
use Rattle.tatp_workers.specs.declared.effects.Effect.TheVariants.{Receives, Offers, Slices}
use Rattle.tatp_workers.specs.Growing.{Grows, Does}
use Rattle.tatp_workers.specs.Effects.{Follows, concluding}
use Rattle.tatp_workers.specs.Offering.{is_again, has_begun}
use Rattle.tatp_workers.specs.Executing.{IsOfferedAgain, IsOffered, continues, GoesOnAfter, ChecksFull, FinishesCall, Finishes, RunsToItsEnd, RunsWhereItBegan, ExecutesCall, Executes, is_last, ExecutesUntilQuit}
use Rattle.tatp_workers.proofs.GrowthLaws.{not_grown, grown_twice}

-- ---- a call is offered
pub none_offered : (item : Item) (known : Option (List Effect)) → Does (All (IsOfferedAgain item)) known known
none_offered item known = ([], All-nil (IsOfferedAgain item), not_grown known)

pub one_more_offered : (item : Item) (offered : Offered) (known mid known' : Option (List Effect))
    → Does (All (IsOfferedAgain item)) known mid
    → is_again offered ≡ true
    → Grows mid known' (Offers item offered ∷ [])
    → Does (All (IsOfferedAgain item)) known known'
one_more_offered item offered known mid known' before again grows = (
  before.0 ++ Offers item offered ∷ [],
  All-push (IsOfferedAgain item) before.0 (Offers item offered) before.1 (offered, again, refl),
  grown_twice known mid known' before.0 (Offers item offered ∷ []) before.2 grows,
)

pub last_offered : (item : Item) (offered : Offered) (began : Bool) (known mid offered_known known' : Option (List Effect))
    → Does (All (IsOfferedAgain item)) known mid
    → is_again offered ≡ false
    → began ≡ has_begun offered
    → Grows mid offered_known (Offers item offered ∷ [])
    → Does (Follows item offered) offered_known known'
    → Does (IsOffered item began) known known'
last_offered item offered began known mid offered_known known' before other answer grows followed = (
  before.0 ++ Offers item offered ∷ followed.0,
  record {
    before = before.0;
    last = offered;
    following = followed.0;
    again = before.1;
    other = other;
    follows = followed.1;
    answer = answer;
    all = refl;
  },
  grown_twice known mid known' before.0 (Offers item offered ∷ followed.0) before.2 (grown_twice mid offered_known known' (Offers item offered ∷ []) followed.0 grows followed.2),
)

-- ---- a call runs
pub none_sliced : (known : Option (List Effect)) → Does (All GoesOnAfter) known known
none_sliced known = ([], All-nil GoesOnAfter, not_grown known)

pub one_more_sliced : (answer : Result Stepped SiteRefusal) (logged : ℕ) (known mid known' : Option (List Effect))
    → Does (All GoesOnAfter) known mid
    → continues answer ≡ true
    → Grows mid known' (Slices answer logged ∷ [])
    → Does (All GoesOnAfter) known known'
one_more_sliced answer logged known mid known' before goes grows = (
  before.0 ++ Slices answer logged ∷ [],
  All-push GoesOnAfter before.0 (Slices answer logged) before.1 (answer, logged, goes, refl),
  grown_twice known mid known' before.0 (Slices answer logged ∷ []) before.2 grows,
)

pub last_sliced : (partition chapter : ℕ) (answer : Result Stepped SiteRefusal) (logged : ℕ) (known mid sliced_known known' : Option (List Effect))
    → Does (All GoesOnAfter) known mid
    → continues answer ≡ false
    → Grows mid sliced_known (Slices answer logged ∷ [])
    → Does (Finishes partition chapter answer logged) sliced_known known'
    → Does (RunsToItsEnd partition chapter) known known'
last_sliced partition chapter answer logged known mid sliced_known known' before ended grows finished =
    let these = Slices answer logged ∷ finished.0 in (
      before.0 ++ these,
      record {
        before = before.0;
        last = answer;
        logged = logged;
        following = finished.0;
        going_on = before.1;
        ended = ended;
        finished = finished.1;
        all = refl;
      },
      grown_twice known mid known' before.0 these before.2 (grown_twice mid sliced_known known' (Slices answer logged ∷ []) finished.0 grows finished.2),
    )

-- ---- a call that ended
pub completed : (partition chapter : ℕ) (completion : Completion) (logged : ℕ) (known concluded known' : Option (List Effect))
    → Grows known concluded (concluding partition completion)
    → Does (ChecksFull completion.extent chapter logged) concluded known'
    → Does (FinishesCall partition chapter completion logged) known known'
completed partition chapter completion logged known concluded known' concludes checks = (
  concluding partition completion ++ checks.0,
  (checks.0, checks.1, refl),
  grown_twice known concluded known' (concluding partition completion) checks.0 concludes checks.2,
)

-- ---- one call after another
pub executed : (partition chapter : ℕ) (item : Item) (began : Bool) (known mid known' : Option (List Effect))
    → Does (IsOffered item began) known mid
    → Does (RunsWhereItBegan began partition chapter) mid known'
    → Does (ExecutesCall partition chapter item) known known'
executed partition chapter item began known mid known' offered runs = (
  offered.0 ++ runs.0,
  record { began = began; offering = offered.0; running = runs.0; offered = offered.1; runs = runs.1; all = refl },
  grown_twice known mid known' offered.0 runs.0 offered.2 runs.2,
)

-- some calls were executed one after another
abbrev pub ExecutesSome : ℕ → ℕ → List Effect → Type 0
ExecutesSome partition chapter effects = (calls : ℕ) × Executes partition chapter calls effects

pub none_executed : (partition chapter : ℕ) (known : Option (List Effect)) → Does (ExecutesSome partition chapter) known known
none_executed partition chapter known = ([], (0, refl), not_grown known)

pub one_more_executed : (partition chapter : ℕ) (item : Item) (known mid received_known known' : Option (List Effect))
    → Does (ExecutesSome partition chapter) known mid
    → Grows mid received_known (Receives (Some (Call item)) ∷ [])
    → Does (ExecutesCall partition chapter item) received_known known'
    → Does (ExecutesSome partition chapter) known known'
one_more_executed partition chapter item known mid received_known known' before received call =
    let these = Receives (Some (Call item)) ∷ call.0 in (
      before.0 ++ these,
      (suc before.1.0, (before.0, item, call.0, before.1.1, call.1, refl)),
      grown_twice known mid known' before.0 these before.2 (grown_twice mid received_known known' (Receives (Some (Call item)) ∷ []) call.0 received call.2),
    )

pub last_received : (partition chapter : ℕ) (message : Option Message) (known mid known' : Option (List Effect))
    → Does (ExecutesSome partition chapter) known mid
    → is_last message ≡ true
    → Grows mid known' (Receives message ∷ [])
    → Does (ExecutesUntilQuit partition chapter) known known'
last_received partition chapter message known mid known' before quit grows = (
  before.0 ++ Receives message ∷ [],
  record { calls = before.1.0; before = before.0; last = message; executed = before.1.1; quit = quit; all = refl },
  grown_twice known mid known' before.0 (Receives message ∷ []) before.2 grows,
)
