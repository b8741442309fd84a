-- What an executor does, one thing after another.
use Rattle.std.specs.Prelude.{◌≡◌, ◌⊎◌, ℕ, zero, suc, ◌<◌, ◌≤◌, List, [], ◌∷◌, ◌++◌, All, Bool, true, false, not, Option, Some, None, Result, Ok, Err}
use Rattle.tatp_partition.specs.declared.item.Item.{Item}
use Rattle.tatp_partition.specs.declared.item.Completion.{Completion}
use Rattle.tatp_partition.specs.declared.item.Stepped.{Stepped}
use Rattle.tatp_partition.specs.declared.item.Stepped.TheVariants.{Moved, Ended}
use Rattle.tatp_partition.specs.declared.refusal.SiteRefusal.{SiteRefusal}
use Rattle.tatp_partition.specs.declared.refusal.SiteRefusal.TheVariants.{NotRunning}
use Rattle.tatp_workers.specs.declared.checkpoints.Checkpointed.{Checkpointed}
use Rattle.tatp_workers.specs.declared.message.Message.{Message}
use Rattle.tatp_workers.specs.declared.message.Message.TheVariants.{Quit, Call}
use Rattle.tatp_workers.specs.declared.offers.Offered.{Offered}
use Rattle.tatp_workers.specs.Offering.{is_again, has_begun}
use Rattle.tatp_workers.specs.declared.effects.Effect.{Effect}
use Rattle.tatp_workers.specs.declared.effects.Effect.TheVariants.{Receives, Offers, Slices, Checkpoints}
use Rattle.tatp_workers.specs.Effects.{Follows, concluding}

-- ---- a call is offered
-- the call was offered, and is to be offered again
abbrev pub IsOfferedAgain : Item → Effect → Type 0
IsOfferedAgain item effect =
    (offered : Offered) × (is_again offered ≡ true) × (effect ≡ Offers item offered)

-- a call is offered until it needn't be again, and then what follows is done; whether it began
pub record IsOffered (item : Item) (began : Bool) (effects : List Effect) : Type 0 where
  pub before : List Effect
  pub last : Offered
  pub following : List Effect
  pub again : All (IsOfferedAgain item) before
  pub other : is_again last ≡ false
  pub follows : Follows item last following
  pub answer : began ≡ has_begun last
  pub all : effects ≡ before ++ Offers item last ∷ following

-- ---- a call runs
-- no call runs any more
abbrev pub is_not_running : SiteRefusal → Bool
is_not_running NotRunning = true
is_not_running refusal = false

-- steps after which more are to be made: the call continues, or its site is stopped or at a
-- breakpoint
abbrev pub continues : Result Stepped SiteRefusal → Bool
continues (Ok Moved) = true
continues (Ok (Ended completion)) = false
continues (Err refusal) = not (is_not_running refusal)

-- steps of the running call were made, and more are to be
abbrev pub GoesOnAfter : Effect → Type 0
GoesOnAfter effect =
    (answer : Result Stepped SiteRefusal) × (logged : ℕ)
    × (continues answer ≡ true)
    × (effect ≡ Slices answer logged)

-- the log of an extent has `logged` entries: it is to be handed out if a chapter needs no more, and
-- otherwise nothing is done
abbrev pub ChecksFull : ℕ → ℕ → ℕ → List Effect → Type 0
ChecksFull extent chapter logged effects =
    ((logged < chapter) × (effects ≡ []))
    ⊎ ((done : Checkpointed) × (chapter ≤ logged)
    × (effects ≡ Checkpoints extent chapter done ∷ []))

-- a call is completed, at whose end the log of its extent had `logged` entries: its client is
-- answered, the gate is notified, and then comes the log
abbrev pub FinishesCall : ℕ → ℕ → Completion → ℕ → List Effect → Type 0
FinishesCall partition chapter completion logged effects =
    (checking : List Effect)
    × ChecksFull completion.extent chapter logged checking
    × (effects ≡ concluding partition completion ++ checking)

-- what follows on the last steps of a call: it is completed where they ended it
abbrev pub Finishes : ℕ → ℕ → Result Stepped SiteRefusal → ℕ → List Effect → Type 0
Finishes partition chapter (Ok Moved) logged effects = effects ≡ []
Finishes partition chapter (Ok (Ended completion)) logged effects =
    FinishesCall partition chapter completion logged effects
Finishes partition chapter (Err refusal) logged effects = effects ≡ []

-- steps are made until the call has ended, or doesn't run any more since the debugger ended it;
-- where it ended here it is completed
pub record RunsToItsEnd (partition chapter : ℕ) (effects : List Effect) : Type 0 where
  pub before : List Effect
  pub last : Result Stepped SiteRefusal
  pub logged : ℕ
  pub following : List Effect
  pub going_on : All GoesOnAfter before
  pub ended : continues last ≡ false
  pub finished : Finishes partition chapter last logged following
  pub all : effects ≡ before ++ Slices last logged ∷ following

abbrev pub RunsWhereItBegan : Bool → ℕ → ℕ → List Effect → Type 0
RunsWhereItBegan true partition chapter effects = RunsToItsEnd partition chapter effects
RunsWhereItBegan false partition chapter effects = effects ≡ []

-- ---- one call after another
-- a call is offered, and runs to its end where it began
pub record ExecutesCall (partition chapter : ℕ) (item : Item) (effects : List Effect)
    : Type 0 where
  pub began : Bool
  pub offering : List Effect
  pub running : List Effect
  pub offered : IsOffered item began offering
  pub runs : RunsWhereItBegan began partition chapter running
  pub all : effects ≡ offering ++ running

-- this many calls were taken out of the inbox one after another, and each was executed before the
-- next
abbrev pub Executes : ℕ → ℕ → ℕ → List Effect → Type 0
Executes partition chapter zero effects = effects ≡ []
Executes partition chapter (suc calls) effects =
    (before : List Effect) × (item : Item) × (these : List Effect)
    × Executes partition chapter calls before
    × ExecutesCall partition chapter item these
    × (effects ≡ before ++ Receives (Some (Call item)) ∷ these)

-- Quit, or that no message will come
abbrev pub is_last : Option Message → Bool
is_last None = true
is_last (Some Quit) = true
is_last (Some (Call item)) = false

-- calls are executed until Quit comes
pub record ExecutesUntilQuit (partition chapter : ℕ) (effects : List Effect) : Type 0 where
  pub calls : ℕ
  pub before : List Effect
  pub last : Option Message
  pub executed : Executes partition chapter calls before
  pub quit : is_last last ≡ true
  pub all : effects ≡ before ++ Receives last ∷ []
