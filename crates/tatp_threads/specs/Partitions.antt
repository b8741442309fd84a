-- What the mover and the debugger do at partitions behind locks.
use Rattle.std.specs.Prelude.{ℕ, ◌<◌, Bool, true, false, ⊤, Result, Ok, Err}
use Rattle.tatp_extents.specs.Extents.{ExtentState}
use Rattle.tatp_partition.specs.declared.refusal.NotGiven.{NotGiven}
use Rattle.tatp_partition.specs.declared.refusal.SiteRefusal.{SiteRefusal}
use Rattle.tatp_partition.specs.Moving.{LandedState, Gives}
use Rattle.tatp_partition.specs.Sites.{SiteState}
use Rattle.tatp_partition.specs.Stopping.{Stops}
use Rattle.tatp_threads.specs.Locked.{OfSomeSite}

-- of `count` partitions there is one with this number only if its site answered so
abbrev pub OfPartition : ℕ → ℕ → (SiteState → SiteState → Type 0) → Type 0
OfPartition count partition Answers = partition < count → OfSomeSite Answers

-- whether a site was stopped, and the site after that
abbrev pub StopsWhether : SiteState → Bool → SiteState → Type 0
StopsWhether s true s' = (done : ⊤) × Stops s (Ok done) s'
StopsWhether s false s' = (refusal : SiteRefusal) × Stops s (Err refusal) s'

-- a parcel lands, or comes back
abbrev pub GivesOrBack : SiteState → ExtentState → Result LandedState ExtentState → SiteState
    → Type 0
GivesOrBack s parcel (Ok landed) s' = Gives s parcel (Ok landed) s'
GivesOrBack s parcel (Err back) s' =
    (refusal : SiteRefusal) × Gives s parcel (Err (record { refusal = refusal; parcel = back })) s'
