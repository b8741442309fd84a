-- Updates of the location that can't take effect before the end of a call: by that end the
-- subscriber has another location, and a read that is asked later saw theirs.
use Rattle.std.specs.Prelude.{◌≡◌, ℕ, ◌<◌, ◌≤◌, ◌⊎◌, false, List, Some, slice_get}
use Rattle.tatp_history.specs.declared.observed.Observed.{Observed}
use Rattle.tatp_history.specs.Histories.{IsIn}
use Rattle.tatp_linearization.specs.declared.ahead.Ahead.{Ahead}
use Rattle.tatp_linearization.specs.declared.configuration.Configuration.{Configuration as Held}
use Rattle.tatp_linearization.specs.Doomed.{sets_location}
use Rattle.tatp_linearization.specs.Unseen.{HasSetLocation, SawOther}
use Rattle.tatp_linearization.specs.Ahead.{times_in}

-- right after the call took effect the subscriber has another location: the call saw it, or set it
abbrev pub LeavesOther : ℕ → Observed → Type 0
LeavesOther location x =
    SawOther location x ⊎ (HasSetLocation x × (sets_location location x.call ≡ false))

-- none of the calls sets the location, but for the one at a place
abbrev pub NoOtherSets : ℕ → ℕ → List Observed → Type 0
NoOtherSets location place calls = (k : ℕ) (x : Observed) → slice_get calls k ≡ Some x
    → (k ≡ place → ⊥) → sets_location location x.call ≡ false

-- no later call of the window sets the location, but a later read saw it, which ends in the window
pub record IsSeenLater (ahead : Ahead) (now location : ℕ) : Type 0 where
  pub later : (times_in ahead location).set ≤ now
  pub inside : now < ahead.last
  pub read : now < (times_in ahead location).ended

-- the call that was asked at this time, and ends now, leaves another location than this, which is
-- seen later, and which of the open calls the one at the place sets alone
pub record ComesLater (ahead : Ahead) (now asked : ℕ) (c : Held) (place location : ℕ)
    : Type 0 where
  pub ending : (y : Observed) × IsIn y c.opened.items × (y.asked ≡ asked)
      × LeavesOther location y
  pub other : (x : Observed) → slice_get c.opened.items place ≡ Some x → x.asked ≡ asked → ⊥
  pub opened : NoOtherSets location place c.opened.items
  pub seen : IsSeenLater ahead now location
