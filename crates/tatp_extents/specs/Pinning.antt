-- Pinned extents: extents while a call runs on one of their homes.
use Rattle.std.specs.Prelude.{◌≡◌, ℕ, ◌<◌, false, IsSomeAnd, refl}
use Rattle.std.specs.Coded.{Coded, code_by, coded×, coded_ℕ}
use Rattle.tatp_homes.specs.Home.{SubscriberRows}
use Rattle.tatp_calls.specs.declared.entry.Entry.{Entry}
use Rattle.tatp_extents.specs.Histories.{Records}
use Rattle.tatp_extents.specs.Extents.{ExtentState, extent_state_code, IsExtent, LiesIn, place_in, home_at, with_home_at, last_stamp_of}

-- what contracts see of a pinned extent: the extent with its homes as they are, and the subscriber
-- whose home a call runs on
pub record PinnedState : Type 0 where
  pub extent : ExtentState
  pub s_id : ℕ

abbrev pub pinned_state_code : Coded PinnedState
pinned_state_code =
    code_by (ExtentState × ℕ) (coded× extent_state_code coded_ℕ)
    (λ p. (p.extent, p.s_id)) (λ p. record { extent = p.0; s_id = p.1 }) (λ _. refl)

-- what holds of every pinned extent: with some home in the place of its subscriber it is an extent,
-- so its log makes all other homes
pub record IsPinned (p : PinnedState) : Type 0 where
  pub home : SubscriberRows
  pub extent : IsExtent (with_home_at p.extent p.s_id home)
  pub lies : LiesIn p.s_id p.extent

-- the call of this entry ended on the pinned home: before it the log made the home, and it led to
-- the home as it is
pub record Logs (p : PinnedState) (entry : Entry) : Type 0 where
  pub home : SubscriberRows
  pub extent : IsExtent (with_home_at p.extent p.s_id home)
  pub unmixed : p.extent.mixed ≡ false
  pub records
      : Records entry (place_in p.extent.number p.s_id)
      (with_home_at p.extent p.s_id home).homes p.extent.homes
  pub later : last_stamp_of p.extent < entry.stamp

-- the home in the place of the pinned subscriber is that subscriber's
abbrev pub HasItsHome : PinnedState → Type 0
HasItsHome p = IsSomeAnd (home_at p.extent p.s_id) (λ home. home.s_id ≡ p.s_id)
