-- The home of a pinned extent, lent.
use Rattle.std.specs.Borrow.{Lends, MutBor, Fml}
use Rattle.tatp_homes.specs.Home.{SubscriberRows}
use Rattle.tatp_homes.specs.contracts.home.Home as home
use Rattle.tatp_extents.specs.Extents.{with_home_at}
use Rattle.tatp_extents.specs.Pinning.{PinnedState}
use Rattle.tatp_extents.specs.contracts.pinned.Pinned.{the_row}

-- the pinned extent with this home in the place of its subscriber
abbrev pub with_pinned_home : PinnedState → SubscriberRows → PinnedState
with_pinned_home p home = record p { extent = with_home_at p.extent p.s_id home }

-- the home of its subscriber is lent
abbrev pub LendsHome : MutBor PinnedState → MutBor SubscriberRows → Fml
LendsHome p r = Lends the_row home.the_row p r (with_pinned_home p.now)
