-- Calls of three kinds: no call writes what a call of another kind reads or writes. So before a
-- call is answered only calls of its kind need take effect.
use Rattle.std.specs.Prelude.{◌≡◌, Option, Some, None}
use Rattle.tatp_calls.specs.declared.call.Call.{Call}
use Rattle.tatp_calls.specs.declared.call.Call.TheVariants.{GetSubscriberData, GetNewDestination, GetAccessData, UpdateSubscriberData, UpdateLocation, InsertCallForwarding, DeleteCallForwarding}
use Rattle.tatp_linearization.specs.declared.kinds.Kind.{Kind}
use Rattle.tatp_linearization.specs.declared.kinds.Kind.TheVariants.{Columns, Accesses, Forwardings}

abbrev pub kind_of : Call → Kind
kind_of (GetSubscriberData s) = Columns
kind_of (GetNewDestination s t b e) = Forwardings
kind_of (GetAccessData s t) = Accesses
kind_of (UpdateSubscriberData s x t y) = Columns
kind_of (UpdateLocation n v) = Columns
kind_of (InsertCallForwarding n t b e x) = Forwardings
kind_of (DeleteCallForwarding n t b) = Forwardings

-- the call is of the kind, or any where none is given
abbrev pub IsTried : Option Kind → Call → Type 0
IsTried None call = Unit {0}
IsTried (Some kind) call = kind_of call ≡ kind
