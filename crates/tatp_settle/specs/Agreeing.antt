-- Whether a call and its receipt are what the call's entry says.
use Rattle.std.specs.Prelude.{◌≡◌, Option, Some, None, slice_get}
use Rattle.tatp_calls.specs.declared.ask.Ask.{Ask}
use Rattle.tatp_logs.specs.Logs.{HasSaid}
use Rattle.tatp_logs.specs.declared.receipt.Receipt.{Receipt}
use Rattle.tatp_logs.specs.declared.receipt.Receipt.TheVariants.{Done, Refused}
use Rattle.tatp_settle.specs.declared.places.LogPlace.{LogPlace}
use Rattle.tatp_settle.specs.Closings.{ClosedState, entries_numbered}

-- the call is refused and has no entry, or its entry, in the log of the receipt's extent, has the
-- ask, and the reply and stamp of the receipt
abbrev pub Agrees : ClosedState → Option LogPlace → Ask → Receipt → Type 0
Agrees closed None ask (Done client number reply extent stamp) = ⊥
Agrees closed None ask (Refused client number) = Unit {0}
Agrees closed (Some place) ask (Done client number reply extent stamp) =
    (place.extent ≡ extent)
    × HasSaid (slice_get (entries_numbered closed place.extent) place.index) ask reply stamp
Agrees closed (Some place) ask (Refused client number) = ⊥
