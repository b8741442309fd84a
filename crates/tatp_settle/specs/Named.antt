-- Entries whose key names a subscriber.
use Rattle.std.specs.Prelude.{◌≡◌, ℕ, List, Some, IsSome, slice_get}
use Rattle.tatp_numbers.specs.Listing.{Listing, answer}
use Rattle.tatp_calls.specs.declared.entry.Entry.{Entry}
use Rattle.tatp_calls.specs.Asked.{key_asked}
use Rattle.tatp_settle.specs.Answering.{IsEntryOf}

-- an entry of the call is in the log, and its key names a subscriber
pub record IsNamedIn (log : List Entry) (directory : Listing) (client number : ℕ) : Type 0 where
  pub index : ℕ
  pub entry : Entry
  pub stands : slice_get log index ≡ Some entry
  pub own : IsEntryOf client number entry
  pub names : IsSome (answer directory (key_asked entry.ask))
