use Rattle.std.proofs.Common.{◌≡◌, ◌<◌, ℕ, Some, IsSome, slice_get}
use Rattle.tatp_numbers.specs.Listing.{answer}
use Rattle.tatp_calls.specs.declared.entry.Entry.{Entry}
use Rattle.tatp_calls.specs.Asked.{key_asked}
use Rattle.tatp_settle.specs.declared.places.CallPlace.{CallPlace}
use Rattle.tatp_settle.specs.Named.{IsNamedIn}
use Rattle.tatp_settle.specs.Placing.{IsAtMost}
use Rattle.tatp_settle.proofs.named_calls.first_named.Given as goal

abbrev pub invariant-entries : goal.invariant-entries
invariant-entries l = record {
  seen : (j : ℕ) (entry : Entry) → j < l.index → slice_get l.log j ≡ Some entry → IsSome (answer l.directory (key_asked entry.ask)) → IsAtMost l.least entry.client entry.number;
  named : (place : CallPlace) → l.least ≡ Some place → IsNamedIn l.log l.directory place.client place.number;
}
