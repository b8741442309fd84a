use Rattle.std.specs.String.{string_bytes}
use Rattle.tatp_explanations.specs.Numbers.{numbers_below}
use Rattle.tatp_explanations.specs.Texts.{IsListing}
use Rattle.tatp_explanations.proofs.commands.listing.Given as goal

abbrev pub invariant-loop-number : goal.invariant-loop-number
invariant-loop-number l = IsListing (numbers_below l.number) (string_bytes l.text)
