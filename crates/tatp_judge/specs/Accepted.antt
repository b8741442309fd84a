-- Lines whose calls have arguments in their domains.
use Rattle.std.specs.Prelude.{◌≡◌, Ok}
use Rattle.tatp_calls.specs.Arguments.{arguments_accepted}
use Rattle.tatp_history.specs.declared.line.Line.{Line}
use Rattle.tatp_history.specs.declared.line.Line.TheVariants.{Ask, End, Abort, Lost}

abbrev pub IsAcceptedLine : Line → Type 0
IsAcceptedLine (Ask client call) = arguments_accepted call ≡ Ok tt
IsAcceptedLine (End client recorded) = Unit {0}
IsAcceptedLine (Abort client) = Unit {0}
IsAcceptedLine (Lost client) = Unit {0}
