-- What is answered to an event.
use Rattle.std.specs.Prelude.{Result}
use Rattle.tatp_events.specs.declared.event.Answer.{Answer}
use Rattle.tatp_events.specs.declared.refusal.Refusal.{Refusal}

-- an answer, or why the event is refused
abbrev pub Answered : Type 0
Answered = Result Answer Refusal
