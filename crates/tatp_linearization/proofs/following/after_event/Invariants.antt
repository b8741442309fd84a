use Rattle.tatp_linearization.specs.Ahead.{IsSeenAhead}
use Rattle.tatp_linearization.proofs.GatheringLaws.{Sharing}
use Rattle.tatp_linearization.proofs.following.after_event.Given as goal

abbrev pub invariant-configurations : goal.invariant-configurations
invariant-configurations l = Sharing (IsSeenAhead l.ahead) l.event l.set l.i l.after.items l.tried.items
