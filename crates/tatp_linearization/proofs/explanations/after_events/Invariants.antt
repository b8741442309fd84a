use Rattle.tatp_linearization.proofs.FollowLaws.{IsFollowed}
use Rattle.tatp_linearization.proofs.explanations.after_events.Given as goal

abbrev pub invariant-events : goal.invariant-events
invariant-events l = IsFollowed l.set l.events l.i l.after.items
