use Rattle.std.proofs.Common.{◌≡◌, true, sym, ◌∙◌}
use Rattle.tatp_linearization.specs.Unseen.{sees, location_in}
use Rattle.tatp_linearization.proofs.AheadLaws.{saw_location}
use Rattle.tatp_linearization.proofs.ClusterLaws.{seen_is}
use Rattle.tatp_linearization.proofs.lost.is_ended_read.Goals as goal

pub returns-then-sees : goal.returns-then-sees
returns-then-sees c = λ yes.
    let saw : sees c.args.location c.args.x.now ≡ true = sym c.sees.ensures ∙ c.if-sees.true in
    (saw_location c.args.location c.args.x.now (seen_is c.args.location (location_in c.args.x.now) saw), c.is_answered_by.ensures.0 yes)
