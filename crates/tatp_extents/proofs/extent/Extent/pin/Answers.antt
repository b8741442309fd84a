use Rattle.std.proofs.Common.{subst, sym}
use Rattle.tatp_extents.specs.Extents.{ExtentState, LiesIn}
use Rattle.tatp_extents.specs.Pinning.{HasItsHome}
use Rattle.tatp_extents.specs.Parts.{pinned_state_of}
use Rattle.tatp_extents.proofs.PlaceLaws.{has_its_home}
use Rattle.tatp_extents.proofs.extent.Extent.pin.Goals as goal

pub returns-in-Ok-clause-home : goal.returns-in-Ok-clause-home
returns-in-Ok-clause-home c = subst HasItsHome (sym c.new.ensures)
    (has_its_home (pinned_state_of c.self.inside.parts c.args.s_id) c.self.invariant (subst (λ (x : ExtentState). LiesIn c.args.s_id x) (sym c.self.view_is) c.requires))
