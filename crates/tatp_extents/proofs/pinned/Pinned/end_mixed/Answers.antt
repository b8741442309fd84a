use Rattle.std.proofs.Common.{subst, sym}
use Rattle.tatp_extents.specs.Pinning.{HasItsHome}
use Rattle.tatp_extents.specs.Parts.{pinned_in}
use Rattle.tatp_extents.proofs.HistoryLaws.{mixes}
use Rattle.tatp_extents.proofs.pinned.Pinned.end_mixed.Goals as goal

pub of_parts-requires : goal.of_parts-requires
of_parts-requires c = mixes (pinned_in c.self.inside.parts c.self.inside.place) c.self.invariant.0 (subst HasItsHome (sym c.self.view_is) c.requires)
