use Rattle.std.proofs.Common.{◌∙◌, ap}
use Rattle.tatp_extents.specs.Extents.{home_among}
use Rattle.tatp_extents.specs.Parts.{state_of}
use Rattle.tatp_extents.proofs.ExtentLaws.{own_home}
use Rattle.tatp_extents.proofs.HistoryLaws.{among_is_at}
use Rattle.tatp_extents.proofs.extent.Extent.home.Goals as goal

pub returns-clause-own : goal.returns-clause-own
returns-clause-own c = own_home c.home_in_row.result c.deref.result.now c.args.s_id c.home_in_row.ensures.home

pub returns-clause-place : goal.returns-clause-place
returns-clause-place c = rw (← c.self.view_is)
    (c.home_in_row.ensures.home ∙ ap (home_among c.args.s_id) c.deref.ensures.value
    ∙ among_is_at (state_of c.self.inside.parts) c.args.s_id c.self.invariant.of_extent.in_order)
