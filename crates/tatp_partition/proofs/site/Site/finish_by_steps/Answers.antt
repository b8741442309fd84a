use Rattle.std.proofs.Common.{suc}
use Rattle.tatp_partition.proofs.FinishLaws.{went_on, fewer_left}
use Rattle.tatp_partition.proofs.site.Site.finish_by_steps.Goals as goal

pub steps-preserved : goal.steps-preserved
steps-preserved c =
    let gone = c.steps.invariant.gone in
    let went = went_on c.steps.self c.step_into.new.self c.step_into.new.buffer c.is_some.result c.is_some.ensures c.if-is_some.false c.in-Ok.ensures.steps in
    record { gone = (suc gone.0, (c.steps.self, gone.1, went.1)); empty = went.0 }

pub steps-smaller : goal.steps-smaller
steps-smaller c =
    let went = went_on c.steps.self c.step_into.new.self c.step_into.new.buffer c.is_some.result c.is_some.ensures c.if-is_some.false c.in-Ok.ensures.steps in
    fewer_left c.steps.self c.step_into.new.self went.1.1
