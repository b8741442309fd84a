use Rattle.std.proofs.Common.{sym, ◌∙◌}
use Rattle.tatp_workers.proofs.ExecutorLaws.{one_more_offered, last_offered}
use Rattle.tatp_workers.proofs.executor.begin.Goals as goal

pub loop-round-preserved : goal.loop-round-preserved
loop-round-preserved g c =
    one_more_offered c.args.item.now c.offer-offered.result
    (g.E.Answering.effects c.args.executing.now) (g.E.Answering.effects c.loop-round.executing) (g.E.Answering.effects c.offer-offered.new.self)
    c.loop-round.invariant (sym c.is_again.ensures ∙ c.if-is_again.true) c.offer-offered.ensures

pub returns-else-is_again : goal.returns-else-is_again
returns-else-is_again g c =
    last_offered c.args.item.now c.offer-offered.result c.has_begun.result
    (g.E.Answering.effects c.args.executing.now) (g.E.Answering.effects c.loop-round.executing) (g.E.Answering.effects c.offer-offered.new.self) (g.E.Answering.effects c.follow.new.executing)
    c.loop-round.invariant (sym c.is_again.ensures ∙ c.if-is_again.false) c.has_begun.ensures c.offer-offered.ensures c.follow.ensures
