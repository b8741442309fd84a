use Rattle.std.proofs.Common.{Ok, sym, ◌∙◌}
use Rattle.std.specs.Result.{result_and}
use Rattle.tatp_partition.specs.Running.{stepped_of}
use Rattle.tatp_workers.specs.Slices.{logged_by}
use Rattle.tatp_workers.proofs.ExecutorLaws.{one_more_sliced, last_sliced}
use Rattle.tatp_workers.proofs.executor.run.Goals as goal

pub loop-round-preserved : goal.loop-round-preserved
loop-round-preserved g c =
    one_more_sliced (result_and c.slice-made.result (Ok (stepped_of c.slice-made.new.buffer))) (logged_by c.slice-made.result)
    (g.E.Answering.effects c.args.executing.now) (g.E.Answering.effects c.loop-round.executing) (g.E.Answering.effects c.slice-made.new.self)
    c.loop-round.invariant (sym c.continues.ensures ∙ c.if-continues.true) c.slice-made.ensures

pub loop-round-preserved-then-is_err : goal.loop-round-preserved-then-is_err
loop-round-preserved-then-is_err g c =
    one_more_sliced (result_and c.slice-made.result (Ok (stepped_of c.slice-made.new.buffer))) (logged_by c.slice-made.result)
    (g.E.Answering.effects c.args.executing.now) (g.E.Answering.effects c.loop-round.executing) (g.E.Answering.effects c.slice-made.new.self)
    c.loop-round.invariant (sym c.continues.ensures ∙ c.if-continues.true) c.slice-made.ensures

pub returns-else-continues : goal.returns-else-continues
returns-else-continues g c =
    last_sliced c.args.partition c.args.chapter (result_and c.slice-made.result (Ok (stepped_of c.slice-made.new.buffer))) (logged_by c.slice-made.result)
    (g.E.Answering.effects c.args.executing.now) (g.E.Answering.effects c.loop-round.executing) (g.E.Answering.effects c.slice-made.new.self) (g.E.Answering.effects c.finish.new.executing)
    c.loop-round.invariant (sym c.continues.ensures ∙ c.if-continues.false) c.slice-made.ensures c.finish.ensures
