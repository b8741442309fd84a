use Rattle.tatp_workers.proofs.DebuggerLaws.{inspected}
use Rattle.tatp_workers.proofs.debugger.inspect.Goals as goal

pub returns : goal.returns
returns g c = (
  c.look-seen.result,
  c.one-stepped.result,
  inspected c.args.partition c.look-seen.result c.one-stepped.result
      (g.D.Answering.effects c.args.debugging.now) (g.D.Answering.effects c.look-seen.new.self) (g.D.Answering.effects c.one-stepped.new.self)
      (g.D.Answering.effects c.follow_step.new.answering) (g.D.Answering.effects c.resume.new.self)
      c.look-seen.ensures c.one-stepped.ensures c.follow_step.ensures c.resume.ensures,
)
