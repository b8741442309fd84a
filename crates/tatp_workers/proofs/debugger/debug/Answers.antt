use Rattle.tatp_workers.proofs.DebuggerLaws.{debugged}
use Rattle.tatp_workers.proofs.debugger.debug.Goals as goal

pub returns-then-stop : goal.returns-then-stop
returns-then-stop g c =
    debugged c.args.partition c.inspect.ensures.0 c.inspect.ensures.1
    (g.D.Answering.effects c.args.debugging.now) (g.D.Answering.effects c.stop.new.self) (g.D.Answering.effects c.inspect.new.debugging)
    c.if-stop.ensures c.inspect.ensures.2
