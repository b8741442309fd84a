use Rattle.std.proofs.Common.{ap}
use Rattle.tatp_logs.specs.Logs.{LogState}
use Rattle.tatp_logs.proofs.LogLaws.{called}
use Rattle.tatp_logs.proofs.log.Log.caller.Goals as goal

pub returns : goal.returns
returns c = called c.self.inside.outputs.items c.self.inside.calls.items c.args.self.now.entries c.args.index c.index-logged.result.now (ap (λ (x : LogState). x.entries) c.self.view_is) c.requires c.index-logged.ensures
