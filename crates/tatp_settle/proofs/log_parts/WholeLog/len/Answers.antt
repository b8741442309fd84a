use Rattle.std.proofs.Common.{length, ap, arith}
use Rattle.tatp_settle.proofs.WholeLogLaws.{counted}
use Rattle.tatp_settle.proofs.log_parts.WholeLog.len.Goals as goal

pub returns : goal.returns
returns c =
    let all = counted 0 c.self.inside.parts.items c.self.inside.len c.self.invariant in
    let same = ap length c.self.view_is in
    omega (arith, all, same)
