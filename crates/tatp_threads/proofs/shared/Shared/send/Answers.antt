use Rattle.std.proofs.Common.{length, refl, sym, subst, arith}
use Rattle.std.proofs.lemmas.Option.{slice_get_read}
use Rattle.tatp_threads.specs.Inboxes.{PutsCall}
use Rattle.tatp_threads.proofs.SendingLaws.{sent}
use Rattle.tatp_threads.proofs.shared.Shared.send.Goals as goal

pub returns : goal.returns
returns g c =
    let ports = c.args.ports.now in
    let partition = c.route-partition.result in
    let port = c.index-ports-partition.result in
    sent g.A.RunCalls.lists ports partition port c.put.new.port c.args.item.now c.put.result (slice_get_read ports (length ports) partition port refl (omega (arith, c.if-partition-ports.false)) c.index-ports-partition.is)
    (subst (λ port. PutsCall g.A.RunCalls.lists port c.args.item.now c.put.result c.put.new.port) (sym c.index-ports-partition.is) c.put.ensures)
