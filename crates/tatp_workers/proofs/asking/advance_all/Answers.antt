use Rattle.std.proofs.Common.{get_or, arith}
use Rattle.std.proofs.lemmas.Option.{slice_get-get_or}
use Rattle.tatp_workers.proofs.ConversationLaws.{all_still, one_went_on}
use Rattle.tatp_workers.proofs.asking.advance_all.Goals as goal

pub loop-client-init : goal.loop-client-init
loop-client-init g c = all_still g.Q.Requester.effects c.args.directory.now c.args.lists.now c.args.clients.now

pub loop-client-preserved : goal.loop-client-preserved
loop-client-preserved g c =
    let clients = c.loop-client.clients in
    let i = c.loop-client.client-index in
    let client = c.client-item.result in
    one_went_on g.Q.Requester.effects c.args.directory.now c.args.lists.now c.args.clients.now clients i (get_or clients i client) c.advance.new.self c.loop-client.invariant
    (slice_get-get_or clients i client (omega (arith, c.loop-client-test.true, c.loop-client.auto))) c.advance.ensures
