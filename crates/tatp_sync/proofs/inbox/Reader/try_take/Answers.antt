use Rattle.tatp_sync.proofs.InboxLaws.{takes}
use Rattle.tatp_sync.proofs.inbox.Reader.try_take.Goals as goal

pub try_recv_as-requires-clause-rule : goal.try_recv_as-requires-clause-rule
try_recv_as-requires-clause-rule g c = (takes g.L.MessageRule.allows _ _, λ items views all at. tt)
