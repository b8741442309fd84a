use Rattle.tatp_sync.proofs.InboxLaws.{takes}
use Rattle.tatp_sync.proofs.inbox.Reader.wait.Goals as goal

pub recv_as-requires-clause-rule : goal.recv_as-requires-clause-rule
recv_as-requires-clause-rule g c = (takes g.L.MessageRule.allows _ _, λ items views all at. tt)
