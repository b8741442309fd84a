use Rattle.tatp_sync.proofs.InboxLaws.{puts}
use Rattle.tatp_sync.proofs.inbox.Port.put.Goals as goal

pub try_send_as-requires-clause-rule : goal.try_send_as-requires-clause-rule
try_send_as-requires-clause-rule g c = (puts g.L.MessageRule.allows _ _ _ _ c.requires, λ items views all at. tt)
