use Rattle.tatp_sync.proofs.InboxLaws.{forks}
use Rattle.tatp_sync.proofs.inbox.Port.again.Goals as goal

pub another-pass-requires-clause-rule : goal.another-pass-requires-clause-rule
another-pass-requires-clause-rule g c = forks g.L.MessageRule.allows _ _
