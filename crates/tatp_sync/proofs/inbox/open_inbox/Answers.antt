use Rattle.tatp_sync.proofs.InboxLaws.{forks}
use Rattle.tatp_sync.proofs.inbox.open_inbox.Goals as goal

pub another-second-requires-clause-rule : goal.another-second-requires-clause-rule
another-second-requires-clause-rule g c = forks g.L.MessageRule.allows _ _
