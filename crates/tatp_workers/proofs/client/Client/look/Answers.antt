use Rattle.std.proofs.Common.{refl}
use Rattle.tatp_workers.proofs.ConversationLaws.{has_got, has_lost}
use Rattle.tatp_workers.proofs.client.Client.look.Goals as goal

pub returns-in-Received : goal.returns-in-Received
returns-in-Received g c = λ listing lists. has_got g.Q.Requester.effects listing lists c.args.self.now _ c.look.result c.in-Received.is c.requires c.look.ensures c.seen_after-self.ensures refl refl refl

pub returns-in-Dropped : goal.returns-in-Dropped
returns-in-Dropped g c = λ listing lists. has_lost g.Q.Requester.effects listing lists c.args.self.now _ c.look.result c.in-Dropped.is c.requires c.look.ensures refl refl refl
