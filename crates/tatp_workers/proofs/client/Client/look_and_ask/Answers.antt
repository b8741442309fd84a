use Rattle.tatp_workers.proofs.ConversationLaws.{goes_on_twice}
use Rattle.tatp_workers.proofs.client.Client.look_and_ask.Goals as goal

pub returns-then-eq : goal.returns-then-eq
returns-then-eq g c =
    goes_on_twice g.Q.Requester.effects c.args.directory.now c.args.lists.now c.args.self.now c.look-has_come.new.self c.ask_next.new.self (c.look-has_come.ensures c.args.directory.now c.args.lists.now) c.ask_next.ensures

pub returns-else-eq : goal.returns-else-eq
returns-else-eq g c = c.look-has_come.ensures c.args.directory.now c.args.lists.now
