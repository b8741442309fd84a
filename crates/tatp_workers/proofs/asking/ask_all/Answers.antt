use Rattle.tatp_workers.proofs.ConversationLaws.{all_still, all_twice, all_asked}
use Rattle.tatp_workers.proofs.asking.ask_all.Goals as goal

pub loop-round-init : goal.loop-round-init
loop-round-init g c = all_still g.Q.Requester.effects c.args.directory.now c.args.lists.now c.args.clients.now

pub loop-round-preserved-then-advance_all : goal.loop-round-preserved-then-advance_all
loop-round-preserved-then-advance_all g c = all_twice g.Q.Requester.effects c.args.directory.now c.args.lists.now c.args.clients.now c.loop-round.clients c.advance_all.new.clients c.loop-round.invariant c.advance_all.ensures

pub returns-then-have_ended : goal.returns-then-have_ended
returns-then-have_ended g c =
    all_asked g.Q.Requester.effects c.args.directory.now c.args.lists.now c.args.clients.now c.advance_all.new.clients
    (all_twice g.Q.Requester.effects c.args.directory.now c.args.lists.now c.args.clients.now c.loop-round.clients c.advance_all.new.clients c.loop-round.invariant c.advance_all.ensures)
    (c.have_ended.ensures c.if-have_ended.true)

pub loop-round-preserved : goal.loop-round-preserved
loop-round-preserved g c = all_twice g.Q.Requester.effects c.args.directory.now c.args.lists.now c.args.clients.now c.loop-round.clients c.advance_all.new.clients c.loop-round.invariant c.advance_all.ensures
