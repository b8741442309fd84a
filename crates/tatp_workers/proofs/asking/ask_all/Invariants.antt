use Rattle.std.specs.List.{AllZip}
use Rattle.tatp_workers.specs.Clients.{GoesOn}
use Rattle.tatp_workers.proofs.asking.ask_all.Given as goal

abbrev pub invariant-loop-round : goal.invariant-loop-round
invariant-loop-round g l = AllZip (GoesOn g.Q.Requester.effects l.directory l.lists) l.initial.clients l.clients
