use Rattle.std.specs.List.{AllZip}
use Rattle.tatp_workers.specs.Clients.{GoesOn}
use Rattle.tatp_workers.proofs.asking.advance_all.Given as goal

abbrev pub invariant-loop-client : goal.invariant-loop-client
invariant-loop-client g l = AllZip (GoesOn g.Q.Requester.effects l.directory l.lists) l.initial.clients l.clients
