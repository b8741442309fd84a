use Rattle.tatp_linearization.specs.Single.{answered_with}
use Rattle.tatp_linearization.specs.Legal.{events_with}
use Rattle.tatp_linearization.proofs.ListedLaws.{Sifting}
use Rattle.tatp_linearization.proofs.explanations.Explanations.legal_of.Given as goal

abbrev pub invariant-replies : goal.invariant-replies
invariant-replies l = Sifting l.self (λ reply. events_with (answered_with l.x l.at reply) l.cut) l.replies l.i l.legal.items
