use Rattle.tatp_machine.proofs.RunLaws.{one_outcome, some_alone}
use Rattle.tatp_machine.proofs.theorems.calls_alone_have_one_outcome.Goals as goal

pub returns : goal.returns
returns c = record {
  one = λ modul procedure arguments home u o p h k. one_outcome h.lines k.lines _ u o p h.ends k.ends;
  some = some_alone;
}
