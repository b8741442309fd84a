use Rattle.tatp_judged_inputs.proofs.VerdictLaws.{legal_nowhere_illegal, illegal_at_one}
use Rattle.tatp_judged_inputs.proofs.theorems.histories_have_one_verdict.Goals as goal

pub returns-clause-legal : goal.returns-clause-legal
returns-clause-legal c = legal_nowhere_illegal

pub returns-clause-illegal : goal.returns-clause-illegal
returns-clause-illegal c = illegal_at_one
