use Rattle.tatp_inputs.specs.Parts.{before_dot}
use Rattle.tatp_judged_inputs.proofs.VerdictLaws.{legal_nowhere_illegal, legal_nowhere_unreached, unreached_at_one}
use Rattle.tatp_judged_inputs.proofs.theorems.histories_and_rows_have_one_verdict.Goals as goal

pub returns-clause-legal : goal.returns-clause-legal
returns-clause-legal c = legal_nowhere_unreached

pub returns-clause-illegal : goal.returns-clause-illegal
returns-clause-illegal c = λ u aside taken texts number other s illegal is. legal_nowhere_illegal u aside taken (before_dot texts) number is.legal illegal

pub returns-clause-subscriber : goal.returns-clause-subscriber
returns-clause-subscriber c = unreached_at_one
