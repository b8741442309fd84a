use Rattle.tatp_procs.proofs.CodeLaws.{arity_is}
use Rattle.tatp_procs.proofs.TransactionLaws.{standard_performs}
use Rattle.tatp_procs.proofs.theorems.standard_procedures_are_transactions.Goals as goal

pub returns : goal.returns
returns c = record { performs = standard_performs; arity = arity_is }
