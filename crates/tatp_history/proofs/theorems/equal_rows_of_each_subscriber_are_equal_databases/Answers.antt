use Rattle.tatp_history.proofs.FinalLaws.{same_databases}
use Rattle.tatp_history.proofs.theorems.equal_rows_of_each_subscriber_are_equal_databases.Goals as goal

pub returns : goal.returns
returns c = λ u v is is' same. same_databases u v is.rows is'.rows same
