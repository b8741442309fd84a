use Rattle.tatp_dispatch.proofs.ServeLaws.{served_transactions}
use Rattle.tatp_dispatch.proofs.theorems.transactions_are_served_in_order.Goals as goal

pub returns : goal.returns
returns c = served_transactions
