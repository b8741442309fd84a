use Rattle.tatp_console.proofs.OrderLaws.{told_in_order, later_in_order, after_in_order, served_in_order}
use Rattle.tatp_console.proofs.theorems.served_calls_are_in_order.Goals as goal

pub returns : goal.returns
returns c = record { told = told_in_order; later = later_in_order; after = after_in_order; served = served_in_order }
