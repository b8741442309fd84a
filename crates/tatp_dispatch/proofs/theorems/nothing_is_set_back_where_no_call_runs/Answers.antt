use Rattle.tatp_dispatch.proofs.IdleLaws.{nothing_back}
use Rattle.tatp_dispatch.proofs.theorems.nothing_is_set_back_where_no_call_runs.Goals as goal

pub returns : goal.returns
returns c = nothing_back
