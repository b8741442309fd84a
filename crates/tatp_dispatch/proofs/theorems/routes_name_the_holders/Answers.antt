use Rattle.tatp_dispatch.proofs.HandLaws.{names_the_holder}
use Rattle.tatp_dispatch.proofs.theorems.routes_name_the_holders.Goals as goal

pub returns : goal.returns
returns c = names_the_holder
