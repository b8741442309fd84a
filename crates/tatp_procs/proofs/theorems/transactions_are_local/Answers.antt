use Rattle.tatp_procs.proofs.LocalityLaws.{transactions_are_local, rows_stay_own, fails_without_home, named_at_home, named_anywhere}
use Rattle.tatp_procs.proofs.theorems.transactions_are_local.Goals as goal

pub returns : goal.returns
returns c = record { local = transactions_are_local; own = rows_stay_own; homeless = fails_without_home; named_at_home = named_at_home; named_anywhere = named_anywhere }
