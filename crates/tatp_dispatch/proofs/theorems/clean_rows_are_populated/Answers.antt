use Rattle.tatp_dispatch.proofs.CleanLaws.{clean_populated}
use Rattle.tatp_dispatch.proofs.theorems.clean_rows_are_populated.Goals as goal

pub returns : goal.returns
returns c = clean_populated
