use Rattle.std.proofs.Common.{subst, List, map, take}
use Rattle.std.specs.Prelude.{IfOk}
use Rattle.tatp_tables.specs.Tuples.{Tuple}
use Rattle.tatp_audits.specs.Failing.{Finds, is_twice}
use Rattle.tatp_audits.proofs.twice.access_twice.Goals as goal

pub returns : goal.returns
returns c = subst (λ (l : List Tuple). IfOk c.least_key_twice.result (Finds (is_twice (map (take 2) l)))) c.as_slice.ensures c.least_key_twice.ensures
