use Rattle.std.proofs.Common.{subst, List}
use Rattle.std.specs.Prelude.{IfOk}
use Rattle.tatp_tables.specs.Tuples.{Tuple}
use Rattle.tatp_audits.specs.Failing.{Finds, is_twice}
use Rattle.tatp_audits.specs.Audits.{numbers}
use Rattle.tatp_audits.proofs.twice.number_twice.Goals as goal

pub returns : goal.returns
returns c = subst (λ (l : List Tuple). IfOk c.least_number_twice.result (Finds (is_twice (numbers l)))) c.as_slice.ensures c.least_number_twice.ensures
