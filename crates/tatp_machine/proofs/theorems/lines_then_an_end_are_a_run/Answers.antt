use Rattle.std.proofs.Common.{refl}
use Rattle.tatp_machine.proofs.RunLaws.{run_of}
use Rattle.tatp_machine.proofs.theorems.lines_then_an_end_are_a_run.Goals as goal

pub returns : goal.returns
returns c = record {
  none = λ q u. (refl, refl);
  one_more = λ lines q q' q'' u u' u'' lead line. (q', u', lead, line);
  ends = run_of;
}
