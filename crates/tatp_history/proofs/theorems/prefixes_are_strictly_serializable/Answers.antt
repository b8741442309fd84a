use Rattle.std.proofs.Common.{◌++◌, length, subst, arith}
use Rattle.tatp_history.specs.Histories.{IsStrictlySerializable}
use Rattle.tatp_history.specs.HistoryLines.{calls_of}
use Rattle.tatp_history.proofs.LineLaws.{calls_of_first, calls_in_time}
use Rattle.tatp_history.proofs.PrefixLaws.{prefixes}
use Rattle.tatp_history.proofs.theorems.prefixes_are_strictly_serializable.Goals as goal

pub returns : goal.returns
returns c = record {
  times = prefixes;
  told = λ first second. calls_of_first first second 1 (length first) (omega arith);
  lines = λ u first second h. subst (IsStrictlySerializable u) (calls_of_first first second 1 (length first) (omega arith)) (prefixes (length first) u (calls_of (first ++ second)) (calls_in_time 1 (first ++ second)) h);
}
