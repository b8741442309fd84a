use Rattle.tatp_audits.proofs.CleanRows.{ids_are, numbers_are, keys_are, parents_are, values_are, counts_are}
use Rattle.tatp_audits.proofs.theorems.each_audit_is_its_statement.Goals as goal

pub returns : goal.returns
returns c = record {
  ids = ids_are;
  numbers = numbers_are;
  keys = keys_are;
  parents = parents_are;
  values = values_are;
  counts = counts_are;
}
