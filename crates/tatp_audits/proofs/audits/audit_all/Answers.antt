use Rattle.tatp_audits.specs.Audits.{id_tests, number_tests, key_tests, parent_tests, value_tests, count_tests}
use Rattle.tatp_audits.proofs.Verdicts.{told_all}
use Rattle.tatp_audits.proofs.audits.audit_all.Goals as goal

pub returns : goal.returns
returns c = let r = c.args.rows.now in told_all (id_tests r) (number_tests r) (key_tests r) (parent_tests r) (value_tests r) (count_tests r) _ _ _ _ _ _ _ _ _ _ _
    c.in_ok-ids.ensures c.in_ok-numbers.ensures c.in_ok-keys.ensures c.in_ok-parents.ensures c.audit_values-values.ensures c.in_ok-counts.ensures
    c.or.ensures c.or-2.ensures c.or-3.ensures c.or-4.ensures c.or-5.ensures
