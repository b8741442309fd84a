use Rattle.tatp_audits.proofs.Verdicts.{verdict_is, pass_is, clean_is}
use Rattle.tatp_audits.proofs.CleanRows.{clean_from, pass_from}
use Rattle.tatp_audits.proofs.audits.audit.Goals as goal

pub returns-clause-verdict : goal.returns-clause-verdict
returns-clause-verdict c = verdict_is c.args.rows.now _ _ _ c.in_ok-told.ensures c.clean.ensures c.unwrap_or.ensures

pub returns-clause-clean : goal.returns-clause-clean
returns-clause-clean c = λ says. clean_from c.args.rows.now (pass_is c.args.rows.now _ _ _ c.in_ok-told.ensures c.clean.ensures c.unwrap_or.ensures says)

pub returns-clause-counts : goal.returns-clause-counts
returns-clause-counts c = λ clean. clean_is c.args.rows.now _ _ _ c.in_ok-told.ensures c.clean.ensures c.unwrap_or.ensures (pass_from c.args.rows.now clean)
