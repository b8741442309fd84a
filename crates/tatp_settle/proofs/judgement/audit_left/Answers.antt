use Rattle.std.proofs.Common.{◌≡◌, true, Result, Ok, Err, IfOk, subst}
use Rattle.std.specs.declared.alloc.AllocError.{AllocError}
use Rattle.tatp_tables.specs.Clean.{IsClean}
use Rattle.tatp_tables.specs.declared.row.Rows.{Rows}
use Rattle.tatp_audits.specs.declared.verdict.Verdict.{Verdict}
use Rattle.tatp_audits.specs.Audits.{IsVerdict, clean_of, says_clean}
use Rattle.tatp_settle.specs.Settlements.{IsAuditOf}
use Rattle.tatp_settle.proofs.judgement.audit_left.Goals as goal

audited : (rows : Rows) (told : Result Verdict AllocError) → IfOk told (IsVerdict rows) → IfOk told (λ v. says_clean v ≡ true → IsClean rows) → IfOk told (λ v. IsClean rows → v ≡ clean_of rows) → IfOk told (IsAuditOf rows)
audited rows (Ok v) told clean counts = record { told = told; clean = clean; counts = counts }
audited rows (Err e) told clean counts = tt

pub returns : goal.returns
returns c = subst (λ (rows : Rows). IfOk c.audit.result (IsAuditOf rows)) c.in_ok-rows.ensures (audited c.in_ok-rows.rows c.audit.result c.audit.ensures.verdict c.audit.ensures.clean c.audit.ensures.counts)
