use Rattle.std.proofs.Common.{subst}
use Rattle.std.proofs.lemmas.Result.{IfOk-weaker}
use Rattle.tatp_audits.specs.Audits.{IsVerdict}
use Rattle.tatp_console.proofs.event_line.verdict_line.Goals as goal

pub returns : goal.returns
returns c =
    IfOk-weaker c.format.result _ _
    (λ text h. record { verdict = c.in_ok-verdict.verdict; judged = subst (λ rows. IsVerdict rows c.in_ok-verdict.verdict) c.in_ok-rows.ensures.rows c.in_ok-verdict.ensures.verdict; line = h })
    c.format.ensures.ok
