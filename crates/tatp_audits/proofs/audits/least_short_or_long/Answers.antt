use Rattle.tatp_audits.proofs.Miscounts.{short_or_long}
use Rattle.tatp_audits.proofs.audits.least_short_or_long.Goals as goal

pub returns : goal.returns
returns c = short_or_long c.args.rows.now _ _ _ _ _ _ _ _ _ c.as_slice-subscribers.ensures c.as_slice-accesses.ensures c.as_slice-facilities.ensures c.as_slice-forwardings.ensures
    c.in_ok-by_accesses.ensures c.in_ok-by_facilities.ensures c.in_ok-by_forwardings.ensures c.lower-of_subscribers.ensures c.lower.ensures
