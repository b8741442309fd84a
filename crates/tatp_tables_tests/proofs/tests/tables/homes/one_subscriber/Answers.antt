use Rattle.std.proofs.Common.{sym, subst, ap, ◌∙◌}
use Rattle.tatp_tables.specs.Rows.{with_row}
use Rattle.tatp_tables.specs.Clean.{IsClean}
use Rattle.tatp_tables_tests.proofs.SubscriberLaws.{subscriber, access, facility, forwarding, IsClean-one_subscriber}
use Rattle.tatp_tables.specs.declared.row.Row.TheVariants.{S, A, F, C}
use Rattle.tatp_tables_tests.proofs.tests.tables.homes.one_subscriber.Goals as goal

pub returns : goal.returns
returns c = subst IsClean
    (sym (c.in_ok-push-4.ensures.ok
    ∙ ap (λ rows. with_row rows (S subscriber)) (c.in_ok-push-3.ensures.ok
    ∙ ap (λ rows. with_row rows (A access)) (c.in_ok-push-2.ensures.ok
    ∙ ap (λ rows. with_row rows (F facility)) (c.in_ok-push.ensures.ok ∙ ap (λ rows. with_row rows (C forwarding)) c.new-rows.ensures)))))
    IsClean-one_subscriber
