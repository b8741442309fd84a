use Rattle.std.proofs.Common.{◌≡◌, sym, subst}
use Rattle.tatp_settle.specs.Closings.{closed_site, IsClosedSite}
use Rattle.tatp_settle.proofs.ClosingLaws.{is_closed_site}
use Rattle.tatp_settle.proofs.gathering.close.Goals as goal

pub returns-clause-holds : goal.returns-clause-holds
returns-clause-holds c =
    let value : closed_site c.args.site ≡ _ = λ i. record { partition = sym c.partition-partition.ensures i; slots = sym c.close-slots.ensures.slots i; homeless = sym c.close-slots.ensures.homeless i } in
    subst IsClosedSite value (is_closed_site c.args.site c.close-slots.ensures.site)
