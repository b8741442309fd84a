use Rattle.std.proofs.Common.{◌≡◌, ◌+◌, List, ◌==◌, count_by, ◌∙◌, ap, sym, arith}
use Rattle.std.proofs.lemmas.Bool.Decides.{nat_tests}
use Rattle.tatp_extents.specs.Extents.{ExtentState}
use Rattle.tatp_settle.specs.Closings.{ClosedSiteState, is_here, times_standing}
use Rattle.tatp_settle.proofs.StandingLaws.{times_standing_is}
use Rattle.tatp_settle.proofs.extents.is_doubled.Goals as goal

pub returns : goal.returns
returns c =
    let times : times_standing c.args.closed.now c.args.number ≡ c.times_at-at_sites.result + c.times_in-in_parcels.result =
    times_standing_is c.args.closed.now c.args.number c.sites.ensures.sound.sites
    ∙ (λ i. sym (c.times_at-at_sites.ensures ∙ ap (λ (xs : List ClosedSiteState). count_by (λ s. is_here s c.args.number) xs) c.sites.ensures.value) i
    + sym (c.times_in-in_parcels.ensures ∙ ap (λ (xs : List ExtentState). count_by (λ (x : ExtentState). x.number == c.args.number) xs) c.parcels.ensures) i) in
    (λ h. grind (arith, nat_tests, times, c.saturating_add.ensures, h), λ h. grind (arith, nat_tests, times, c.saturating_add.ensures, h))
