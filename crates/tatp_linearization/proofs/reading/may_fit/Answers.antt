use Rattle.std.proofs.Common.{◌≡◌, Some, sym, ◌∙◌}
use Rattle.tatp_linearization.specs.Unseen.{location_in}
use Rattle.tatp_linearization.proofs.AheadLaws.{saw_location}
use Rattle.tatp_linearization.proofs.DoomedLaws.{misfits}
use Rattle.tatp_linearization.proofs.reading.may_fit.Goals as goal

pub returns-in-Some : goal.returns-in-Some
returns-in-Some c = λ other fits.
    let saw : location_in c.args.x.now ≡ Some c.in-Some.location = sym c.location_seen.ensures ∙ c.in-Some.is in
    misfits c.in-Some.location c.args.x.now c.args.home.now.tables (saw_location c.in-Some.location c.args.x.now saw) (c.has_location.ensures other) fits
