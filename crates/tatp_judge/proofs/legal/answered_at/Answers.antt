use Rattle.std.proofs.Common.{◌∷◌, []}
use Rattle.tatp_history.specs.Events.{IsAnsweredAt, asked_in}
use Rattle.tatp_history.specs.Histories.{IsIn}
use Rattle.tatp_judge.proofs.LegalReplyLaws.{asked_at_place}
use Rattle.tatp_judge.proofs.PlaceLaws.{found_at}
use Rattle.tatp_judge.proofs.legal.answered_at.Goals as goal

pub returns-in-Some : goal.returns-in-Some
returns-in-Some c =
    let events = c.args.events.now in
    let here : IsIn c.in-Some.x (asked_in (c.index-events-i.result ∷ [])) × IsAnsweredAt c.args.time c.in-Some.x.outcome = c.in-Some.ensures in
    (asked_at_place events c.events.i c.index-events-i.result c.in-Some.x (found_at events c.events.i c.index-events-i.result c.events-test.true c.index-events-i.is) here.0, here.1)
