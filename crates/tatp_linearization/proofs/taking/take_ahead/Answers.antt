use Rattle.tatp_linearization.proofs.LaterLaws.{lost_never}
use Rattle.tatp_linearization.proofs.taking.take_ahead.Goals as goal

pub returns-then-loses_location : goal.returns-then-loses_location
returns-then-loses_location c =
    let k = c.loses_location.ensures c.if-loses_location.true in
    lost_never c.args.c.now c.args.i c.args.ahead.now c.args.now k.0 c.what_holds_of_every_home.ensures k.1
