use Rattle.std.proofs.Common.{ap}
use Rattle.tatp_homes.proofs.HoldLaws.{hold_subscriber}
use Rattle.tatp_homes.proofs.home.Home.hold_subscriber.Goals as goal

pub invariant_of-self : goal.invariant_of-self
invariant_of-self c =
    let f = c.self.inside in
    rw c.of.ensures
    (hold_subscriber f.s_id f.subscriber f.accesses f.facilities f.forwardings c.args.row.now c.self.invariant c.requires.row
    (rw (← c.self.view_is) at c.requires.own) (rw (← c.self.view_is) at c.requires.free)).cells

pub returns : goal.returns
returns c =
    let f = c.self.inside in
    rw (← c.self.view_is, c.of.ensures) (ap (λ u. record { s_id = f.s_id; tables = u })
    (hold_subscriber f.s_id f.subscriber f.accesses f.facilities f.forwardings c.args.row.now c.self.invariant c.requires.row
    (rw (← c.self.view_is) at c.requires.own) (rw (← c.self.view_is) at c.requires.free)).tables)
