use Rattle.std.proofs.Common.{ap}
use Rattle.tatp_homes.proofs.HoldLaws.{hold_access, type_of_access}
use Rattle.tatp_homes.proofs.home.Home.hold_access.Goals as goal

pub invariant_of-self : goal.invariant_of-self
invariant_of-self c =
    let f = c.self.inside in
    rw c.of.ensures
    (hold_access f.s_id f.subscriber f.accesses f.facilities f.forwardings c.args.row.now c.in-Some.place c.self.invariant c.requires.row
    (rw (← c.self.view_is) at c.requires.own) (rw (← c.self.view_is) at c.requires.free) (rw (← c.self.view_is) at c.requires.parent) c.in-Some.ensures.some).cells

pub returns-in-Some : goal.returns-in-Some
returns-in-Some c =
    let f = c.self.inside in
    rw (← c.self.view_is, c.of.ensures) (ap (λ u. record { s_id = f.s_id; tables = u })
    (hold_access f.s_id f.subscriber f.accesses f.facilities f.forwardings c.args.row.now c.in-Some.place c.self.invariant c.requires.row
    (rw (← c.self.view_is) at c.requires.own) (rw (← c.self.view_is) at c.requires.free) (rw (← c.self.view_is) at c.requires.parent) c.in-Some.ensures.some).tables)

pub returns-in_default : goal.returns-in_default
returns-in_default c =
    let place = type_of_access c.args.row.now c.requires.row in
    let none = c.in_default.ensures.domain in
    cc
