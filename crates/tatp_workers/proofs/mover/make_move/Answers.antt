use Rattle.tatp_workers.proofs.MoverLaws.{taken, not_taken}
use Rattle.tatp_workers.proofs.mover.make_move.Goals as goal

pub returns-in-Err-take : goal.returns-in-Err-take
returns-in-Err-take g c =
    not_taken c.args.extent c.args.to c.in-Ok.plan c.in-Err-take.field-0
    (g.C.Carrying.effects c.args.carrying.now) (g.C.Carrying.effects c.plan.new.self) (g.C.Carrying.effects c.take.new.self)
    c.in-Ok.ensures.planned c.in-Ok.ensures.effects c.in-Err-take.ensures.effects

pub returns-in-Ok-take : goal.returns-in-Ok-take
returns-in-Ok-take g c =
    taken c.args.extent c.args.to c.in-Ok.plan c.in-Ok-take.parcel.number c.deliver.result
    (g.C.Carrying.effects c.args.carrying.now) (g.C.Carrying.effects c.plan.new.self) (g.C.Carrying.effects c.take.new.self) (g.C.Carrying.effects c.deliver.new.carrying)
    c.in-Ok.ensures.planned c.in-Ok.ensures.effects c.in-Ok-take.ensures.effects c.in-Ok-take.ensures.number c.deliver.ensures
