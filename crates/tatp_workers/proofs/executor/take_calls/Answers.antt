use Rattle.std.proofs.Common.{[], ◌∷◌, Some, None, refl, subst}
use Rattle.tatp_workers.specs.declared.message.Message.{Message}
use Rattle.tatp_workers.specs.declared.message.Message.TheVariants.{Quit}
use Rattle.tatp_workers.specs.declared.effects.Effect.TheVariants.{Receives}
use Rattle.tatp_workers.specs.Growing.{Grows}
use Rattle.tatp_workers.proofs.ExecutorLaws.{one_more_executed, last_received}
use Rattle.tatp_workers.proofs.executor.take_calls.Goals as goal

pub loop-round-preserved : goal.loop-round-preserved
loop-round-preserved g c =
    let mid = g.E.Answering.effects c.loop-round.executing in
    let received_known = g.E.Answering.effects c.receive.new.self in
    let received = subst (λ (m : Message). Grows mid received_known (Receives (Some m) ∷ [])) c.in-Some-Call.field-0-is c.in-Some-Call.ensures in
    one_more_executed c.args.partition c.args.chapter c.in-Some-Call.item
    (g.E.Answering.effects c.args.executing.now) mid received_known (g.E.Answering.effects c.execute_call.new.executing)
    c.loop-round.invariant received c.execute_call.ensures

pub returns-in-None-receive : goal.returns-in-None-receive
returns-in-None-receive g c =
    last_received c.args.partition c.args.chapter None
    (g.E.Answering.effects c.args.executing.now) (g.E.Answering.effects c.loop-round.executing) (g.E.Answering.effects c.receive.new.self)
    c.loop-round.invariant refl c.in-None-receive.ensures

pub returns-in-Some-Quit : goal.returns-in-Some-Quit
returns-in-Some-Quit g c =
    let mid = g.E.Answering.effects c.loop-round.executing in
    let received_known = g.E.Answering.effects c.receive.new.self in
    let received = subst (λ (m : Message). Grows mid received_known (Receives (Some m) ∷ [])) c.in-Some-Quit.field-0-is c.in-Some-Quit.ensures in
    last_received c.args.partition c.args.chapter (Some Quit) (g.E.Answering.effects c.args.executing.now) mid received_known c.loop-round.invariant refl received
