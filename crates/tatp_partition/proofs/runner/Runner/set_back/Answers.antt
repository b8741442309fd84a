use Rattle.std.proofs.Common.{Some, slice_set, ◌∙◌}
use Rattle.tatp_partition.proofs.RunnerLaws.{given_back}
use Rattle.tatp_partition.proofs.runner.Runner.set_back.Goals as goal

pub returns-in-Some : goal.returns-in-Some
returns-in-Some c =
    let a = c.self.inside in
    rw (← c.self.view_is) (c.lower.ensures ∙ (λ j. slice_set c.args.slots.now (c.number.ensures j) (Some (c.set_free.ensures.value j)))
    ∙ given_back a.item a.machine a.pinned c.in-Some.pinned c.home_mut.result.now c.set_back.new.home c.args.slots.now c.in-Some.is c.self.invariant
    (rw (← c.self.view_is) at c.requires.ready) c.home_mut.ensures.value c.set_back.ensures.tables c.set_back.ensures.same)
