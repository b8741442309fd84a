use Rattle.std.proofs.Common.{suc, refl, ◌∙◌}
use Rattle.tatp_partition.proofs.runner.finish_alone.Goals as goal

pub steps-preserved : goal.steps-preserved
steps-preserved c =
    let e = c.in-Running.ensures in
    let gone = c.steps.invariant.gone in
    let on = e.running refl in
    record {
      gone = (suc gone.0, (c.steps.machine, gone.1, record { step = e.step; running = e.running; ended = e.ended }));
      going = on.0;
      home = on.1.home ∙ c.steps.invariant.home;
    }
