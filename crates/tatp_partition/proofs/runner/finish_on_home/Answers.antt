use Rattle.std.proofs.Common.{suc, Some, refl, sym, ap, ◌∙◌}
use Rattle.tatp_partition.proofs.runner.finish_on_home.Goals as goal

pub steps-preserved : goal.steps-preserved
steps-preserved c =
    let e = c.in-Running.ensures in
    let gone = c.steps.invariant.gone in
    let on = e.running refl in
    record {
      gone = (suc gone.0, (c.steps.machine, c.steps.home, gone.1, record { step = e.step; running = e.running; ended = e.ended; entry = e.entry; same = e.same; home = e.home }));
      going = on.0;
      home = on.1.home ∙ (c.steps.invariant.home ∙ sym (ap Some e.same));
    }

pub returns-in-Ended : goal.returns-in-Ended
returns-in-Ended c =
    let e = c.in-Ended.ensures in
    let gone = c.steps.invariant.gone in
    record {
      steps = gone.0;
      mid = c.steps.machine;
      between = c.steps.home;
      goes_on = gone.1;
      ends = record { step = e.step; running = e.running; ended = e.ended; entry = e.entry; same = e.same; home = e.home };
    }
