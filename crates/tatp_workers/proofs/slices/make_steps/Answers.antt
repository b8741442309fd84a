use Rattle.std.proofs.Common.{◌≡◌, Option, None, Ok, sym, ◌∙◌, subst, arith}
use Rattle.std.specs.Result.{result_and}
use Rattle.tatp_partition.specs.declared.item.Completion.{Completion}
use Rattle.tatp_partition.specs.Obstacles.{step_obstacle}
use Rattle.tatp_partition.specs.Running.{AdvancesUnless, stepped_of}
use Rattle.tatp_workers.proofs.SliceLaws.{none_there, one_more, last_made}
use Rattle.tatp_workers.proofs.slices.make_steps.Goals as goal

pub returns-then-is_some : goal.returns-then-is_some
returns-then-is_some g c =
    last_made c.loop-made._made c.args.site.now c.loop-made.site c.observed_step.new.site (Ok (stepped_of c.observed_step.new.buffer))
    (g.O.Observer.observed c.args.observer.now) (g.O.Observer.observed c.loop-made.observer) (g.O.Observer.observed c.observed_step.new.observer)
    (omega arith) c.loop-made.invariant.went_on c.in-Ok.ensures.step c.in-Ok.ensures.observed

pub loop-made-preserved : goal.loop-made-preserved
loop-made-preserved g c =
    let none : c.observed_step.new.buffer ≡ None = none_there c.observed_step.new.buffer (sym c.is_some.ensures ∙ c.if-is_some.false) in
    let moved = subst (λ (o : Option Completion). AdvancesUnless (step_obstacle c.loop-made.site) c.loop-made.site (Ok (stepped_of o)) c.observed_step.new.site) none c.in-Ok.ensures.step in
    record {
      went_on = one_more c.loop-made._made c.args.site.now c.loop-made.site c.observed_step.new.site
          (g.O.Observer.observed c.args.observer.now) (g.O.Observer.observed c.loop-made.observer) (g.O.Observer.observed c.observed_step.new.observer)
          c.loop-made.invariant.went_on moved c.in-Ok.ensures.observed;
      going = none;
    }

pub returns : goal.returns
returns g c =
    last_made c.loop-made._made c.args.site.now c.loop-made.site c.observed_step-2.new.site (result_and c.observed_step-2.result (Ok (stepped_of c.observed_step-2.new.buffer)))
    (g.O.Observer.observed c.args.observer.now) (g.O.Observer.observed c.loop-made.observer) (g.O.Observer.observed c.observed_step-2.new.observer)
    (omega arith) c.loop-made.invariant.went_on c.observed_step-2.ensures.step c.observed_step-2.ensures.observed
