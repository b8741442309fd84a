use Rattle.std.proofs.Common.{◌≡◌, map, ap, ◌∙◌, arith}
use Rattle.tatp_calls.specs.declared.ask.Ask.TheVariants.{Txn}
use Rattle.tatp_driver.specs.DrawnCalls.{next_calls}
use Rattle.tatp_driver.specs.DrawnWords.{words_of, DriverState}
use Rattle.tatp_logs.specs.Lists.{lists_of}
use Rattle.tatp_workload.specs.Drawn.{client_calls}
use Rattle.tatp_workload.proofs.DrawnLaws.{one_list}
use Rattle.tatp_workload.proofs.calls.draw_in_turn.Goals as goal

pub loop-client-preserved : goal.loop-client-preserved
loop-client-preserved c =
    let list : c.in_ok-draw_list.field-0.items ≡ client_calls c.args.plan.now c.loop-client.client =
    c.in_ok-draw_list.ensures ∙ ap (λ (d : DriverState). map Txn (next_calls d.distribution d.subscribers c.args.plan.now.calls (words_of d.generator)).0) c.new-driver.ensures in
    record {
      drawn = ap lists_of c.push_reserved.ensures.items ∙ one_list (client_calls c.args.plan.now) c.args.from c.loop-client.client c.loop-client.lists.items c.in_ok-draw_list.field-0 c.loop-client.invariant.low c.loop-client.invariant.drawn list;
      low = omega arith;
      count = omega arith;
      room = omega arith;
    }
