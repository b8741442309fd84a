use Rattle.std.proofs.Common.{◌≡◌, ◌+◌, refl, sym, ◌∙◌, subst, arith}
use Rattle.tatp_driver.specs.DrawnCall.{drawn_call}
use Rattle.tatp_driver.specs.DrawnWords.{words_of, next_words}
use Rattle.tatp_workload.proofs.DrawnLaws.{CallsAreListed, no_calls, one_call}
use Rattle.tatp_workload.proofs.calls.draw_list.Goals as goal

pub loop-init : goal.loop-init
loop-init c = record {
  drawn = subst (λ list. CallsAreListed c.args.driver.distribution c.args.driver.subscribers (words_of c.args.driver.generator) 0 list (words_of c.args.driver.generator)) (sym c.in_ok-list.ensures.items) (no_calls c.args.driver.distribution c.args.driver.subscribers (words_of c.args.driver.generator));
  distribution = refl;
  subscribers = refl;
  count = c.in_ok-list.ensures.len;
  room = c.in_ok-list.ensures.capacity;
}

pub loop-preserved : goal.loop-preserved
loop-preserved c =
    let so_far = c.loop.invariant in
    let call : c.next_call.result ≡ drawn_call c.args.driver.distribution c.args.driver.subscribers (next_words 7 (words_of c.loop.driver.generator)).0 =
    c.next_call.ensures.call ∙ (λ j. drawn_call (so_far.distribution j) (so_far.subscribers j) (next_words 7 (words_of c.loop.driver.generator)).0) in
    record {
      drawn = subst (λ list. CallsAreListed c.args.driver.distribution c.args.driver.subscribers (words_of c.args.driver.generator) (c.loop.counter + 1) list (words_of c.next_call.new.self.generator)) (sym c.push_reserved.ensures.items)
          (one_call c.args.driver.distribution c.args.driver.subscribers (words_of c.args.driver.generator) c.loop.counter c.loop.list.items (words_of c.loop.driver.generator)
          c.next_call.result (words_of c.next_call.new.self.generator) so_far.drawn call c.next_call.ensures.left);
      distribution = c.next_call.ensures.distribution ∙ so_far.distribution;
      subscribers = c.next_call.ensures.subscribers ∙ so_far.subscribers;
      count = omega arith;
      room = omega arith;
    }
