use Rattle.std.proofs.Common.{◌≡◌, ◌≤◌, vec_len, vec_capacity}
use Rattle.tatp_driver.specs.DrawnWords.{words_of}
use Rattle.tatp_workload.proofs.DrawnLaws.{CallsAreListed}
use Rattle.tatp_workload.proofs.calls.draw_list.Given as goal

abbrev pub invariant-loop : goal.invariant-loop
invariant-loop l = record {
  drawn : CallsAreListed l.fn.driver.distribution l.fn.driver.subscribers (words_of l.fn.driver.generator) l.counter l.list.items (words_of l.driver.generator);
  distribution : l.driver.distribution ≡ l.fn.driver.distribution;
  subscribers : l.driver.subscribers ≡ l.fn.driver.subscribers;
  count : vec_len l.list ≡ l.counter;
  room : l.count ≤ vec_capacity l.list;
}
