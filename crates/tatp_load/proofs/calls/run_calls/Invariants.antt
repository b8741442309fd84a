use Rattle.std.proofs.Common.{◌≡◌}
use Rattle.std.specs.String.{string_bytes}
use Rattle.tatp_driver.specs.DrawnWords.{words_of, client_generator}
use Rattle.tatp_load.proofs.CallLaws.{CallsAreWritten}
use Rattle.tatp_load.proofs.calls.run_calls.Given as goal

abbrev pub invariant-loop : goal.invariant-loop
invariant-loop g l = record {
  written : CallsAreWritten l.plan.distribution l.plan.subscribers (words_of (client_generator l.plan.seed l.plan.client)) l.counter (g.W.Write.contents l.fn.writer) (g.W.Write.contents l.writer) (string_bytes l.pending) (words_of l.driver.generator);
  distribution : l.driver.distribution ≡ l.plan.distribution;
  subscribers : l.driver.subscribers ≡ l.plan.subscribers;
}
