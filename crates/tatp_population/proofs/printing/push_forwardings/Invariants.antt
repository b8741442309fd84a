use Rattle.std.specs.String.{string_bytes}
use Rattle.rand_core.specs.Stream.{next_u64}
use Rattle.tatp_population.specs.DrawnOrder.{forwarding_in_order}
use Rattle.tatp_population.specs.DrawnRows.{forwarding, start_times}
use Rattle.tatp_population.proofs.PrintingLaws.{ArePrinted}
use Rattle.tatp_population.proofs.printing.push_forwardings.Given as goal

abbrev pub invariant-loop : goal.invariant-loop
invariant-loop g l = ArePrinted next_u64 (forwarding next_u64 l.s_id l.kind) (forwarding_in_order next_u64 l.s_id l.kind) (string_bytes l.initial.text) start_times (g.R.Rng.stream l.initial.words) l.counter (string_bytes l.text) l.left.items (g.R.Rng.stream l.words)
