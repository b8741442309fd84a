use Rattle.std.proofs.Common.{◌≤◌, arith, subst, sym}
use Rattle.std.specs.String.{string_bytes}
use Rattle.rand_core.specs.Stream.{next_u64}
use Rattle.tatp_population.specs.DrawnOrder.{forwarding_in_order}
use Rattle.tatp_population.specs.DrawnRows.{forwarding, start_times}
use Rattle.tatp_population.proofs.PartLaws.{are_early}
use Rattle.tatp_population.proofs.PrintingLaws.{ArePrinted, none_printed, one_printed, printed_value}
use Rattle.tatp_population.proofs.printing.push_forwardings.Goals as goal

pub loop-init : goal.loop-init
loop-init g c =
    let w = g.R.Rng.stream c.choose-count.new.words in
    let before = string_bytes c.args.text.now in
    subst (λ left. ArePrinted next_u64 (forwarding next_u64 c.args.s_id c.args.kind) (forwarding_in_order next_u64 c.args.s_id c.args.kind) before start_times w 0 before left w) (sym c.from-left.ensures.0)
    (none_printed next_u64 (forwarding next_u64 c.args.s_id c.args.kind) (forwarding_in_order next_u64 c.args.s_id c.args.kind) before start_times w)

pub loop-preserved : goal.loop-preserved
loop-preserved g c =
    one_printed next_u64 (forwarding next_u64 c.args.s_id c.args.kind) (forwarding_in_order next_u64 c.args.s_id c.args.kind) (string_bytes c.args.text.now) start_times (g.R.Rng.stream c.choose-count.new.words)
    c.loop.counter (string_bytes c.loop.text) c.loop.left.items (g.R.Rng.stream c.loop.words)
    c.take_one-start_time.result c.take_one-start_time.new.left.items (g.R.Rng.stream c.take_one-start_time.new.words) (string_bytes c.push_forwarding.new.text) (g.R.Rng.stream c.push_forwarding.new.words)
    c.loop.invariant (omega arith) c.take_one-start_time.ensures c.in_ok-push_forwarding.ensures.rows c.in_ok-push_forwarding.ensures.words

pub push_forwarding-requires : goal.push_forwarding-requires
push_forwarding-requires g c = printed_value next_u64 (forwarding next_u64 c.args.s_id c.args.kind) (forwarding_in_order next_u64 c.args.s_id c.args.kind) (λ t. t ≤ 16) (string_bytes c.args.text.now) start_times (g.R.Rng.stream c.choose-count.new.words)
    c.loop.counter (string_bytes c.loop.text) c.loop.left.items (g.R.Rng.stream c.loop.words)
    c.take_one-start_time.result c.take_one-start_time.new.left.items (g.R.Rng.stream c.take_one-start_time.new.words)
    c.loop.invariant (omega arith) are_early c.take_one-start_time.ensures
