use Rattle.std.proofs.Common.{arith, subst, sym}
use Rattle.std.specs.String.{string_bytes}
use Rattle.rand_core.specs.Stream.{next_u64}
use Rattle.tatp_population.specs.DrawnOrder.{facility_in_order}
use Rattle.tatp_population.specs.DrawnRows.{facility, types}
use Rattle.tatp_population.proofs.PrintingLaws.{ArePrinted, none_printed, one_printed}
use Rattle.tatp_population.proofs.printing.push_facilities.Goals as goal

pub loop-init : goal.loop-init
loop-init g c =
    let w = g.R.Rng.stream c.choose-count.new.words in
    let before = string_bytes c.args.text.now in
    subst (λ left. ArePrinted next_u64 (facility next_u64 c.args.s_id) (facility_in_order next_u64 c.args.s_id) before types w 0 before left w) (sym c.from-left.ensures.0)
    (none_printed next_u64 (facility next_u64 c.args.s_id) (facility_in_order next_u64 c.args.s_id) before types w)

pub loop-preserved : goal.loop-preserved
loop-preserved g c =
    one_printed next_u64 (facility next_u64 c.args.s_id) (facility_in_order next_u64 c.args.s_id) (string_bytes c.args.text.now) types (g.R.Rng.stream c.choose-count.new.words)
    c.loop.counter (string_bytes c.loop.text) c.loop.left.items (g.R.Rng.stream c.loop.words)
    c.take_one-kind.result c.take_one-kind.new.left.items (g.R.Rng.stream c.take_one-kind.new.words) (string_bytes c.push_facility.new.text) (g.R.Rng.stream c.push_facility.new.words)
    c.loop.invariant (omega arith) c.take_one-kind.ensures c.in_ok-push_facility.ensures.rows c.in_ok-push_facility.ensures.words
