use Rattle.std.proofs.Common.{◌+◌, sym, subst, arith}
use Rattle.tatp_workload.proofs.DrawnLaws.{MovesAreListed, no_moves, one_move}
use Rattle.tatp_workload.proofs.moves.draw_moves.Goals as goal

pub loop-init : goal.loop-init
loop-init g c = record {
  drawn = subst (λ moves. MovesAreListed c.args.extents c.args.partitions (g.R.Rng.stream c.args.words.now) 0 moves (g.R.Rng.stream c.args.words.now)) (sym c.in_ok-moves.ensures.items) (no_moves c.args.extents c.args.partitions (g.R.Rng.stream c.args.words.now));
  count = c.in_ok-moves.ensures.len;
  room = c.in_ok-moves.ensures.capacity;
}

pub loop-preserved : goal.loop-preserved
loop-preserved g c = record {
  drawn = subst (λ moves. MovesAreListed c.args.extents c.args.partitions (g.R.Rng.stream c.args.words.now) (c.loop.counter + 1) moves (g.R.Rng.stream c.choose-partition.new.words)) (sym c.push_reserved.ensures.items)
      (one_move c.args.extents c.args.partitions (g.R.Rng.stream c.args.words.now) c.loop.counter c.loop.moves.items (g.R.Rng.stream c.loop.words)
      c.choose-extent.result c.choose-partition.result (g.R.Rng.stream c.choose-extent.new.words) (g.R.Rng.stream c.choose-partition.new.words)
      c.loop.invariant.drawn c.choose-extent.ensures.drawn c.choose-partition.ensures.drawn);
  count = omega arith;
  room = omega arith;
}
