use Rattle.std.proofs.Common.{◌+◌, sym, subst, arith}
use Rattle.tatp_workload.proofs.DrawnLaws.{StopsAreListed, no_stops, one_stop}
use Rattle.tatp_workload.proofs.moves.draw_stops.Goals as goal

pub loop-init : goal.loop-init
loop-init g c = record {
  drawn = subst (λ stops. StopsAreListed c.args.partitions (g.R.Rng.stream c.args.words.now) 0 stops (g.R.Rng.stream c.args.words.now)) (sym c.in_ok-stops.ensures.items) (no_stops c.args.partitions (g.R.Rng.stream c.args.words.now));
  count = c.in_ok-stops.ensures.len;
  room = c.in_ok-stops.ensures.capacity;
}

pub loop-preserved : goal.loop-preserved
loop-preserved g c = record {
  drawn = subst (λ stops. StopsAreListed c.args.partitions (g.R.Rng.stream c.args.words.now) (c.loop.counter + 1) stops (g.R.Rng.stream c.choose.new.words)) (sym c.push_reserved.ensures.items)
      (one_stop c.args.partitions (g.R.Rng.stream c.args.words.now) c.loop.counter c.loop.stops.items (g.R.Rng.stream c.loop.words)
      c.choose.result (g.R.Rng.stream c.choose.new.words) c.loop.invariant.drawn c.choose.ensures.drawn);
  count = omega arith;
  room = omega arith;
}
