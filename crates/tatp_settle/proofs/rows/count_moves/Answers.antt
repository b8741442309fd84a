use Rattle.std.proofs.Common.{arith}
use Rattle.tatp_settle.specs.Closings.{moves_numbered}
use Rattle.tatp_settle.proofs.NumberLaws.{moves_more}
use Rattle.tatp_settle.proofs.rows.count_moves.Goals as goal

pub extents-preserved : goal.extents-preserved
extents-preserved c =
    let more = moves_more (moves_numbered c.args.run.now.closed.now) c.extents.before in
    record { moves = omega (arith, more, c.moves_of-moves.ensures.value); few = omega (arith, c.moves_of-moves.ensures.most) }
