use Rattle.std.proofs.Common.{◌-◌, ◌∙◌, arith}
use Rattle.tatp_machine.proofs.UndoLaws.{AreUndoable-at, last_undone}
use Rattle.tatp_machine.proofs.change.undo.Goals as goal

pub undo_one-requires : goal.undo_one-requires
undo_one-requires c = AreUndoable-at c.args.changes.now (c.loop-left.left - 1) _ c.requires (omega arith)

pub loop-left-preserved : goal.loop-left-preserved
loop-left-preserved c = record {
  within = omega arith;
  left = last_undone c.loop-left.home.s_id c.args.home.now.s_id c.args.changes.now (c.loop-left.left - 1) c.loop-left.left _ c.loop-left.home.tables _ c.loop-left.invariant.same (omega arith) (omega arith) c.undo_one.ensures.tables
      ∙ c.loop-left.invariant.left;
  same = c.undo_one.ensures.same ∙ c.loop-left.invariant.same;
}
