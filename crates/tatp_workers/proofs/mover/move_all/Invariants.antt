use Rattle.std.proofs.Common.{◌≡◌, ◌<◌, vec_len, vec_capacity}
use Rattle.tatp_workers.specs.Carrying.{IsMade}
use Rattle.tatp_workers.proofs.GrowthLaws.{Dealt}
use Rattle.tatp_workers.proofs.mover.move_all.Given as goal

abbrev pub invariant-loop-number : goal.invariant-loop-number
invariant-loop-number g l = record {
  made : Dealt IsMade l.moves l.number (g.C.Carrying.effects l.initial.carrying) (g.C.Carrying.effects l.carrying);
  same : l.hand.items ≡ l.initial.hand.items;
  room : vec_len l.hand < vec_capacity l.hand;
}
