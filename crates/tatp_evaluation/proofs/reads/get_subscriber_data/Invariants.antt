use Rattle.std.proofs.Common.{[], ◌∷◌}
use Rattle.tatp_homes.proofs.StoredLaws.{AreFirst}
use Rattle.tatp_evaluation.proofs.ReadLaws.{column_of}
use Rattle.tatp_evaluation.proofs.reads.get_subscriber_data.Given as goal

abbrev pub invariant-loop-place : goal.invariant-loop-place
invariant-loop-place l = AreFirst 0 34 l.place (column_of l.home.tables (l.s_id ∷ 0 ∷ 0 ∷ [])) l.row
