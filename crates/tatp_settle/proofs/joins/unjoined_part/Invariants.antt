use Rattle.std.proofs.Common.{option_copied}
use Rattle.tatp_settle.proofs.UnjoinedLaws.{AreJoinedTo}
use Rattle.tatp_settle.proofs.joins.unjoined_part.Given as goal

abbrev pub invariant-parts : goal.invariant-parts
invariant-parts l = AreJoinedTo l.chapters l.number l.index (option_copied l.fn.first) (option_copied l.due) l.last
