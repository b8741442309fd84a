use Rattle.std.proofs.Common.{◌≡◌, map, take}
use Rattle.tatp_audits.proofs.keys.keys_of.Given as goal

abbrev pub invariant-loop-row : goal.invariant-loop-row
invariant-loop-row g l = l.keys.items ≡ map (take g.row.N) (take l.row-index l.rows)
