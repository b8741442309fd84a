use Rattle.std.proofs.Common.{◌≡◌, take}
use Rattle.tatp_audits.specs.Audits.{numbers}
use Rattle.tatp_audits.proofs.keys.sorted_numbers.Given as goal

abbrev pub invariant-loop-row : goal.invariant-loop-row
invariant-loop-row g l = l.keys.items ≡ numbers (take l.row-index l.rows)
