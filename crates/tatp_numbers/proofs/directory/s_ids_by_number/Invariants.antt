use Rattle.std.proofs.Common.{◌≡◌, ℕ, take, nat_eq}
use Rattle.indexmap.specs.IndexMap.{get}
use Rattle.tatp_numbers.specs.Lists.{s_id_at, NumbersStandOnce}
use Rattle.tatp_numbers.proofs.directory.s_ids_by_number.Given as goal

abbrev pub invariant-loop-row : goal.invariant-loop-row
invariant-loop-row l = record { found : (n : ℕ) → get nat_eq l.s_ids n ≡ s_id_at (take l.row-index l.rows) n; differ : NumbersStandOnce (take l.row-index l.rows) }
