use Rattle.std.proofs.Common.{◌≡◌, map}
use Rattle.std.specs.List.{range_with_len}
use Rattle.tatp_tables.specs.Database.{no_tables}
use Rattle.tatp_homes.proofs.home.loading.empty_homes.Given as goal

abbrev pub invariant-loop-place : goal.invariant-loop-place
invariant-loop-place l = l.homes.items ≡ map (λ s. record { s_id = s; tables = no_tables }) (range_with_len l.first l.place)
