use Rattle.std.proofs.Common.{◌≡◌}
use Rattle.tatp_homes.specs.Home.{home_in}
use Rattle.tatp_homes.specs.Loading.{read_until}
use Rattle.tatp_homes.proofs.home.Home.read.Given as goal

abbrev pub invariant-loop-i : goal.invariant-loop-i
invariant-loop-i l = l.self ≡ home_in (read_until l.table l.rows l.i) l.fn.self.s_id
