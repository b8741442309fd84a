use Rattle.std.proofs.Common.{[]}
use Rattle.tatp_linearization.specs.AtOnce.{TakesOne}
use Rattle.tatp_linearization.specs.Covering.{From, MayCome}
use Rattle.tatp_linearization.proofs.GatheringLaws.{Gathering}
use Rattle.tatp_linearization.proofs.to_rows.after_one.Given as goal

abbrev pub invariant-configurations : goal.invariant-configurations
invariant-configurations l = Gathering (From MayCome) (From TakesOne) l.set [] l.i l.after.items
