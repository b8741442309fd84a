use Rattle.std.proofs.Common.{None, refl}
use Rattle.tatp_machine.proofs.machine.Machine.find_nothing.Goals as goal

pub returns-clause-machine : goal.returns-clause-machine
returns-clause-machine c = c.found.ensures.machine None refl
