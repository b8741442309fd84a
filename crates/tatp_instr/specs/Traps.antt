-- The names of the traps.
use Rattle.std.specs.Prelude.{ℕ, List, codes}
use Rattle.tatp_instr.specs.declared.ending.Trap.{Trap}
use Rattle.tatp_instr.specs.declared.ending.Trap.TheVariants.{NoCurrent, Domain, Budget, Output, Writes}

abbrev pub trap_name : Trap → List ℕ
trap_name NoCurrent = codes "NoCurrent"
trap_name Domain = codes "Domain"
trap_name Budget = codes "Budget"
trap_name Output = codes "Output"
trap_name Writes = codes "Writes"
