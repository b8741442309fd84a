use Rattle.tatp_machine.proofs.OneLaws.{alone_to_table, alone_from_table}
use Rattle.tatp_machine.proofs.theorems.version_1_calls_are_by_the_table.Goals as goal

pub returns : goal.returns
returns c = λ modul procedure arguments home u o one. (alone_to_table modul procedure arguments home u o one, alone_from_table modul procedure arguments home u o one)
