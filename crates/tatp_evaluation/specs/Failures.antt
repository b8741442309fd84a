-- With which number a call fails whose insert was refused: 3 without its facility, else 2.
use Rattle.std.specs.Prelude.{ℕ}
use Rattle.tatp_homes.specs.declared.refusal.Refusal.{Refusal}
use Rattle.tatp_homes.specs.declared.refusal.Refusal.TheVariants.{NoCurrent, Domain, KeyExists, NoParent}

abbrev pub insert_failure : Refusal → ℕ
insert_failure NoParent = 3
insert_failure NoCurrent = 2
insert_failure Domain = 2
insert_failure KeyExists = 2
