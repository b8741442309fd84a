use Rattle.std.proofs.Common.{List, ap, ◌∙◌}
use Rattle.tatp_instr.specs.declared.version.Version.TheVariants.{Two}
use Rattle.tatp_encoding.specs.Modules.{Procedure, ModuleState}
use Rattle.tatp_procs.proofs.CodeLaws.{check_accepts, accepted_is}
use Rattle.tatp_procs.proofs.TransactionLaws.{standard_performs_as}
use Rattle.tatp_procs.proofs.procedures.standard.Goals as goal

abbrev of_procedures : List Procedure → ModuleState
of_procedures procedures = record { version = Two; procedures = procedures }

pub unwrap-requires : goal.unwrap-requires
unwrap-requires c = check_accepts c.new.result c.check.result (c.new.ensures ∙ ap of_procedures c.in_ok-procs.ensures) c.check.ensures.fault

pub returns-clause-transactions : goal.returns-clause-transactions
returns-clause-transactions c =
    standard_performs_as c.unwrap.result (accepted_is c.new.result c.unwrap.result c.check.result c.check.ensures.value c.unwrap.ensures ∙ c.new.ensures ∙ ap of_procedures c.in_ok-procs.ensures)
