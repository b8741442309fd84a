use Rattle.std.proofs.Common.{sym, ◌∙◌}
use Rattle.tatp_loader.proofs.RuleLaws.{module_fault, lawful_of_none, none_of_lawful}
use Rattle.tatp_loader.proofs.rules.check.Goals as goal

pub new-requires : goal.new-requires
new-requires c = lawful_of_none _ (module_fault _ _ _ _ c.version.ensures c.procs.ensures.value c.first_fault.ensures ∙ c.in-None.is)

pub returns-in-Some-clause-lawful : goal.returns-in-Some-clause-lawful
returns-in-Some-clause-lawful c =
    (λ e. cc, λ lawful. let both = sym (none_of_lawful _ lawful) ∙ module_fault _ _ _ _ c.version.ensures c.procs.ensures.value c.first_fault.ensures ∙ c.in-Some.is in cc)
