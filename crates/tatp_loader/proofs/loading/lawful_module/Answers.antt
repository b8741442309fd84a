use Rattle.std.proofs.Common.{[], sym, ap, subst, ◌∙◌}
use Rattle.tatp_encoding.specs.Modules.{ModuleState}
use Rattle.tatp_loader.specs.Rules.{first_fault_after}
use Rattle.tatp_loader.specs.Lawful.{IsLawful}
use Rattle.tatp_loader.proofs.RuleLaws.{lawful_of_none}
use Rattle.tatp_loader.proofs.ModuleLaws.{module_of_lawful}
use Rattle.tatp_loader.proofs.loading.lawful_module.Goals as goal

pub new-requires : goal.new-requires
new-requires c =
    let modul : ModuleState = record { version = c.in_ok-version.version; procedures = c.in_ok-version.procs.items } in
    let lawful = lawful_of_none modul (ap (first_fault_after modul.version []) (sym c.deref.ensures.value) ∙ sym c.first_fault.ensures ∙ c.in-None.is) in
    module_of_lawful modul c.in_ok-version.ensures.count.0 c.in_ok-version.ensures.count.1 c.in_ok-version.ensures.fit c.in_ok-version.ensures.version lawful

pub new-requires-in-None : goal.new-requires-in-None
new-requires-in-None c =
    let modul : ModuleState = record { version = c.in_ok-version.version; procedures = c.in_ok-version.procs.items } in
    subst IsLawful (sym c.new.ensures) (lawful_of_none modul (ap (first_fault_after modul.version []) (sym c.deref.ensures.value) ∙ sym c.first_fault.ensures ∙ c.in-None.is))
