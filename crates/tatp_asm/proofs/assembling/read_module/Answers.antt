use Rattle.tatp_asm.proofs.ModuleLaws.{module_of_text}
use Rattle.tatp_asm.proofs.assembling.read_module.Goals as goal

pub new-requires : goal.new-requires
new-requires c = module_of_text c.args.text.now _ c.in_ok-version.ensures.gives
