use Rattle.tatp_asm.proofs.Whole.{found, only}
use Rattle.tatp_asm.proofs.assembling.assemble_bytes.Goals as goal

pub returns-clause-found : goal.returns-clause-found
returns-clause-found c = found (λ m. m) c.args.text.now c.read_module.result c.read_module.ensures.gives

pub returns-clause-only : goal.returns-clause-only
returns-clause-only c = only (λ m. m) c.args.text.now c.read_module.result c.read_module.ensures.gives
