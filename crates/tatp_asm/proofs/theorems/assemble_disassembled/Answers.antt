use Rattle.std.proofs.Common.{List, ℕ, sym, subst}
use Rattle.tatp_asm.specs.Texts.{IsTextOf}
use Rattle.tatp_asm.proofs.theorems.assemble_disassembled.Goals as goal

pub returns : goal.returns
returns c = c.assemble.ensures.only c.args.m.now c.procs.ensures.module (subst (λ (t : List ℕ). IsTextOf t c.args.m.now) (sym c.as_str.ensures.value) c.in_ok-text.ensures.found)
