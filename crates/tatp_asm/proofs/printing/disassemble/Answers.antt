use Rattle.std.specs.String.{string_bytes}
use Rattle.tatp_asm.proofs.Whole.{printed_found, printed_only}
use Rattle.tatp_asm.proofs.printing.disassemble.Goals as goal

pub returns-clause-found : goal.returns-clause-found
returns-clause-found c = printed_found (λ text. string_bytes text) c.module_text.result c.args.m.now c.module_text.ensures.module c.module_text.ensures.instrs c.module_text.ensures.text

pub returns-clause-only : goal.returns-clause-only
returns-clause-only c = printed_only (λ text. string_bytes text) c.module_text.result c.args.m.now c.module_text.ensures.module
    (printed_found (λ text. string_bytes text) c.module_text.result c.args.m.now c.module_text.ensures.module c.module_text.ensures.instrs c.module_text.ensures.text)
