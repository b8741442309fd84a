use Rattle.std.proofs.Common.{◌++◌, ◌∷◌, [], List, ℕ, ap, ◌∙◌}
use Rattle.std.specs.String.{string_bytes}
use Rattle.tatp_asm.proofs.PushLaws.{instruction_pushed}
use Rattle.tatp_asm.proofs.printing.push_instruction.Goals as goal

pub returns : goal.returns
returns c =
    c.in_ok-push_str-2.ensures.bytes ∙ (ap (λ (x : List ℕ). x ++ (10 ∷ [])) c.in_ok-push_str.ensures.bytes
    ∙ instruction_pushed (string_bytes c.args.out.now) c.as_str.result.now c.args.instr.now (c.as_str.ensures.value ∙ c.text.ensures.value))
