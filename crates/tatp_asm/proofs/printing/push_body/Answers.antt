use Rattle.std.proofs.Common.{◌++◌, [], Bool, ap, ◌∙◌, arith}
use Rattle.std.specs.String.{string_bytes}
use Rattle.tatp_asm.specs.Printing.{with_label, lines_text, body_lines}
use Rattle.tatp_asm.proofs.PushLaws.{body_goes_on, drop_read}
use Rattle.tatp_asm.proofs.printing.push_body.Goals as goal

pub loop-position-preserved : goal.loop-position-preserved
loop-position-preserved c =
    let code = c.args.code.now in
    let k = c.loop-position.position in
    let i = c.index-code-position.result in
    let named = c.in_ok-push_label.ensures ∙ ap (λ (b : Bool). string_bytes c.loop-position.out ++ lines_text (with_label b k [])) (c.named_positions-named.ensures.named k (omega (arith, c.requires, c.loop-position-test.true))) in
    body_goes_on code code k i (string_bytes c.loop-position.out) (string_bytes c.push_label.new.out) (string_bytes c.push_instruction.new.out)
    (string_bytes c.args.out.now ++ lines_text (body_lines code 0 code)) (drop_read code k i c.loop-position-test.true c.index-code-position.is) named c.in_ok-push_instruction.ensures c.loop-position.invariant
