use Rattle.std.proofs.Common.{◌≡◌, ◌++◌, ◌∷◌, [], ◌+◌, take, sym, ap, ◌∙◌}
use Rattle.std.proofs.lemmas.Grind.{take_at_read}
use Rattle.tatp_loader.proofs.SavingLaws.{no_code, code_pushed}
use Rattle.tatp_loader.proofs.saving.push_code.Goals as goal

pub loop-instr-init : goal.loop-instr-init
loop-instr-init c = no_code c.args.bytes.now.items

pub loop-instr-preserved : goal.loop-instr-preserved
loop-instr-preserved c =
    let front = take c.loop-instr.instr-index c.args.code.now in
    let more : take (c.loop-instr.instr-index + 1) c.args.code.now ≡ front ++ c.instr-item.result ∷ [] =
    (take_at_read c.args.code.now c.loop-instr.instr-index c.instr-item.result c.loop-instr-test.true).1 ∙ ap (λ x. front ++ x ∷ []) (sym c.instr-item.is) in
    rw more (code_pushed c.args.bytes.now.items c.loop-instr.bytes.items c.extend_from_slice.new.self.items front c.instr-item.result c.loop-instr.invariant
    (c.in_ok-extend_from_slice.ensures.items ∙ ap (λ x. c.loop-instr.bytes.items ++ x) c.encode.ensures.value))
