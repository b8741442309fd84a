use Rattle.std.proofs.Common.{◌≡◌, ◌++◌, ◌∷◌, [], ◌+◌, take, sym, ap, ◌∙◌, subst}
use Rattle.std.specs.Prelude.{All}
use Rattle.std.proofs.lemmas.Grind.{take_at_read}
use Rattle.std.proofs.lemmas.List.{take_all}
use Rattle.std.proofs.lemmas.List.Elements.{All-push}
use Rattle.tatp_encoding.specs.Spelling.{IsInstr}
use Rattle.tatp_loader.proofs.theorems.are_instrs.Goals as goal

pub loop-instr-preserved : goal.loop-instr-preserved
loop-instr-preserved c =
    let code = c.args.code.now in
    let front = take c.loop-instr.instr-index code in
    let more : take (c.loop-instr.instr-index + 1) code ≡ front ++ c.instr-item.result ∷ [] =
    (take_at_read code c.loop-instr.instr-index c.instr-item.result c.loop-instr-test.true).1 ∙ ap (λ x. front ++ x ∷ []) (sym c.instr-item.is) in
    rw more (All-push IsInstr front c.instr-item.result c.loop-instr.invariant c.encode.ensures.within)

pub returns : goal.returns
returns c = subst (All IsInstr) (take_all c.loop-instr.instr-index c.args.code.now c.loop-instr-test.false) c.loop-instr.invariant
