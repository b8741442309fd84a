use Rattle.std.proofs.Common.{◌≡◌, ◌++◌, ◌∷◌, [], ◌+◌, take, false, sym, ap, ◌∙◌, subst, arith}
use Rattle.std.specs.Prelude.{All}
use Rattle.std.proofs.lemmas.List.{get_or-replicate, take_all}
use Rattle.std.proofs.lemmas.List.Elements.{All-push}
use Rattle.std.proofs.lemmas.Grind.{take_at_read}
use Rattle.tatp_encoding.specs.Spelling.{IsInstr}
use Rattle.tatp_asm.proofs.PushLaws.{one_more_named}
use Rattle.tatp_asm.proofs.printing.named_positions.Goals as goal

pub loop-instr-init : goal.loop-instr-init
loop-instr-init c = record {
  named = λ k h. get_or-replicate 257 k false false (omega (arith, h));
  instrs = λ k d l. absurd (omega (arith, l));
}

pub loop-instr-preserved : goal.loop-instr-preserved
loop-instr-preserved c =
    let code = c.args.code.now in
    let n = c.loop-instr.instr-index in
    let more : take (n + 1) code ≡ take n code ++ c.instr-item.result ∷ [] =
    (take_at_read code n c.instr-item.result c.loop-instr-test.true).1 ∙ ap (λ x. take n code ++ x ∷ []) (sym c.instr-item.is) in
    record {
      named = one_more_named code n c.instr-item.result c.loop-instr.named c.mark.new.named more c.loop-instr.invariant.named (rw c.target_of.ensures.value at c.mark.ensures);
      instrs = rw more (All-push IsInstr (take n code) c.instr-item.result c.loop-instr.invariant.instrs c.target_of.ensures.within);
    }

pub returns-clause-instrs : goal.returns-clause-instrs
returns-clause-instrs c = subst (All IsInstr) (take_all c.loop-instr.instr-index c.args.code.now c.loop-instr-test.false) c.loop-instr.invariant.instrs
