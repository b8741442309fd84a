use Rattle.std.proofs.Common.{◌≡◌, ◌++◌, ◌∷◌, [], ◌+◌, take, sym, ap, ◌∙◌, subst}
use Rattle.std.specs.Prelude.{All}
use Rattle.std.proofs.lemmas.Grind.{take_at_read}
use Rattle.std.proofs.lemmas.List.{take_all}
use Rattle.std.proofs.lemmas.List.Elements.{All-push}
use Rattle.tatp_encoding.specs.Spelling.{IsInstr}
use Rattle.tatp_loader.specs.ModuleBytes.{HasInstrs}
use Rattle.tatp_loader.proofs.theorems.have_instrs.Goals as goal

pub loop-procedure-preserved : goal.loop-procedure-preserved
loop-procedure-preserved c =
    let procs = c.args.procs.now in
    let front = take c.loop-procedure.procedure-index procs in
    let more : take (c.loop-procedure.procedure-index + 1) procs ≡ front ++ c.procedure-item.result ∷ [] =
    (take_at_read procs c.loop-procedure.procedure-index c.procedure-item.result c.loop-procedure-test.true).1 ∙ ap (λ x. front ++ x ∷ []) (sym c.procedure-item.is) in
    rw more (All-push HasInstrs front c.procedure-item.result c.loop-procedure.invariant (subst (All IsInstr) c.code.ensures.value c.are_instrs.ensures))

pub returns : goal.returns
returns c = subst (All HasInstrs) (take_all c.loop-procedure.procedure-index c.args.procs.now c.loop-procedure-test.false) c.loop-procedure.invariant
