use Rattle.std.proofs.Common.{◌≡◌, ◌++◌, ◌∷◌, [], ◌+◌, take, sym, ap, ◌∙◌, List, ℕ, append_assoc, arith}
use Rattle.std.proofs.lemmas.Grind.{take_at_read}
use Rattle.std.proofs.lemmas.List.{append-nil}
use Rattle.tatp_asm.specs.Printing.{module_lines, procedure_lines, lines_text, version_text}
use Rattle.tatp_asm.proofs.PushLaws.{module_text-push}
use Rattle.std.specs.Prelude.{All}
use Rattle.std.proofs.lemmas.List.Elements.{All-push}
use Rattle.tatp_encoding.specs.Spelling.{IsInstr}
use Rattle.tatp_asm.proofs.printing.module_text.Goals as goal

pub loop-procedure-init : goal.loop-procedure-init
loop-procedure-init c = record {
  lines = c.in_ok-push_version.ensures ∙ rw (c.new-out.ensures.bytes, c.version.ensures) (sym (append-nil (version_text c.args.m.now.version)));
  instrs = λ k d l. absurd (omega (arith, l));
}

pub loop-procedure-preserved : goal.loop-procedure-preserved
loop-procedure-preserved c =
    let procs = c.procs-procs.result.now in
    let n = c.loop-procedure.procedure-index in
    let p = c.procedure-item.result in
    let version = version_text c.args.m.now.version in
    let before = lines_text (module_lines (take n procs)) in
    let more : take (n + 1) procs ≡ take n procs ++ p ∷ [] =
    (take_at_read procs n p c.loop-procedure-test.true).1 ∙ ap (λ x. take n procs ++ x ∷ []) (sym c.procedure-item.is) in
    rw more (record {
      lines = c.in_ok-push_procedure.ensures.lines ∙ (ap (λ (t : List ℕ). t ++ lines_text (procedure_lines p)) c.loop-procedure.invariant.lines ∙ (append_assoc version before (lines_text (procedure_lines p)) ∙ ap (λ (t : List ℕ). version ++ t) (sym (module_text-push (take n procs) p))));
      instrs = All-push (λ p. All IsInstr p.code) (take n procs) p c.loop-procedure.invariant.instrs c.in_ok-push_procedure.ensures.instrs;
    })
