use Rattle.std.proofs.Common.{[], ◌∷◌, ◌++◌, ◌∙◌, ap, refl}
use Rattle.tatp_judged_inputs.specs.declared.line_numbers.Run.{Run}
use Rattle.tatp_judged_inputs.specs.LineNumbers.{numbers_in}
use Rattle.tatp_judged_inputs.proofs.NumbersLaws.{pushed}
use Rattle.tatp_judged_inputs.proofs.line_numbers.add.Goals as goal

pub returns-clause-added : goal.returns-clause-added
returns-clause-added c =
    let run : Run = record { first = c.args.number; count = 1 } in
    ap numbers_in (c.in_ok-push.ensures.items ∙ ap (λ rs. rs ++ run ∷ []) (c.continue_last.ensures.same c.if-continue_last.false)) ∙ pushed c.args.runs.now.items run c.args.number refl refl
