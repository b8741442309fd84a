use Rattle.std.specs.String.{string_bytes}
use Rattle.std.proofs.Common.{◌++◌, ◌∙◌, ap, append_assoc, codes}
use Rattle.std.proofs.lemmas.Result.{on_ok_weaker}
use Rattle.tatp_judged_inputs.specs.Judging.{number_line}
use Rattle.tatp_judged_inputs.proofs.command.push_with_subscriber.Goals as goal

pub returns : goal.returns
returns c =
    let named = number_line (codes "SUBSCRIBER ") c.args.s_id in
    on_ok_weaker c.push_number_line-2.result
    (λ is. is ∙ (ap (λ text. text ++ named) c.in_ok-push_number_line.ensures ∙ append_assoc (string_bytes c.args.text.now) (number_line c.args.word.now c.args.number) named))
    c.push_number_line-2.ensures
