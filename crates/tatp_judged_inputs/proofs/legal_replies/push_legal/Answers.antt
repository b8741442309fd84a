use Rattle.std.specs.String.{string_bytes}
use Rattle.std.proofs.Common.{◌++◌, ◌≤◌, ◌∙◌, ap, length, arith}
use Rattle.std.proofs.lemmas.Result.{on_ok_weaker}
use Rattle.tatp_calls.specs.declared.ask.Ask.TheVariants.{Txn}
use Rattle.tatp_judged_inputs.specs.Judging.{could_lines}
use Rattle.tatp_judged_inputs.proofs.TellingLaws.{few_told}
use Rattle.tatp_judged_inputs.proofs.legal_replies.push_legal.Goals as goal

pub returns-then-count-le-MOST_TOLD : goal.returns-then-count-le-MOST_TOLD
returns-then-count-le-MOST_TOLD c =
    let legal = c.args.legal.now in
    let few : length legal.replies.items ≤ 8 = omega (arith, c.if-count-le-MOST_TOLD.true, legal.replies.ok.0) in
    on_ok_weaker c.push_each.result
    (λ is. is ∙ ap (λ text. string_bytes c.args.text.now ++ text) (ap (could_lines (Txn legal.call)) c.as_slice.ensures.value ∙ few_told legal few))
    c.push_each.ensures
