use Rattle.std.specs.String.{string_bytes}
use Rattle.std.proofs.Common.{◌++◌, ◌∙◌, ap, take_all}
use Rattle.tatp_judged_inputs.specs.Judging.{could_lines}
use Rattle.tatp_judged_inputs.proofs.TellingLaws.{one_reply}
use Rattle.tatp_judged_inputs.proofs.legal_replies.push_each.Goals as goal

pub replies-preserved : goal.replies-preserved
replies-preserved c =
    one_reply c.args.ask.now c.args.replies.now c.replies.i c.index-replies-i.result (string_bytes c.args.text.now) (string_bytes c.replies.text) (string_bytes c.push_could.new.text) c.replies.invariant c.replies-test.true c.index-replies-i.is c.in_ok-push_could.ensures

pub returns : goal.returns
returns c = c.replies.invariant ∙ ap (λ xs. string_bytes c.args.text.now ++ could_lines c.args.ask.now xs) (take_all c.replies.i c.args.replies.now c.replies-test.false)
