use Rattle.std.specs.String.{string_bytes}
use Rattle.std.proofs.Common.{◌++◌, codes}
use Rattle.std.proofs.lemmas.Result.{on_ok_weaker}
use Rattle.tatp_judged_inputs.specs.Judging.{number_line}
use Rattle.tatp_judged_inputs.proofs.TellingLaws.{both_told}
use Rattle.tatp_judged_inputs.proofs.command.push_stakes.Goals as goal

pub returns : goal.returns
returns c =
    let stakes = c.args.stakes.now in
    let answered = number_line (codes "ANSWERED ") stakes.answered in
    let aborted = number_line (codes "ABORTED ") stakes.aborted in
    let unanswered = number_line (codes "UNANSWERED ") stakes.unanswered in
    let subscribers = number_line (codes "SUBSCRIBERS ") stakes.subscribers in
    let overlapped = number_line (codes "OVERLAPPED ") stakes.overlapped in
    let conflicted = number_line (codes "CONFLICTED ") stakes.conflicted in
    let widest = number_line (codes "WIDEST ") stakes.widest in
    let old = string_bytes c.args.text.now in
    let one = string_bytes c.push_number_line.new.text in
    let two = string_bytes c.push_number_line-2.new.text in
    let three = string_bytes c.push_number_line-3.new.text in
    let four = string_bytes c.push_number_line-4.new.text in
    let five = string_bytes c.push_number_line-5.new.text in
    let six = string_bytes c.push_number_line-6.new.text in
    let all = string_bytes c.push_number_line-7.new.text in
    on_ok_weaker c.push_number_line-7.result
    (λ is. both_told old one all answered (aborted ++ (unanswered ++ (subscribers ++ (overlapped ++ (conflicted ++ widest))))) c.in_ok-push_number_line.ensures
    (both_told one two all aborted (unanswered ++ (subscribers ++ (overlapped ++ (conflicted ++ widest)))) c.in_ok-push_number_line-2.ensures
    (both_told two three all unanswered (subscribers ++ (overlapped ++ (conflicted ++ widest))) c.in_ok-push_number_line-3.ensures
    (both_told three four all subscribers (overlapped ++ (conflicted ++ widest)) c.in_ok-push_number_line-4.ensures
    (both_told four five all overlapped (conflicted ++ widest) c.in_ok-push_number_line-5.ensures
    (both_told five six all conflicted widest c.in_ok-push_number_line-6.ensures is))))))
    c.push_number_line-7.ensures
