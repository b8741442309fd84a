use Rattle.std.proofs.Common.{◌∙◌, sym}
use Rattle.std.proofs.lemmas.List.{append-nil}
use Rattle.std.proofs.lemmas.Result.{on_err_weaker}
use Rattle.tatp_trace_lines.proofs.AppendLaws.{on_err_always, more_extend, space_extends}
use Rattle.tatp_trace_lines.proofs.answers.push_numbers.Goals as goal

pub returns-in_err-push_str-clause-err : goal.returns-in_err-push_str-clause-err
returns-in_err-push_str-clause-err c =
    on_err_always c.from_residual-in_err-push_str.result (more_extend _ _ _ _ _ _ c.requires.some c.requires.ascii c.in_ok-push_number.ensures.ok (c.in_err-push_str.ensures.bytes ∙ sym (append-nil _)))

pub returns-clause-err : goal.returns-clause-err
returns-clause-err c =
    on_err_weaker c.push_decimal.result (space_extends _ _ _ _ _ _ c.requires.some c.requires.ascii c.in_ok-push_number.ensures.ok c.in_ok-push_str.ensures.bytes) c.push_decimal.ensures.err
