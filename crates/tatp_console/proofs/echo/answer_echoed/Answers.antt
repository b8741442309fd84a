use Rattle.std.proofs.Common.{rules}
use Rattle.std.proofs.lemmas.Result.{on_ok_weaker}
use Rattle.tatp_console.proofs.EchoLaws.{answer_told}
use Rattle.tatp_console.proofs.echo.answer_echoed.Goals as goal

pub returns : goal.returns
returns c = on_ok_weaker c.answer_line.result (λ h. answer_told _ _ _ _ _ _ (search rules) (search rules) h) c.answer_line.ensures
