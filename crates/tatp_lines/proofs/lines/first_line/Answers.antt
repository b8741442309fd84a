use Rattle.std.proofs.Common.{Some, None, arith, lit<}
use Rattle.std.proofs.lemmas.Str.Pattern.{split_once_first}
use Rattle.tatp_lines.proofs.LineLaws.{lines_of_first, lines_of_last}
use Rattle.tatp_lines.proofs.lines.first_line.Goals as goal

pub returns-in-Some : goal.returns-in-Some
returns-in-Some c =
    let parts = split_once_first 10 c.args.text.now (Some (c.in-Some.line, c.in-Some.rest)) c.in-Some.ensures.cases (lit< tt) in
    lines_of_first c.args.text.now _ _ parts.0 parts.1 parts.2

pub returns-in-None : goal.returns-in-None
returns-in-None c =
    let whole = split_once_first 10 c.args.text.now None c.in-None.ensures.cases (lit< tt) in
    lines_of_last c.args.text.now c.requires (omega (arith, whole))
