use Rattle.std.proofs.lemmas.Result.{err_from_is_err_and}
use Rattle.tatp_streams.specs.LineReading.{lines_left}
use Rattle.tatp_inputs.proofs.DotLaws.{all_within, dot_refused, front_refused, rows_to_end}
use Rattle.tatp_inputs.proofs.rows.read_rows_to_end.Goals as goal

pub returns-in_err-rows-clause-faults : goal.returns-in_err-rows-clause-faults
returns-in_err-rows-clause-faults g c =
    let p = err_from_is_err_and c.from_residual.result c.from_residual.ensures.1 in
    rw (p.1, p.2) (front_refused (lines_left c.args.lines.now (g.R.Read.remaining c.args.reader.now)) _ _ c.in_err-rows.ensures.faults)

pub returns-then-dot-clause-faults : goal.returns-then-dot-clause-faults
returns-then-dot-clause-faults g c =
    rw c.number.ensures.number (dot_refused (lines_left c.args.lines.now (g.R.Read.remaining c.args.reader.now)) _ _ _ _ (rw c.if-dot.true at c.in_ok-rows.ensures.front))

pub returns-else-dot-clause-rows : goal.returns-else-dot-clause-rows
returns-else-dot-clause-rows g c = rows_to_end (lines_left c.args.lines.now (g.R.Read.remaining c.args.reader.now)) _ _ _ _ (rw c.if-dot.false at c.in_ok-rows.ensures.front)

pub returns-else-dot-clause-limit : goal.returns-else-dot-clause-limit
returns-else-dot-clause-limit g c = all_within (lines_left c.args.lines.now (g.R.Read.remaining c.args.reader.now)) _ _ _ _ (rw c.if-dot.false at c.in_ok-rows.ensures.front)
