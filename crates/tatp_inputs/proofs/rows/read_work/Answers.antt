use Rattle.std.proofs.Common.{◌≡◌, ◌+◌, false, Err, ap}
use Rattle.tatp_inputs.specs.RowLines.{TakesRows}
use Rattle.tatp_inputs.specs.Work.{brought}
use Rattle.tatp_streams.specs.LineReading.{lines_left}
use Rattle.tatp_streams.proofs.LineReadingLaws.{relates_all}
use Rattle.tatp_inputs.proofs.DotLaws.{missing_dot}
use Rattle.tatp_inputs.proofs.rows.read_work.Goals as goal

pub returns-else-dot-clause-faults : goal.returns-else-dot-clause-faults
returns-else-dot-clause-faults g c =
    let before = c.args.lines.now.number in
    let after = c.read_front.new.lines.number in
    let rows = c.in_ok-rows.field-0.rows in
    relates_all (lines_left c.args.lines.now (g.R.Read.remaining c.args.reader.now)) (lines_left c.read_front.new.lines (g.R.Read.remaining c.read_front.new.reader)) (TakesRows false rows before after)
    (λ all. brought (before + 1) all.lines ≡ Err (c.number.result + 1))
    (rw c.if-dot.false at c.in_ok-rows.ensures.front)
    (λ all left t. missing_dot before after (c.number.result + 1) rows all left (ap (λ n. n + 1) c.number.ensures.number) t)
