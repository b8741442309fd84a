use Rattle.std.proofs.Common.{◌+◌, List, sym, subst, arith}
use Rattle.tatp_calls.specs.declared.entry.Entry.{Entry}
use Rattle.tatp_settle.specs.Closings.{ClosedState}
use Rattle.tatp_settle.specs.LogTables.{HasLogs}
use Rattle.tatp_settle.proofs.LogTableLaws.{LogsBelow, logs_start, logs_more, logs_all}
use Rattle.tatp_settle.proofs.log_table.LogTable.new.Goals as goal

pub logs-init : goal.logs-init
logs-init c = subst (λ (logs : List (List Entry)). LogsBelow c.args.chapters.now logs 0) (sym c.new-logs.ensures.items) (logs_start c.args.chapters.now)

pub logs-preserved : goal.logs-preserved
logs-preserved c =
    subst (λ (logs : List (List Entry)). LogsBelow c.args.chapters.now logs (c.logs.number + 1)) (sym c.in_ok-push.ensures.items)
    (logs_more c.args.chapters.now c.logs.logs.items c.in_ok-whole_log.field-0 c.logs.number c.logs.invariant c.in_ok-whole_log.ensures)

pub invariant_of-result : goal.invariant_of-result
invariant_of-result c =
    subst (λ (closed : ClosedState). HasLogs closed c.logs.logs.items) (sym c.closed.ensures)
    (logs_all c.args.chapters.now c.logs.logs.items c.logs.number c.logs.invariant (let past = c.logs-test.false in omega (arith, past)) (λ e l. c.count-number-end.ensures.beyond e (omega (arith, l, c.logs-test.false))))
