use Rattle.tatp_settle.proofs.LogTableLaws.{LogsBelow}
use Rattle.tatp_settle.proofs.log_table.LogTable.new.Given as goal

abbrev pub invariant-logs : goal.invariant-logs
invariant-logs l = LogsBelow l.chapters l.logs.items l.number
