use Rattle.tatp_streams.proofs.StreamLaws.{appends_none}
use Rattle.tatp_console.proofs.trace.EventsLineCommand.end.Goals as goal

pub returns-clause-ok : goal.returns-clause-ok
returns-clause-ok g c = appends_none _
