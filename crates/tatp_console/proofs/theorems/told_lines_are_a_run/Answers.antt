use Rattle.tatp_console.proofs.EventRunLaws.{no_lines, lines_more, lines_run}
use Rattle.tatp_console.proofs.theorems.told_lines_are_a_run.Goals as goal

pub returns-clause-none : goal.returns-clause-none
returns-clause-none c = no_lines

pub returns-clause-more : goal.returns-clause-more
returns-clause-more c = lines_more

pub returns-clause-run : goal.returns-clause-run
returns-clause-run c = lines_run
