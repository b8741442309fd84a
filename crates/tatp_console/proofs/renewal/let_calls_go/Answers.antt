use Rattle.tatp_console.proofs.renewal.let_calls_go.Goals as goal

pub returns-in-Some-clause-rest : goal.returns-in-Some-clause-rest
returns-in-Some-clause-rest c = λ lines at. rw c.replace-left.ensures.after (c.in-Some.ensures.rest lines)
