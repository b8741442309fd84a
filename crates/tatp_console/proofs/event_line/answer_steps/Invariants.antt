use Rattle.std.specs.String.{string_bytes}
use Rattle.tatp_console.specs.EventLines.{AppendsSteps}
use Rattle.tatp_console.proofs.event_line.answer_steps.Given as goal

abbrev pub invariant-steps : goal.invariant-steps
invariant-steps l = AppendsSteps l.fn.world l.partition l.done (string_bytes l.fn.pending) (string_bytes l.pending) l.world
