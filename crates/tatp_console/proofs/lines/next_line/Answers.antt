use Rattle.std.proofs.Common.{refl}
use Rattle.tatp_console.proofs.lines.next_line.Goals as goal

pub returns-then-advance_ready-clause-line : goal.returns-then-advance_ready-clause-line
returns-then-advance_ready-clause-line g c = λ e. c.if-advance_ready.ensures.line refl (g.R.Read.remaining c.args.reader.now)
