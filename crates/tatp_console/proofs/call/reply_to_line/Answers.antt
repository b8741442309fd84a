use Rattle.std.proofs.Common.{◌+◌}
use Rattle.std.specs.String.{string_bytes}
use Rattle.tatp_console.proofs.CallLaws.{line_replied, standard_after}
use Rattle.tatp_console.proofs.call.reply_to_line.Goals as goal

pub returns-clause-answered : goal.returns-clause-answered
returns-clause-answered c =
    line_replied c.args.world.now c.answer_line.new.world c.let_calls_go.new.world c.args.line.now (string_bytes c.args.pending.now) (string_bytes c.answer_line.new.pending) (string_bytes c.push_str.new.self)
    c.in_ok-answer_line.ensures.answered c.in_ok-push_str.ensures.bytes c.let_calls_go.ensures.back

pub let_calls_go-requires : goal.let_calls_go-requires
let_calls_go-requires c = record { standard = standard_after c.args.world.now c.answer_line.new.world c.requires.ready c.answer_line.ensures.ready }

pub returns-clause-ready : goal.returns-clause-ready
returns-clause-ready c = λ lines few at. c.let_calls_go.ensures.rest (lines + 1) (c.answer_line.ensures.ready lines few at)
