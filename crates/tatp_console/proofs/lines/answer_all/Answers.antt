use Rattle.std.proofs.lemmas.Result.{err_from_is_err_and}
use Rattle.tatp_console.specs.Answers.{AnswersFront}
use Rattle.tatp_console.proofs.WorkLaws.{all_written, cut_short, input_within, rows_refused}
use Rattle.tatp_console.proofs.lines.answer_all.Goals as goal

pub answer_to_the_end-answered-requires : goal.answer_to_the_end-answered-requires
answer_to_the_end-answered-requires g c =
    record { ready = c.requires.ready _ _ _ c.in_ok-world.world c.in_ok-loaded.ensures.rules c.in_ok-world.ensures.opened c.in_ok-world.ensures.world }

pub returns-in_err-world-clause-faults : goal.returns-in_err-world-clause-faults
returns-in_err-world-clause-faults g c =
    let p = err_from_is_err_and c.from_residual-in_err-world.result c.from_residual-in_err-world.ensures.1 in
    rw (p.1, p.2) (rows_refused (AnswersFront g.C.LineCommand.answers g.C.LineCommand.ending c.args.setup) c.args.setup _ _ (g.R.Read.remaining c.args.reader.now) _ (g.W.Write.contents c.args.writer.now) _ _ _
    c.new-lines.ensures c.in_ok-loaded.ensures.brought c.in_err-world.ensures.refusal)

pub returns-in_err-answered-clause-faults : goal.returns-in_err-answered-clause-faults
returns-in_err-answered-clause-faults g c =
    let p = err_from_is_err_and c.from_residual-in_err-answered.result c.from_residual-in_err-answered.ensures.1 in
    rw (p.1, p.2) (cut_short g.C.LineCommand.answers g.C.LineCommand.ending c.args.setup _ _ (g.R.Read.remaining c.args.reader.now) _ (g.W.Write.contents c.args.writer.now) (g.W.Write.contents c.answer_to_the_end-answered.new.writer) _ _ c.len-subscribers.result c.in_ok-world.world c.in_err-answered.field-0.0
    c.new-lines.ensures c.len-subscribers.ensures c.in_ok-loaded.ensures.brought
    (record { few = c.in_ok-world.ensures.few; clean = c.in_ok-world.ensures.clean; is_opened = c.in_ok-world.ensures.opened; world = c.in_ok-world.ensures.world })
    c.in_err-answered.ensures.front)

pub returns-clause-answered : goal.returns-clause-answered
returns-clause-answered g c =
    all_written g.C.LineCommand.answers g.C.LineCommand.ending c.args.setup _ _ (g.R.Read.remaining c.args.reader.now) _ (g.W.Write.contents c.args.writer.now) _ _ _ c.len-subscribers.result c.in_ok-world.world
    c.new-lines.ensures c.len-subscribers.ensures c.in_ok-loaded.ensures.brought
    (record { few = c.in_ok-world.ensures.few; clean = c.in_ok-world.ensures.clean; is_opened = c.in_ok-world.ensures.opened; world = c.in_ok-world.ensures.world })
    c.in_ok-answered.ensures.ok

pub returns-clause-limit : goal.returns-clause-limit
returns-clause-limit g c =
    input_within c.args.setup _ _ (g.R.Read.remaining c.args.reader.now) _ _ _ c.new-lines.ensures c.in_ok-loaded.ensures.brought c.in_ok-answered.ensures.limit
