use Rattle.std.proofs.Common.{◌<◌, ℕ, arith, rules, subst, sym}
use Rattle.std.proofs.lemmas.Result.{err_from_is_err_and}
use Rattle.tatp_limits.specs.declared.limits.TheConstants.{MAX_INPUT_LIMIT}
use Rattle.tatp_streams.specs.LineReading.{lines_left, IsWithinLimit}
use Rattle.tatp_console.specs.Answers.{AnswersAll}
use Rattle.tatp_console.proofs.AnswerLaws.{starts, answers_next, writes_next, answers_all, lines_answered, answers_up_to, answers_so_far}
use Rattle.tatp_console.proofs.lines.answer_lines.Goals as goal

pub lines-init : goal.lines-init
lines-init g c = record {
  ready = c.requires.ready;
  goes = starts g.C.LineCommand.answers c.args.world.now (lines_left c.args.lines.now (g.R.Read.remaining c.args.reader.now)) (g.W.Write.contents c.args.writer.now) _ c.new-pending.ensures.bytes;
}

pub answer-requires : goal.answer-requires
answer-requires g c =
    let taken = c.in_ok-next_line.ensures.line (search rules) in
    record { ready = (c.lines.lines.number, omega (arith, taken.number, taken.few), c.lines.invariant.ready) }

pub returns-in_err-next_line-clause-front : goal.returns-in_err-next_line-clause-front
returns-in_err-next_line-clause-front g c =
    let p = err_from_is_err_and c.from_residual.result c.from_residual.ensures.1 in
    rw p.1 (answers_up_to g.C.LineCommand.answers c.args.world.now c.lines.world (lines_left c.args.lines.now (g.R.Read.remaining c.args.reader.now)) (lines_left c.lines.lines (g.R.Read.remaining c.lines.reader)) _ _ _ _
    c.lines.invariant.goes c.in_err-next_line.ensures.front)

pub returns-then-not-branch-clause-ok : goal.returns-then-not-branch-clause-ok
returns-then-not-branch-clause-ok g c =
    let answers = g.C.LineCommand.answers in
    let w = c.args.world.now in
    let all = lines_left c.args.lines.now (g.R.Read.remaining c.args.reader.now) in
    let end = c.in_ok-next_line.ensures.end (search rules) in
    lines_answered (λ a. AnswersAll answers w a.lines (g.W.Write.contents c.args.writer.now) (g.W.Write.contents c.next_line.new.writer) c.lines.world) (λ a. IsWithinLimit a.input) all
    (answers_all answers w c.lines.world all (lines_left c.lines.lines (g.R.Read.remaining c.lines.reader)) (lines_left c.next_line.new.lines (g.R.Read.remaining c.next_line.new.reader)) _ _ _ _
    c.lines.invariant.goes end.left end.none end.within (c.in_ok-next_line.ensures.all_written (search rules)))

pub returns-in_err-answer-clause-front : goal.returns-in_err-answer-clause-front
returns-in_err-answer-clause-front g c =
    let p = err_from_is_err_and c.from_residual-in_err-answer.result c.from_residual-in_err-answer.ensures.1 in
    let answers = g.C.LineCommand.answers in
    let w = c.args.world.now in
    let all = lines_left c.args.lines.now (g.R.Read.remaining c.args.reader.now) in
    let left = lines_left c.lines.lines (g.R.Read.remaining c.lines.reader) in
    rw p.1 (answers_so_far answers w c.lines.world all left _ _ _
    (writes_next answers w c.lines.world all left _ _ _ _ _ c.lines.invariant.goes (c.in_ok-next_line.ensures.written (search rules))))

pub lines-preserved : goal.lines-preserved
lines-preserved g c =
    let answers = g.C.LineCommand.answers in
    let w = c.args.world.now in
    let all = lines_left c.args.lines.now (g.R.Read.remaining c.args.reader.now) in
    let left = lines_left c.lines.lines (g.R.Read.remaining c.lines.reader) in
    let later = lines_left c.next_line.new.lines (g.R.Read.remaining c.next_line.new.reader) in
    let taken = c.in_ok-next_line.ensures.line (search rules) in
    let few : c.lines.lines.number < MAX_INPUT_LIMIT = omega (arith, taken.number, taken.few) in
    record {
      ready = subst (λ (n : ℕ). g.C.LineCommand.ready n c.answer.new.world) (sym taken.number) (c.answer.ensures.ready c.lines.lines.number few c.lines.invariant.ready);
      goes = writes_next answers w c.answer.new.world all later _ _ _ _ _
          (answers_next answers w c.lines.world c.answer.new.world all left later _ _ _ _ _ _ c.next_line.new.lines.line c.lines.invariant.goes taken.left (c.in_ok-next_line.ensures.written (search rules))
          (rw c.line.ensures at c.in_ok-answer.ensures.answered))
          c.in_ok-write_if_full.ensures.ok;
    }

pub returns-in_err-write_if_full-clause-front : goal.returns-in_err-write_if_full-clause-front
returns-in_err-write_if_full-clause-front g c =
    let p = err_from_is_err_and c.from_residual-in_err-write_if_full.result c.from_residual-in_err-write_if_full.ensures.1 in
    let answers = g.C.LineCommand.answers in
    let w = c.args.world.now in
    let all = lines_left c.args.lines.now (g.R.Read.remaining c.args.reader.now) in
    let left = lines_left c.lines.lines (g.R.Read.remaining c.lines.reader) in
    let later = lines_left c.next_line.new.lines (g.R.Read.remaining c.next_line.new.reader) in
    let taken = c.in_ok-next_line.ensures.line (search rules) in
    rw p.1 (answers_up_to answers w c.answer.new.world all later _ _ _ _
    (answers_next answers w c.lines.world c.answer.new.world all left later _ _ _ _ _ _ c.next_line.new.lines.line c.lines.invariant.goes taken.left (c.in_ok-next_line.ensures.written (search rules))
    (rw c.line.ensures at c.in_ok-answer.ensures.answered))
    c.in_err-write_if_full.ensures.front)
