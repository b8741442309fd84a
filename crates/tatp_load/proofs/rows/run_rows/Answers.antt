use Rattle.std.proofs.Common.{arith, ap, subst, sym}
use Rattle.std.proofs.lemmas.Result.{err_from_is_err_and}
use Rattle.std.specs.String.{string_bytes}
use Rattle.tatp_driver.specs.DrawnWords.{words_of}
use Rattle.tatp_load.specs.Rows.{words_drawn}
use Rattle.tatp_load.proofs.RowLaws.{RowsAreWritten, no_rows, one_subscriber, rows_flushed, rows_cut, rows_held, rows_done}
use Rattle.tatp_load.proofs.rows.run_rows.Goals as goal

pub loop-before-init : goal.loop-before-init
loop-before-init g c =
    let w = words_drawn c.args.plan.now in
    let old = g.W.Write.contents c.args.writer.now in
    subst (RowsAreWritten w 0 old old (string_bytes c.new-pending.result)) (sym (ap words_of c.new-words.ensures)) (no_rows w old (string_bytes c.new-pending.result) c.new-pending.ensures.bytes)

pub loop-before-preserved : goal.loop-before-preserved
loop-before-preserved g c =
    rows_flushed (words_drawn c.args.plan.now) _ (g.W.Write.contents c.args.writer.now) (g.W.Write.contents c.loop-before.writer) _ _ _ _
    (one_subscriber (words_drawn c.args.plan.now) c.loop-before.before (g.W.Write.contents c.args.writer.now) (g.W.Write.contents c.loop-before.writer) _ _ _ _
    c.loop-before.invariant c.in_ok-push_subscriber.ensures.rows c.in_ok-push_subscriber.ensures.words)
    c.in_ok-write_if_full.ensures.ok

pub returns-in_err-push_subscriber-clause-front : goal.returns-in_err-push_subscriber-clause-front
returns-in_err-push_subscriber-clause-front g c =
    let p = err_from_is_err_and c.from_residual.result c.from_residual.ensures.1 in
    rw p.1 (rows_held (words_drawn c.args.plan.now) c.loop-before.before c.args.plan.now.subscribers (g.W.Write.contents c.args.writer.now) (g.W.Write.contents c.loop-before.writer) _ _
    c.loop-before.invariant (omega arith))

pub returns-in_err-write_if_full-clause-front : goal.returns-in_err-write_if_full-clause-front
returns-in_err-write_if_full-clause-front g c =
    let p = err_from_is_err_and c.from_residual-in_err-write_if_full.result c.from_residual-in_err-write_if_full.ensures.1 in
    rw p.1 (rows_cut (words_drawn c.args.plan.now) _ c.args.plan.now.subscribers (g.W.Write.contents c.args.writer.now) (g.W.Write.contents c.loop-before.writer) _ _ _
    (one_subscriber (words_drawn c.args.plan.now) c.loop-before.before (g.W.Write.contents c.args.writer.now) (g.W.Write.contents c.loop-before.writer) _ _ _ _
    c.loop-before.invariant c.in_ok-push_subscriber.ensures.rows c.in_ok-push_subscriber.ensures.words)
    (omega arith) c.in_err-write_if_full.ensures.front)

pub returns-in_err-write_last-clause-front : goal.returns-in_err-write_last-clause-front
returns-in_err-write_last-clause-front g c =
    let p = err_from_is_err_and c.from_residual-in_err-write_last.result c.from_residual-in_err-write_last.ensures.1 in
    rw p.1 (rows_cut (words_drawn c.args.plan.now) c.loop-before.before c.args.plan.now.subscribers (g.W.Write.contents c.args.writer.now) (g.W.Write.contents c.loop-before.writer) _ _ _
    c.loop-before.invariant (omega arith) (rw c.as_bytes.ensures.value at c.in_err-write_last.ensures.front))

pub returns-clause-written : goal.returns-clause-written
returns-clause-written g c =
    rows_done (words_drawn c.args.plan.now) c.loop-before.before c.args.plan.now.subscribers (g.W.Write.contents c.args.writer.now) (g.W.Write.contents c.loop-before.writer) _ _ _
    c.loop-before.invariant (omega arith) (rw c.as_bytes.ensures.value at c.in_ok-write_last.ensures.ok)
