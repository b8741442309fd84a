use Rattle.std.proofs.Common.{◌≡◌, ◌∙◌, arith, ap, subst, sym}
use Rattle.std.proofs.lemmas.Result.{err_from_is_err_and}
use Rattle.std.specs.String.{string_bytes}
use Rattle.tatp_driver.specs.DrawnCall.{drawn_call}
use Rattle.tatp_driver.specs.DrawnWords.{words_of, client_generator, next_words, DriverState}
use Rattle.tatp_load.proofs.CallLaws.{CallsAreWritten, no_calls, one_call, calls_flushed, calls_cut, calls_held, calls_done}
use Rattle.tatp_load.proofs.calls.run_calls.Goals as goal

pub loop-init : goal.loop-init
loop-init g c =
    let plan = c.args.plan.now in
    let w = words_of (client_generator plan.seed plan.client) in
    let old = g.W.Write.contents c.args.writer.now in
    record {
      written = subst (CallsAreWritten plan.distribution plan.subscribers w 0 old old (string_bytes c.new-pending.result)) (sym (ap (λ (d : DriverState). words_of d.generator) c.new-driver.ensures))
          (no_calls plan.distribution plan.subscribers w old (string_bytes c.new-pending.result) c.new-pending.ensures.bytes);
      distribution = ap (λ (d : DriverState). d.distribution) c.new-driver.ensures;
      subscribers = ap (λ (d : DriverState). d.subscribers) c.new-driver.ensures;
    }

pub loop-preserved : goal.loop-preserved
loop-preserved g c =
    let plan = c.args.plan.now in
    let so_far = c.loop.invariant in
    let w = words_of (client_generator plan.seed plan.client) in
    let call : c.next_call.result ≡ drawn_call plan.distribution plan.subscribers (next_words 7 (words_of c.loop.driver.generator)).0 =
    c.next_call.ensures.call ∙ (λ j. drawn_call (so_far.distribution j) (so_far.subscribers j) (next_words 7 (words_of c.loop.driver.generator)).0) in
    record {
      written = calls_flushed plan.distribution plan.subscribers w _ (g.W.Write.contents c.args.writer.now) (g.W.Write.contents c.loop.writer) _ _ _ _
          (one_call plan.distribution plan.subscribers w c.loop.counter (g.W.Write.contents c.args.writer.now) (g.W.Write.contents c.loop.writer) _ _ _ _ c.next_call.result
          so_far.written call c.in_ok-push_call_line.ensures c.next_call.ensures.left)
          c.in_ok-write_if_full.ensures.ok;
      distribution = c.next_call.ensures.distribution ∙ so_far.distribution;
      subscribers = c.next_call.ensures.subscribers ∙ so_far.subscribers;
    }

pub returns-in_err-push_call_line-clause-front : goal.returns-in_err-push_call_line-clause-front
returns-in_err-push_call_line-clause-front g c =
    let p = err_from_is_err_and c.from_residual.result c.from_residual.ensures.1 in
    let plan = c.args.plan.now in
    rw p.1 (calls_held plan.distribution plan.subscribers (words_of (client_generator plan.seed plan.client)) c.loop.counter plan.calls (g.W.Write.contents c.args.writer.now) (g.W.Write.contents c.loop.writer) _ _
    c.loop.invariant.written (omega arith))

pub returns-in_err-write_if_full-clause-front : goal.returns-in_err-write_if_full-clause-front
returns-in_err-write_if_full-clause-front g c =
    let p = err_from_is_err_and c.from_residual-in_err-write_if_full.result c.from_residual-in_err-write_if_full.ensures.1 in
    let plan = c.args.plan.now in
    let so_far = c.loop.invariant in
    let w = words_of (client_generator plan.seed plan.client) in
    let call : c.next_call.result ≡ drawn_call plan.distribution plan.subscribers (next_words 7 (words_of c.loop.driver.generator)).0 =
    c.next_call.ensures.call ∙ (λ j. drawn_call (so_far.distribution j) (so_far.subscribers j) (next_words 7 (words_of c.loop.driver.generator)).0) in
    rw p.1 (calls_cut plan.distribution plan.subscribers w _ plan.calls (g.W.Write.contents c.args.writer.now) (g.W.Write.contents c.loop.writer) _ _ _
    (one_call plan.distribution plan.subscribers w c.loop.counter (g.W.Write.contents c.args.writer.now) (g.W.Write.contents c.loop.writer) _ _ _ _ c.next_call.result
    so_far.written call c.in_ok-push_call_line.ensures c.next_call.ensures.left)
    (omega arith) c.in_err-write_if_full.ensures.front)

pub returns-in_err-write_last-clause-front : goal.returns-in_err-write_last-clause-front
returns-in_err-write_last-clause-front g c =
    let p = err_from_is_err_and c.from_residual-in_err-write_last.result c.from_residual-in_err-write_last.ensures.1 in
    let plan = c.args.plan.now in
    rw p.1 (calls_cut plan.distribution plan.subscribers (words_of (client_generator plan.seed plan.client)) c.loop.counter plan.calls (g.W.Write.contents c.args.writer.now) (g.W.Write.contents c.loop.writer) _ _ _
    c.loop.invariant.written (omega arith) (rw c.as_bytes.ensures.value at c.in_err-write_last.ensures.front))

pub returns-clause-written : goal.returns-clause-written
returns-clause-written g c =
    let plan = c.args.plan.now in
    calls_done plan.distribution plan.subscribers (words_of (client_generator plan.seed plan.client)) c.loop.counter plan.calls (g.W.Write.contents c.args.writer.now) (g.W.Write.contents c.loop.writer) _ _ _
    c.loop.invariant.written (omega arith) (rw c.as_bytes.ensures.value at c.in_ok-write_last.ensures.ok)
