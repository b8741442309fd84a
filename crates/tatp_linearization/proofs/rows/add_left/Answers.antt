use Rattle.std.proofs.Common.{◌≤◌, length, arith}
use Rattle.std.proofs.lemmas.Result.{err_from_is_err_and}
use Rattle.tatp_linearization.specs.declared.configuration.Configuration.{Configuration as Held}
use Rattle.tatp_linearization.proofs.PlaceLaws.{get_at}
use Rattle.tatp_linearization.proofs.LeavingLaws.{added_none, added_more, added_many, added_all, first_longer, at_or}
use Rattle.tatp_linearization.proofs.rows.add_left.Goals as goal

pub calls-init : goal.calls-init
calls-init c = added_none c.args.most c.args.calls.now c.args.place c.args.set.now.items

pub calls-preserved : goal.calls-preserved
calls-preserved c =
    let inv = c.calls.invariant in
    let b : Held = c.index.result.now in
    let longer : length c.args.set.now.items ≤ length c.calls.set.items = first_longer c.args.set.now.items c.calls.set.items inv.first in
    added_more c.args.most c.args.calls.now c.args.place c.args.set.now.items c.calls.i _ c.calls.set.items c.add_once.new.set.items b c.left_by-d.result c.requires.inside
    (at_or c.args.calls.now c.calls.i _ c.calls-test.true) (get_at c.calls.set.items c.args.place b (omega (arith, c.requires.inside, longer)) c.index.ensures)
    c.left_by-d.ensures.left c.left_by-d.ensures.own inv c.in_ok-add_once.ensures.added c.in_ok-add_once.ensures.first c.in_ok-add_once.ensures.apart c.in_ok-add_once.ensures.room

pub returns-clause-left : goal.returns-clause-left
returns-clause-left c = added_all c.args.most c.args.calls.now c.args.place c.args.set.now.items c.calls.i c.calls.set.items c.calls.invariant c.calls-test.false

pub returns-in_err-add_once-clause-many : goal.returns-in_err-add_once-clause-many
returns-in_err-add_once-clause-many c =
    let p = err_from_is_err_and c.from_residual.result c.from_residual.ensures.1 in
    let inv = c.calls.invariant in
    let b : Held = c.index.result.now in
    let longer : length c.args.set.now.items ≤ length c.calls.set.items = first_longer c.args.set.now.items c.calls.set.items inv.first in
    rw (p.1, p.2) (λ is. added_many c.args.most c.args.calls.now c.args.place c.args.set.now.items c.calls.i _ c.calls.set.items b c.left_by-d.result
    (at_or c.args.calls.now c.calls.i _ c.calls-test.true) (get_at c.calls.set.items c.args.place b (omega (arith, c.requires.inside, longer)) c.index.ensures)
    c.left_by-d.ensures.left c.left_by-d.ensures.own inv (c.in_err-add_once.ensures.many is))
