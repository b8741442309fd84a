use Rattle.std.proofs.Common.{◌≡◌, Err, ap, arith}
use Rattle.std.proofs.lemmas.Result.{err_from_is_err_and}
use Rattle.tatp_linearization.specs.declared.stopped.Stopped.TheVariants.{MoreThanMost}
use Rattle.tatp_linearization.proofs.LeavingLaws.{closing_none, closing_more, closing_all}
use Rattle.tatp_linearization.proofs.rows.rows_left.Goals as goal

pub rows-init : goal.rows-init
rows-init c = closing_none c.args.most c.args.set.now c.args.calls.now c.in_ok-rows.rows.items c.in_ok-rows.ensures.starts c.in_ok-rows.ensures.from c.in_ok-rows.ensures.apart c.in_ok-rows.ensures.room

pub rows-preserved : goal.rows-preserved
rows-preserved c = closing_more c.args.most c.args.set.now c.args.calls.now c.rows.i c.rows.rows.items c.add_left.new.set.items (omega (arith, c.if-i-len.false, c.len.ensures, c.rows.rows.ok.0)) c.rows.invariant
    c.in_ok-add_left.ensures.first c.in_ok-add_left.ensures.left c.in_ok-add_left.ensures.from c.in_ok-add_left.ensures.apart c.in_ok-add_left.ensures.room

pub returns-clause-closed : goal.returns-clause-closed
returns-clause-closed c = closing_all c.args.most c.args.set.now c.args.calls.now c.rows.i c.rows.rows.items c.rows.invariant (omega (arith, c.rows.invariant.room, c.rows-test.false))

pub returns-then-i-len-clause-closed : goal.returns-then-i-len-clause-closed
returns-then-i-len-clause-closed c = closing_all c.args.most c.args.set.now c.args.calls.now c.rows.i c.rows.rows.items c.rows.invariant (omega (arith, c.if-i-len.true, c.len.ensures, c.rows.rows.ok.0))

pub returns-in_err-rows-clause-many : goal.returns-in_err-rows-clause-many
returns-in_err-rows-clause-many c =
    let p = err_from_is_err_and c.from_residual.result c.from_residual.ensures.1 in
    rw (p.1, p.2) (λ is s apart. c.in_err-rows.ensures.many is s apart c.args.calls.now)

pub returns-in_err-add_left-clause-many : goal.returns-in_err-add_left-clause-many
returns-in_err-add_left-clause-many c =
    let p = err_from_is_err_and c.from_residual-in_err-add_left.result c.from_residual-in_err-add_left.ensures.1 in
    rw (p.1, p.2) (λ is s apart.
    let e : c.in_err-add_left.field-0.0 ≡ MoreThanMost = cc in
    c.in_err-add_left.ensures.many (ap Err e) s (c.rows.invariant.apart s apart) c.args.set.now c.rows.invariant.from)
