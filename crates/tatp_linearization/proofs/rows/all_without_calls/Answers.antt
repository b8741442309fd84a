use Rattle.std.proofs.Common.{◌≡◌, Err, sym, ap, subst}
use Rattle.std.proofs.lemmas.Result.{err_from_is_err_and}
use Rattle.tatp_linearization.specs.declared.stopped.Stopped.TheVariants.{MoreThanMost}
use Rattle.tatp_linearization.specs.declared.configuration.Configuration.{Configuration as Held}
use Rattle.tatp_linearization.proofs.PlaceLaws.{get_at}
use Rattle.tatp_linearization.proofs.LeavingLaws.{Started, started_none, started_more, started_many, started_all}
use Rattle.tatp_linearization.proofs.rows.all_without_calls.Goals as goal

pub configurations-init : goal.configurations-init
configurations-init c = subst (Started c.args.most c.args.set.now 0) (sym c.new-rows.ensures.items) (started_none c.args.most c.args.set.now)

pub configurations-preserved : goal.configurations-preserved
configurations-preserved c =
    let k : Held = c.index-set-i.result in
    started_more c.args.most c.args.set.now c.configurations.i k c.without_calls-d.result c.configurations.rows.items c.add_once.new.set.items (get_at c.args.set.now c.configurations.i k c.configurations-test.true c.index-set-i.is)
    c.without_calls-d.ensures.bare c.without_calls-d.ensures.own c.configurations.invariant c.in_ok-add_once.ensures.added c.in_ok-add_once.ensures.apart c.in_ok-add_once.ensures.room

pub returns-clause-starts : goal.returns-clause-starts
returns-clause-starts c = started_all c.args.most c.args.set.now c.configurations.i c.configurations.rows.items c.configurations.invariant c.configurations-test.false

pub returns-clause-from : goal.returns-clause-from
returns-clause-from c = c.configurations.invariant.from

pub returns-clause-apart : goal.returns-clause-apart
returns-clause-apart c = c.configurations.invariant.apart

pub returns-in_err-add_once-clause-many : goal.returns-in_err-add_once-clause-many
returns-in_err-add_once-clause-many c =
    let p = err_from_is_err_and c.from_residual.result c.from_residual.ensures.1 in
    let k : Held = c.index-set-i.result in
    rw (p.1, p.2) (λ is.
    let e : c.in_err-add_once.field-0.0 ≡ MoreThanMost = cc in
    started_many c.args.most c.args.set.now c.configurations.i k c.without_calls-d.result c.configurations.rows.items (get_at c.args.set.now c.configurations.i k c.configurations-test.true c.index-set-i.is)
    c.without_calls-d.ensures.bare c.without_calls-d.ensures.own c.configurations.invariant (c.in_err-add_once.ensures.many (ap Err e)))
