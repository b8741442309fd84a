use Rattle.std.proofs.Common.{◌≡◌, ℕ, [], Some, Err, slice_get, sym, ap, subst}
use Rattle.std.proofs.lemmas.Result.{err_from_is_err_and}
use Rattle.tatp_history.specs.Locality.{AreAccepted}
use Rattle.tatp_linearization.specs.declared.stopped.Stopped.TheVariants.{MoreThanMost}
use Rattle.tatp_linearization.specs.declared.configuration.Configuration.{Configuration as Held}
use Rattle.tatp_linearization.specs.Held.{AreApart}
use Rattle.tatp_linearization.specs.Ahead.{LooksAhead}
use Rattle.tatp_linearization.specs.Turns.{Lists}
use Rattle.tatp_linearization.proofs.PlaceLaws.{get_at, all_get}
use Rattle.tatp_linearization.proofs.TurnLaws.{TryingAll, trying_all_none, trying_all_more, trying_all_done, trying_all_went, trying_all_many}
use Rattle.tatp_linearization.proofs.effects.try_all.Goals as goal

pub configurations-init : goal.configurations-init
configurations-init c = subst (λ xs. TryingAll (LooksAhead c.args.ahead.now c.args.now) c.args.set.now c.args.asked (record { answered = c.args.answered.now.items; tried = c.args.tried.now.items; going = [] }) 0 (record { answered = c.args.answered.now.items; tried = c.args.tried.now.items; going = xs })) (sym c.new-going.ensures.items)
    (trying_all_none (LooksAhead c.args.ahead.now c.args.now) c.args.set.now c.args.asked (record { answered = c.args.answered.now.items; tried = c.args.tried.now.items; going = [] }))

pub configurations-preserved : goal.configurations-preserved
configurations-preserved c =
    let at : slice_get c.args.set.now c.configurations.i ≡ Some c.index-set-i.result = get_at c.args.set.now c.configurations.i c.index-set-i.result c.configurations-test.true c.index-set-i.is in
    let old : Lists = record { answered = c.args.answered.now.items; tried = c.args.tried.now.items; going = [] } in
    let before : Lists = record { answered = c.configurations.answered.items; tried = c.configurations.tried.items; going = c.configurations.going.items } in
    let new : Lists = record { answered = c.try_each.new.answered.items; tried = c.try_each.new.tried.items; going = c.try_each.new.going.items } in
    let e = c.in_ok-try_each.ensures in
    trying_all_more (LooksAhead c.args.ahead.now c.args.now) c.args.set.now c.args.asked old c.configurations.i c.index-set-i.result before new at c.configurations.invariant c.in_ok-try_each.ensures.grown c.in_ok-try_each.ensures.served c.in_ok-try_each.ensures.went
    c.in_ok-try_each.ensures.ready c.in_ok-try_each.ensures.left c.in_ok-try_each.ensures.apart c.in_ok-try_each.ensures.distinct

pub try_each-requires : goal.try_each-requires
try_each-requires c =
    let at : slice_get c.args.set.now c.configurations.i ≡ Some c.index-set-i.result = get_at c.args.set.now c.configurations.i c.index-set-i.result c.configurations-test.true c.index-set-i.is in
    record { accepted = all_get (λ (e : Held). AreAccepted e.opened.items) c.args.set.now c.configurations.i c.index-set-i.result c.requires.ready at }

pub returns-clause-grown : goal.returns-clause-grown
returns-clause-grown c = c.configurations.invariant.grown

pub returns-clause-served : goal.returns-clause-served
returns-clause-served c = trying_all_done (LooksAhead c.args.ahead.now c.args.now) c.args.set.now c.args.asked (record { answered = c.args.answered.now.items; tried = c.args.tried.now.items; going = [] }) c.configurations.i
    (record { answered = c.configurations.answered.items; tried = c.configurations.tried.items; going = c.configurations.going.items }) c.configurations.invariant c.configurations-test.false

pub returns-clause-ready : goal.returns-clause-ready
returns-clause-ready c = c.configurations.invariant.ready

pub returns-clause-left : goal.returns-clause-left
returns-clause-left c = c.configurations.invariant.left

pub returns-clause-apart : goal.returns-clause-apart
returns-clause-apart c = c.configurations.invariant.apart

pub returns-clause-distinct : goal.returns-clause-distinct
returns-clause-distinct c = c.configurations.invariant.distinct

pub returns-clause-went : goal.returns-clause-went
returns-clause-went c = trying_all_went (LooksAhead c.args.ahead.now c.args.now) c.args.set.now c.args.asked c.args.answered.now.items c.args.tried.now.items c.configurations.i
    (record { answered = c.configurations.answered.items; tried = c.configurations.tried.items; going = c.configurations.going.items }) c.configurations.invariant

pub returns-in_err-try_each-clause-many : goal.returns-in_err-try_each-clause-many
returns-in_err-try_each-clause-many c =
    let p = err_from_is_err_and c.from_residual.result c.from_residual.ensures.1 in
    let k : Held = c.index-set-i.result in
    let i : ℕ = c.configurations.i in
    let old : Lists = record { answered = c.args.answered.now.items; tried = c.args.tried.now.items; going = [] } in
    let before : Lists = record { answered = c.configurations.answered.items; tried = c.configurations.tried.items; going = c.configurations.going.items } in
    let inv = c.configurations.invariant in
    let at : slice_get c.args.set.now c.configurations.i ≡ Some k = get_at c.args.set.now c.configurations.i k c.configurations-test.true c.index-set-i.is in
    rw (p.1, p.2) (λ is s own answered tried.
    let same : k.home.s_id ≡ s = all_get (λ (b : Held). b.home.s_id ≡ s) c.args.set.now i k own at in
    let first : AreApart k.home.s_id c.configurations.answered.items = subst (λ t. AreApart t c.configurations.answered.items) (sym same) (inv.apart s answered own) in
    let second : AreApart k.home.s_id c.configurations.tried.items = subst (λ t. AreApart t c.configurations.tried.items) (sym same) (inv.distinct s tried own) in
    let e : c.in_err-try_each.field-0.0 ≡ MoreThanMost = cc in
    trying_all_many (LooksAhead c.args.ahead.now c.args.now) c.args.most c.args.set.now c.args.asked old i k before at inv (c.in_err-try_each.ensures.many (ap Err e) first second))
