use Rattle.std.proofs.Common.{◌≡◌, Some, Err, slice_get, sym, ap, subst}
use Rattle.std.proofs.lemmas.Result.{err_from_is_err_and}
use Rattle.tatp_history.specs.declared.event.Event.{Event}
use Rattle.tatp_history.specs.Locality.{AreAccepted}
use Rattle.tatp_linearization.specs.declared.stopped.Stopped.TheVariants.{MoreThanMost}
use Rattle.tatp_linearization.specs.declared.configuration.Configuration.{Configuration as Held}
use Rattle.tatp_linearization.specs.Held.{AreApart}
use Rattle.tatp_linearization.specs.Ahead.{IsSeenAhead}
use Rattle.tatp_linearization.proofs.PlaceLaws.{get_at, all_get}
use Rattle.tatp_linearization.proofs.GatheringLaws.{sharing_none, sharing_more, sharing_many, sharing_all}
use Rattle.tatp_linearization.proofs.following.after_event.Goals as goal

pub follow-requires : goal.follow-requires
follow-requires c =
    let at : slice_get c.args.set.now c.configurations.i ≡ Some c.index-set-i.result = get_at c.args.set.now c.configurations.i c.index-set-i.result c.configurations-test.true c.index-set-i.is in
    record { ready = all_get (λ (e : Held). AreAccepted e.opened.items) c.args.set.now c.configurations.i c.index-set-i.result c.requires.ready at; accepted = c.requires.accepted }

pub configurations-init : goal.configurations-init
configurations-init c = sharing_none (IsSeenAhead c.args.ahead.now) c.args.event.now c.args.set.now c.new-after.result.items c.new-tried.result.items c.new-after.ensures.items c.new-tried.ensures.items

pub configurations-preserved : goal.configurations-preserved
configurations-preserved c =
    let at : slice_get c.args.set.now c.configurations.i ≡ Some c.index-set-i.result = get_at c.args.set.now c.configurations.i c.index-set-i.result c.configurations-test.true c.index-set-i.is in
    sharing_more (IsSeenAhead c.args.ahead.now) c.args.event.now c.args.set.now c.configurations.i c.index-set-i.result c.configurations.after.items c.follow.new.after.items c.configurations.tried.items c.follow.new.tried.items at c.configurations.invariant
    c.in_ok-follow.ensures.kept c.in_ok-follow.ensures.sound c.in_ok-follow.ensures.followed c.in_ok-follow.ensures.done c.in_ok-follow.ensures.tried c.in_ok-follow.ensures.ready c.in_ok-follow.ensures.apart c.in_ok-follow.ensures.distinct

pub returns-clause-followed : goal.returns-clause-followed
returns-clause-followed c = sharing_all (IsSeenAhead c.args.ahead.now) c.args.event.now c.args.set.now c.configurations.i c.configurations.after.items c.configurations.tried.items c.configurations.invariant c.configurations-test.false

pub returns-clause-ready : goal.returns-clause-ready
returns-clause-ready c = c.configurations.invariant.ready

pub returns-clause-apart : goal.returns-clause-apart
returns-clause-apart c = c.configurations.invariant.apart

pub returns-in_err-follow-clause-many : goal.returns-in_err-follow-clause-many
returns-in_err-follow-clause-many c =
    let p = err_from_is_err_and c.from_residual.result c.from_residual.ensures.1 in
    let k : Held = c.index-set-i.result in
    let event : Event = c.args.event.now in
    let set = c.args.set.now in
    let inv = c.configurations.invariant in
    let at : slice_get c.args.set.now c.configurations.i ≡ Some k = get_at c.args.set.now c.configurations.i k c.configurations-test.true c.index-set-i.is in
    rw (p.1, p.2) (λ is s apart.
    let own : k.home.s_id ≡ s = all_get (λ (b : Held). b.home.s_id ≡ s) set c.configurations.i k apart.own at in
    let after : AreApart k.home.s_id c.configurations.after.items = subst (λ t. AreApart t c.configurations.after.items) (sym own) (inv.apart s apart) in
    let tried : AreApart k.home.s_id c.configurations.tried.items = subst (λ t. AreApart t c.configurations.tried.items) (sym own) (inv.distinct s apart) in
    let e : c.in_err-follow.field-0.0 ≡ MoreThanMost = cc in
    sharing_many (IsSeenAhead c.args.ahead.now) c.args.most event set c.configurations.i k c.configurations.after.items c.configurations.tried.items at inv (c.in_err-follow.ensures.many (ap Err e) after tried))
