use Rattle.std.proofs.Common.{◌≡◌, [], Some, Err, slice_get, sym, ap, subst}
use Rattle.std.proofs.lemmas.Result.{err_from_is_err_and}
use Rattle.tatp_history.specs.Locality.{AreAccepted}
use Rattle.tatp_linearization.specs.declared.stopped.Stopped.TheVariants.{MoreThanMost}
use Rattle.tatp_linearization.specs.declared.configuration.Configuration.{Configuration as Held}
use Rattle.tatp_linearization.specs.AtOnce.{TakesOne}
use Rattle.tatp_linearization.specs.Held.{AreApart}
use Rattle.tatp_linearization.specs.Covering.{From, MayCome}
use Rattle.tatp_linearization.proofs.PlaceLaws.{get_at, all_get}
use Rattle.tatp_linearization.proofs.GatheringLaws.{Gathering, gathering_none, gathering_more, gathering_many, gathered_one, none_and}
use Rattle.tatp_linearization.proofs.to_rows.after_one.Goals as goal

pub add_taken-requires : goal.add_taken-requires
add_taken-requires c =
    let at : slice_get c.args.set.now c.configurations.i ≡ Some c.index-set-i.result = get_at c.args.set.now c.configurations.i c.index-set-i.result c.configurations-test.true c.index-set-i.is in
    record { accepted = all_get (λ (e : Held). AreAccepted e.opened.items) c.args.set.now c.configurations.i c.index-set-i.result c.requires.ready at }

pub configurations-init : goal.configurations-init
configurations-init c = subst (Gathering (From MayCome) (From TakesOne) c.args.set.now [] 0) (sym c.new-after.ensures.items) (gathering_none (From MayCome) (From TakesOne) c.args.set.now [])

pub configurations-preserved : goal.configurations-preserved
configurations-preserved c =
    let at : slice_get c.args.set.now c.configurations.i ≡ Some c.index-set-i.result = get_at c.args.set.now c.configurations.i c.index-set-i.result c.configurations-test.true c.index-set-i.is in
    gathering_more (From MayCome) (From TakesOne) c.args.set.now [] c.configurations.i c.index-set-i.result c.configurations.after.items c.add_taken.new.after.items c.configurations.invariant at c.in_ok-add_taken.ensures.gained c.in_ok-add_taken.ensures.ready c.in_ok-add_taken.ensures.apart

pub returns-clause-gained : goal.returns-clause-gained
returns-clause-gained c = gathered_one c.args.set.now c.configurations.i c.configurations.after.items c.configurations.invariant c.configurations-test.false

pub returns-clause-ready : goal.returns-clause-ready
returns-clause-ready c = c.configurations.invariant.ready tt

pub returns-clause-apart : goal.returns-clause-apart
returns-clause-apart c = λ s apart. c.configurations.invariant.apart s apart (record { own = tt; distinct = tt })

pub returns-in_err-add_taken-clause-many : goal.returns-in_err-add_taken-clause-many
returns-in_err-add_taken-clause-many c =
    let p = err_from_is_err_and c.from_residual.result c.from_residual.ensures.1 in
    let k : Held = c.index-set-i.result in
    let set = c.args.set.now in
    let inv = c.configurations.invariant in
    let at : slice_get c.args.set.now c.configurations.i ≡ Some k = get_at c.args.set.now c.configurations.i k c.configurations-test.true c.index-set-i.is in
    rw (p.1, p.2) (λ is s apart.
    let own : k.home.s_id ≡ s = all_get (λ (b : Held). b.home.s_id ≡ s) set c.configurations.i k apart.own at in
    let after : AreApart k.home.s_id c.configurations.after.items = subst (λ t. AreApart t c.configurations.after.items) (sym own) (inv.apart s apart (record { own = tt; distinct = tt })) in
    let e : c.in_err-add_taken.field-0.0 ≡ MoreThanMost = cc in
    none_and c.args.most MayCome set
    (gathering_many c.args.most (From MayCome) (From MayCome) (From TakesOne) (λ b d h. h) set [] c.configurations.i k c.configurations.after.items inv at (c.in_err-add_taken.ensures.many (ap Err e) after)))
