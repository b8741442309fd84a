use Rattle.std.proofs.Common.{Some, sym, ◌∙◌, subst, true≢false}
use Rattle.std.proofs.lemmas.Result.{err_from_is_err_and}
use Rattle.tatp_linearization.specs.Held.{AreApart}
use Rattle.tatp_linearization.specs.Covering.{IsLetGo}
use Rattle.tatp_linearization.proofs.CoveringLaws.{gone_kept, gone_added, gone_other, covered_many}
use Rattle.tatp_linearization.proofs.following.add_gone.Goals as goal

pub returns-in_ok-add-in-Some-clause-gained : goal.returns-in_ok-add-in-Some-clause-gained
returns-in_ok-add-in-Some-clause-gained c = gone_added c.args.c.now c.in-Some.d c.args.asked c.args.after.now.items c.add.new.set.items (subst (IsLetGo c.args.asked c.args.c.now) c.in-Some.is c.in_ok-d.ensures)
    (c.none_asked.ensures.0 c.if-none_asked.true) c.in_ok-add-in-Some.ensures.gained

pub returns-else-none_asked-clause-gained : goal.returns-else-none_asked-clause-gained
returns-else-none_asked-clause-gained c = gone_other c.args.c.now c.in-Some.d c.args.asked c.args.after.now.items (subst (IsLetGo c.args.asked c.args.c.now) c.in-Some.is c.in_ok-d.ensures)
    (λ none. true≢false (sym (c.none_asked.ensures.1 none) ∙ c.if-none_asked.false))

pub returns-in-None-clause-gained : goal.returns-in-None-clause-gained
returns-in-None-clause-gained c = gone_kept c.args.c.now c.args.asked c.args.after.now.items c.requires.open (subst (IsLetGo c.args.asked c.args.c.now) c.in-None.is c.in_ok-d.ensures)

pub add-requires : goal.add-requires
add-requires c = let go : IsLetGo c.args.asked c.args.c.now (Some c.in-Some.d) = subst (IsLetGo c.args.asked c.args.c.now) c.in-Some.is c.in_ok-d.ensures in record { accepted = go.2 c.requires.ready }

pub returns-in_ok-add-in-Some-clause-apart : goal.returns-in_ok-add-in-Some-clause-apart
returns-in_ok-add-in-Some-clause-apart c =
    let go : IsLetGo c.args.asked c.args.c.now (Some c.in-Some.d) = subst (IsLetGo c.args.asked c.args.c.now) c.in-Some.is c.in_ok-d.ensures in
    subst (λ s. AreApart s c.args.after.now.items → AreApart s c.add.new.set.items) go.1 c.in_ok-add-in-Some.ensures.apart

pub returns-in_err-add-in-Some-clause-many : goal.returns-in_err-add-in-Some-clause-many
returns-in_err-add-in-Some-clause-many c =
    let p = err_from_is_err_and c.from_residual-in_err-add-in-Some.result c.from_residual-in_err-add-in-Some.ensures.1 in
    let go : IsLetGo c.args.asked c.args.c.now (Some c.in-Some.d) = subst (IsLetGo c.args.asked c.args.c.now) c.in-Some.is c.in_ok-d.ensures in
    rw (p.1, p.2) (λ is apart. covered_many c.args.most c.args.c.now c.in-Some.d c.args.after.now.items go.0 (c.in_err-add-in-Some.ensures.many is (subst (λ s. AreApart s c.args.after.now.items) (sym go.1) apart)))
