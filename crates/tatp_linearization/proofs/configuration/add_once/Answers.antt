use Rattle.std.proofs.Common.{List, refl, sym, ◌∙◌, subst, arith, true≢false}
use Rattle.tatp_linearization.specs.declared.configuration.Configuration.{Configuration as Held}
use Rattle.tatp_linearization.specs.Held.{Has, AreApart, seen}
use Rattle.tatp_linearization.proofs.HeldLaws.{added_pushed, own_more, one_too_many}
use Rattle.tatp_linearization.proofs.configuration.add_once.Goals as goal

pub returns-clause-added : goal.returns-clause-added
returns-clause-added c = added_pushed c.args.set.now.items c.push.new.self.items c.args.d c.in_ok-push.ensures.items

pub returns-clause-apart : goal.returns-clause-apart
returns-clause-apart c = λ apart.
    subst (AreApart c.args.d.home.s_id) (sym c.in_ok-push.ensures.items)
    (own_more c.args.d.home.s_id c.args.set.now.items c.args.d apart refl (λ has.
    true≢false (sym (c.is_among.ensures.other (subst (AreApart c.args.d.home.s_id) (sym c.as_slice.ensures.value) apart) (subst (λ (cs : List Held). Has cs (seen c.args.d)) (sym c.as_slice.ensures.value) has)) ∙ c.if-is_among.false)))

pub returns-then-len-most-clause-many : goal.returns-then-len-most-clause-many
returns-then-len-most-clause-many c = λ is apart.
    one_too_many c.args.most c.args.d.home.s_id c.args.set.now.items c.args.d (omega (arith, c.if-len-most.true, c.len.ensures, c.args.set.now.ok.0)) apart (λ has.
    true≢false (sym (c.is_among.ensures.other (subst (AreApart c.args.d.home.s_id) (sym c.as_slice.ensures.value) apart) (subst (λ (cs : List Held). Has cs (seen c.args.d)) (sym c.as_slice.ensures.value) has)) ∙ c.if-is_among.false))
