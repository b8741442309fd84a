use Rattle.std.proofs.Common.{◌≡◌, length, rules, ap, subst, sym, ◌∙◌}
use Rattle.tatp_homes.specs.Home.{SubscriberRows, IsHome}
use Rattle.tatp_homes.specs.Changes.{delete_answer_at}
use Rattle.tatp_homes.proofs.StorageLaws.{current_forwarding, delete_forwarding, deleted_answer, delete_undone}
use Rattle.tatp_homes.proofs.home.Home.delete_cf.Goals as goal

pub invariant_of-self : goal.invariant_of-self
invariant_of-self c =
    let long : length c.args.key ≡ 3 = search rules in
    let f = c.self.inside in
    let own = c.in-Some.ensures.own ∙ sym (ap (λ (h : SubscriberRows). h.s_id) c.self.view_is) in
    rw c.take_forwarding.ensures.cells
    (delete_forwarding f.s_id f.subscriber f.accesses f.facilities f.forwardings c.args.key c.in-Some.place c.self.invariant long own c.in-Some.ensures.place).cells

pub returns-clause-answer : goal.returns-clause-answer
returns-clause-answer c =
    let long : length c.args.key ≡ 3 = search rules in
    let f = c.self.inside in
    let own = c.in-Some.ensures.own ∙ sym (ap (λ (h : SubscriberRows). h.s_id) c.self.view_is) in
    rw (← c.self.view_is) (c.ok_or.ensures.value ∙ deleted_answer c.take_forwarding.result
    ∙ ap delete_answer_at (c.take_forwarding.ensures.row
    ∙ sym (current_forwarding f.s_id f.subscriber f.accesses f.facilities f.forwardings c.in-Some.place c.args.key long own c.self.invariant.forwarding_places c.in-Some.ensures.place)))

pub returns-clause-tables : goal.returns-clause-tables
returns-clause-tables c =
    let long : length c.args.key ≡ 3 = search rules in
    let f = c.self.inside in
    let own = c.in-Some.ensures.own ∙ sym (ap (λ (h : SubscriberRows). h.s_id) c.self.view_is) in
    rw (← c.self.view_is, c.take_forwarding.ensures.cells)
    (delete_forwarding f.s_id f.subscriber f.accesses f.facilities f.forwardings c.args.key c.in-Some.place c.self.invariant long own c.in-Some.ensures.place).tables

pub returns-clause-back : goal.returns-clause-back
returns-clause-back c = delete_undone c.args.self.now c.args.key c.ok_or.result _ (subst IsHome c.self.view_is c.self.invariant.home) (returns-clause-answer c) (returns-clause-tables c)
