use Rattle.std.proofs.Common.{◌≡◌, length, rules, ap, subst, sym, ◌∙◌, None, slice_index_or, ◌-◌}
use Rattle.tatp_homes.specs.Home.{SubscriberRows, IsHome}
use Rattle.tatp_homes.specs.Changes.{put_answer_at}
use Rattle.tatp_homes.specs.Cells.{tables_in}
use Rattle.tatp_homes.proofs.StorageLaws.{put_answer-found, current_forwarding, put_forwarding, put_undone}
use Rattle.tatp_tables.specs.declared.table.Table.TheVariants.{CallForwarding}
use Rattle.tatp_homes.proofs.home.Home.put_in_forwarding.Goals as goal

pub invariant_of-self : goal.invariant_of-self
invariant_of-self c =
    let long : length c.args.key ≡ 3 = search rules in
    let f = c.self.inside in
    let own = c.in-Some.ensures.own ∙ sym (ap (λ (h : SubscriberRows). h.s_id) c.self.view_is) in
    rw (c.put_forwarding.ensures.cells, c.first_column.ensures, c.in_domain-fits.ensures)
    (put_forwarding f.s_id f.subscriber f.accesses f.facilities f.forwardings c.args.column c.args.key c.args.value c.in-Some.place c.self.invariant c.requires.table c.requires.free long own c.in-Some.ensures.place).cells

pub returns-clause-answer : goal.returns-clause-answer
returns-clause-answer c =
    let long : length c.args.key ≡ 3 = search rules in
    let f = c.self.inside in
    let own = c.in-Some.ensures.own ∙ sym (ap (λ (h : SubscriberRows). h.s_id) c.self.view_is) in
    rw (← c.self.view_is) (c.put_forwarding.ensures.answer
    ∙ ap (λ first. put_answer_at (c.args.column - first) c.in_domain-fits.result (slice_index_or f.forwardings c.in-Some.place None)) c.first_column.ensures
    ∙ ap (λ fits. put_answer_at (c.args.column - 46) fits (slice_index_or f.forwardings c.in-Some.place None)) c.in_domain-fits.ensures
    ∙ sym (put_answer-found CallForwarding (tables_in f.subscriber f.accesses f.facilities f.forwardings) c.args.column c.args.key c.args.value _ c.requires.table
    (current_forwarding f.s_id f.subscriber f.accesses f.facilities f.forwardings c.in-Some.place c.args.key long own c.self.invariant.forwarding_places c.in-Some.ensures.place)))

pub returns-clause-tables : goal.returns-clause-tables
returns-clause-tables c =
    let long : length c.args.key ≡ 3 = search rules in
    let f = c.self.inside in
    let own = c.in-Some.ensures.own ∙ sym (ap (λ (h : SubscriberRows). h.s_id) c.self.view_is) in
    rw (← c.self.view_is, c.put_forwarding.ensures.cells, c.first_column.ensures, c.in_domain-fits.ensures)
    (put_forwarding f.s_id f.subscriber f.accesses f.facilities f.forwardings c.args.column c.args.key c.args.value c.in-Some.place c.self.invariant c.requires.table c.requires.free long own c.in-Some.ensures.place).tables

pub returns-clause-back : goal.returns-clause-back
returns-clause-back c =
    let long : length c.args.key ≡ 3 = search rules in
    put_undone c.args.self.now c.args.column c.args.key c.args.value c.put_forwarding.result _ (subst IsHome c.self.view_is c.self.invariant.home) c.requires.free c.requires.column long
    (returns-clause-answer c) (returns-clause-tables c)
