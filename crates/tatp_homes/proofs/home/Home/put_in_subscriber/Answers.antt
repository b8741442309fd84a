use Rattle.std.proofs.Common.{◌≡◌, ℕ, ◌-◌, length, rules, ap, subst, sym, ◌∙◌, arith, None}
use Rattle.tatp_homes.specs.Home.{IsHome}
use Rattle.tatp_homes.specs.Changes.{put_answer_at}
use Rattle.tatp_tables.specs.Domains.{is_in_domain}
use Rattle.tatp_homes.specs.Cells.{tables_in, put_cell}
use Rattle.tatp_homes.proofs.StorageLaws.{put_answer-found, put_tables-found, current_subscriber, no_current_subscriber, put_subscriber, put_undone}
use Rattle.tatp_tables.specs.declared.table.Table.TheVariants.{Subscriber}
use Rattle.tatp_homes.proofs.home.Home.put_in_subscriber.Goals as goal

pub returns-then-key-self-clause-answer : goal.returns-then-key-self-clause-answer
returns-then-key-self-clause-answer c =
    let long : length c.args.key ≡ 3 = search rules in
    let f = c.self.inside in
    rw (← c.self.view_is) (sym (put_answer-found Subscriber (tables_in f.subscriber f.accesses f.facilities f.forwardings) c.args.column c.args.key c.args.value None c.requires.table
    (no_current_subscriber f.s_id f.subscriber f.accesses f.facilities f.forwardings c.args.key long c.if-key-self.true c.self.invariant.subscriber_place)))

pub returns-then-key-self-clause-tables : goal.returns-then-key-self-clause-tables
returns-then-key-self-clause-tables c =
    let long : length c.args.key ≡ 3 = search rules in
    let f = c.self.inside in
    rw (← c.self.view_is) (sym (put_tables-found Subscriber (tables_in f.subscriber f.accesses f.facilities f.forwardings) c.args.column c.args.key c.args.value None c.requires.table
    (no_current_subscriber f.s_id f.subscriber f.accesses f.facilities f.forwardings c.args.key long c.if-key-self.true c.self.invariant.subscriber_place)))

no_less : (n : ℕ) → n ≡ n - 0
no_less n = omega arith

pub invariant_of-self : goal.invariant_of-self
invariant_of-self c =
    let long : length c.args.key ≡ 3 = search rules in
    let f = c.self.inside in
    rw (c.put_subscriber.ensures.cell, c.in_domain-fits.ensures)
    (put_subscriber f.s_id f.subscriber f.accesses f.facilities f.forwardings c.args.column c.args.key c.args.value c.self.invariant c.requires.table c.requires.free long c.if-key-self.false).cells

pub returns-clause-answer : goal.returns-clause-answer
returns-clause-answer c =
    let long : length c.args.key ≡ 3 = search rules in
    let f = c.self.inside in
    rw (← c.self.view_is) (c.put_subscriber.ensures.answer
    ∙ ap (λ fits. put_answer_at c.args.column fits f.subscriber) c.in_domain-fits.ensures
    ∙ ap (λ place. put_answer_at place (is_in_domain c.args.column c.args.value) f.subscriber) (no_less c.args.column)
    ∙ sym (put_answer-found Subscriber (tables_in f.subscriber f.accesses f.facilities f.forwardings) c.args.column c.args.key c.args.value f.subscriber c.requires.table
    (current_subscriber f.s_id f.subscriber f.accesses f.facilities f.forwardings c.args.key long c.if-key-self.false c.self.invariant.subscriber_place)))

pub returns-clause-tables : goal.returns-clause-tables
returns-clause-tables c =
    let long : length c.args.key ≡ 3 = search rules in
    let f = c.self.inside in
    let cell = c.put_subscriber.ensures.cell ∙ ap (λ fits. put_cell c.args.column fits c.args.value f.subscriber) c.in_domain-fits.ensures in
    rw (← c.self.view_is) (ap (λ o. tables_in o f.accesses f.facilities f.forwardings) cell
    ∙ (put_subscriber f.s_id f.subscriber f.accesses f.facilities f.forwardings c.args.column c.args.key c.args.value c.self.invariant c.requires.table c.requires.free long c.if-key-self.false).tables)

pub returns-clause-back : goal.returns-clause-back
returns-clause-back c =
    let long : length c.args.key ≡ 3 = search rules in
    put_undone c.args.self.now c.args.column c.args.key c.args.value c.put_subscriber.result _ (subst IsHome c.self.view_is c.self.invariant.home) c.requires.free c.requires.column long
    (returns-clause-answer c) (returns-clause-tables c)
