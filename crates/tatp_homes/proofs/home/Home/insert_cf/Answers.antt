use Rattle.std.proofs.Common.{◌≡◌, ℕ, Bool, List, [], ◌∷◌, Option, Some, None, length, rules, ap, sym, ◌∙◌, is_some, slice_get, slice_index, slice_index_or}
use Rattle.std.proofs.lemmas.List.{get_or_default}
use Rattle.tatp_tables.specs.Tuples.{Tuple}
use Rattle.tatp_homes.specs.Home.{SubscriberRows}
use Rattle.tatp_homes.specs.Changes.{parent_of, forwarding_key, insert_rows_at, delete_tables}
use Rattle.tatp_homes.specs.Cells.{tables_in, StandAt, forwarding_keys}
use Rattle.tatp_homes.proofs.CellLaws.{place_within}
use Rattle.tatp_homes.proofs.UndoLaws.{insert-back}
use Rattle.tatp_homes.proofs.StorageLaws.{insert_refused, insert_forwarding}
use Rattle.tatp_homes.proofs.home.Home.insert_cf.Goals as goal

-- whether a row stands in a cell, whatever is said past the last one
found : (s : ℕ) (k : List ℕ) (cells : List (Option Tuple)) (i : ℕ) (other : Option Tuple) (is : Bool) → StandAt s forwarding_keys cells → slice_get forwarding_keys i ≡ Some k → is ≡ is_some (slice_index_or cells i other)
    → is_some (slice_index_or cells i None) ≡ is
found s k cells i other is all e h = ap is_some (get_or_default cells i None other (place_within s k forwarding_keys cells i all e)) ∙ sym h

pub returns-then-is_some-clause-answer : goal.returns-then-is_some-clause-answer
returns-then-is_some-clause-answer c =
    let long : length c.args.row ≡ 5 = search rules in
    let f = c.self.inside in
    let parent = ap (λ (h : SubscriberRows). is_some (parent_of h.tables c.args.row)) c.self.view_is ∙ sym c.has_facility.ensures ∙ c.if-not-has_facility.false in
    rw (← c.self.view_is) (sym (insert_refused f.s_id f.subscriber f.accesses f.facilities f.forwardings c.args.row c.in-Some.place c.self.invariant long (sym c.in-Some.ensures.domain) parent c.in-Some.ensures.some
    (found f.s_id (slice_index c.args.row 1 ∷ slice_index c.args.row 2 ∷ []) f.forwardings c.in-Some.place c.index-self-place.result c.is_some.result c.self.invariant.forwarding_places c.in-Some.ensures.some c.is_some.ensures ∙ c.if-is_some.true)))

pub returns-then-is_some-clause-tables : goal.returns-then-is_some-clause-tables
returns-then-is_some-clause-tables c =
    let long : length c.args.row ≡ 5 = search rules in
    let f = c.self.inside in
    let parent = ap (λ (h : SubscriberRows). is_some (parent_of h.tables c.args.row)) c.self.view_is ∙ sym c.has_facility.ensures ∙ c.if-not-has_facility.false in
    rw (← c.self.view_is) (sym (ap (λ answer. record (tables_in f.subscriber f.accesses f.facilities f.forwardings) { forwardings = insert_rows_at (tables_in f.subscriber f.accesses f.facilities f.forwardings).forwardings c.args.row answer })
    (insert_refused f.s_id f.subscriber f.accesses f.facilities f.forwardings c.args.row c.in-Some.place c.self.invariant long (sym c.in-Some.ensures.domain) parent c.in-Some.ensures.some
    (found f.s_id (slice_index c.args.row 1 ∷ slice_index c.args.row 2 ∷ []) f.forwardings c.in-Some.place c.index-self-place.result c.is_some.result c.self.invariant.forwarding_places c.in-Some.ensures.some c.is_some.ensures ∙ c.if-is_some.true))))

pub invariant_of-self : goal.invariant_of-self
invariant_of-self c =
    let long : length c.args.row ≡ 5 = search rules in
    let f = c.self.inside in
    let parent = ap (λ (h : SubscriberRows). is_some (parent_of h.tables c.args.row)) c.self.view_is ∙ sym c.has_facility.ensures ∙ c.if-not-has_facility.false in
    rw c.of.ensures (insert_forwarding f.s_id f.subscriber f.accesses f.facilities f.forwardings c.args.row c.in-Some.place c.self.invariant long (sym c.in-Some.ensures.domain) parent c.in-Some.ensures.some
    (found f.s_id (slice_index c.args.row 1 ∷ slice_index c.args.row 2 ∷ []) f.forwardings c.in-Some.place c.index-self-place.result c.is_some.result c.self.invariant.forwarding_places c.in-Some.ensures.some c.is_some.ensures ∙ c.if-is_some.false)).cells

pub returns-clause-answer : goal.returns-clause-answer
returns-clause-answer c =
    let long : length c.args.row ≡ 5 = search rules in
    let f = c.self.inside in
    let parent = ap (λ (h : SubscriberRows). is_some (parent_of h.tables c.args.row)) c.self.view_is ∙ sym c.has_facility.ensures ∙ c.if-not-has_facility.false in
    rw (← c.self.view_is) (sym (insert_forwarding f.s_id f.subscriber f.accesses f.facilities f.forwardings c.args.row c.in-Some.place c.self.invariant long (sym c.in-Some.ensures.domain) parent c.in-Some.ensures.some
    (found f.s_id (slice_index c.args.row 1 ∷ slice_index c.args.row 2 ∷ []) f.forwardings c.in-Some.place c.index-self-place.result c.is_some.result c.self.invariant.forwarding_places c.in-Some.ensures.some c.is_some.ensures ∙ c.if-is_some.false)).answer)

pub returns-clause-tables : goal.returns-clause-tables
returns-clause-tables c =
    let long : length c.args.row ≡ 5 = search rules in
    let f = c.self.inside in
    let parent = ap (λ (h : SubscriberRows). is_some (parent_of h.tables c.args.row)) c.self.view_is ∙ sym c.has_facility.ensures ∙ c.if-not-has_facility.false in
    rw (← c.self.view_is, c.of.ensures) (insert_forwarding f.s_id f.subscriber f.accesses f.facilities f.forwardings c.args.row c.in-Some.place c.self.invariant long (sym c.in-Some.ensures.domain) parent c.in-Some.ensures.some
    (found f.s_id (slice_index c.args.row 1 ∷ slice_index c.args.row 2 ∷ []) f.forwardings c.in-Some.place c.index-self-place.result c.is_some.result c.self.invariant.forwarding_places c.in-Some.ensures.some c.is_some.ensures ∙ c.if-is_some.false)).tables

pub returns-clause-back : goal.returns-clause-back
returns-clause-back c =
    let long : length c.args.row ≡ 5 = search rules in
    ap (λ u. delete_tables u (forwarding_key c.args.row)) (returns-clause-tables c) ∙ insert-back c.args.self.now.tables c.args.row long (sym (returns-clause-answer c))
