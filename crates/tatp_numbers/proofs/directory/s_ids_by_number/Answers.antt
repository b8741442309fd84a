use Rattle.std.proofs.Common.{sym, ◌∙◌, ap, subst, ◌≡◌, ◌==◌, [], slice_index, slice_index_or, take, cond, Option, Some, None, ℕ}
use Rattle.std.proofs.lemmas.List.{get_or_default, take_all}
use Rattle.tatp_numbers.specs.Lists.{s_id_at, NumbersStandOnce}
use Rattle.tatp_numbers.proofs.NumberLaws.{one_more, differ_more, repeats}
use Rattle.tatp_numbers.proofs.directory.s_ids_by_number.Goals as goal

pub returns-in-Some-clause-twice : goal.returns-in-Some-clause-twice
returns-in-Some-clause-twice c = λ _.
    let rows = c.args.rows.now in
    let i = c.loop-row.row-index in
    let row = slice_index_or rows i [] in
    let found : s_id_at (take i rows) (slice_index row 1) ≡ Some c.in-Some.field-0 = sym (c.loop-row.invariant.found (slice_index row 1)) ∙ sym c.in_ok-insert.ensures.old ∙ c.in-Some.is in
    repeats rows i row c.in-Some.field-0 c.loop-row-test.true (get_or_default rows i [] row c.loop-row-test.true) found

pub loop-row-preserved : goal.loop-row-preserved
loop-row-preserved c =
    let rows = c.args.rows.now in
    let i = c.loop-row.row-index in
    let row = slice_index_or rows i [] in
    let lt = c.loop-row-test.true in
    let is = get_or_default rows i [] row lt in
    let none : s_id_at (take i rows) (slice_index row 1) ≡ None = sym (c.loop-row.invariant.found (slice_index row 1)) ∙ sym c.in_ok-insert.ensures.old ∙ c.in_default.is in
    record {
      found = λ n. c.in_ok-insert.ensures.updates.0 n ∙ ap (λ (o : Option ℕ). cond (slice_index row 1 == n) (Some (slice_index row 0)) o) (c.loop-row.invariant.found n)
          ∙ sym (one_more rows i row n lt is none);
      differ = differ_more rows i row lt is none c.loop-row.invariant.differ;
    }

pub returns-clause-once : goal.returns-clause-once
returns-clause-once c = subst NumbersStandOnce (take_all c.loop-row.row-index c.args.rows.now c.loop-row-test.false) c.loop-row.invariant.differ

pub returns-clause-found : goal.returns-clause-found
returns-clause-found c = λ n. c.loop-row.invariant.found n ∙ ap (λ xs. s_id_at xs n) (take_all c.loop-row.row-index c.args.rows.now c.loop-row-test.false)
