use Rattle.std.proofs.Common.{◌≡◌, ℕ, None, ◌∷◌, ◌++◌, [], map, replicate, sym, ◌∙◌, ap, arith}
use Rattle.std.specs.List.{range_with_len}
use Rattle.tatp_settle.specs.Closings.{least_above}
use Rattle.tatp_settle.proofs.ChapterTableLaws.{empty_row, empty_more}
use Rattle.tatp_settle.proofs.chapter_table.empty_table.Goals as goal

pub numbers-preserved : goal.numbers-preserved
numbers-preserved c =
    c.in_ok-add_row.ensures
    ∙ ((λ i. c.numbers.invariant i ++ replicate (c.chapter_count.ensures i) None ∷ [])
    ∙ sym (empty_more c.args.closed.now c.numbers.number))

pub returns : goal.returns
returns c =
    let all : c.numbers.number ≡ least_above c.args.closed.now = (let past = c.numbers-test.false in let end = c.log_count-number-end.ensures.value in omega (arith, past, end)) in
    c.numbers.invariant ∙ ap (λ (n : ℕ). map (empty_row c.args.closed.now) (range_with_len 0 n)) all
