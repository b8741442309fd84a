use Rattle.std.proofs.Common.{sym, arith}
use Rattle.tatp_settle.proofs.PopulatedLaws.{first_beyond, first_is_piece}
use Rattle.tatp_settle.proofs.joins.homes_at_first.Goals as goal

pub returns-then-number-extent_count : goal.returns-then-number-extent_count
returns-then-number-extent_count c = λ population is.
    let l = c.if-number-extent_count.true in
    let count = c.extent_count.ensures in
    sym (first_beyond c.args.homes.now population c.args.number is (omega (arith, l, count)))

pub returns : goal.returns
returns c = λ population is.
    let l = c.if-number-extent_count.false in
    let count = c.extent_count.ensures in
    sym (first_is_piece c.args.homes.now population c.args.number c.min.result is (omega arith) (omega (arith, l, count)) c.min.ensures)
