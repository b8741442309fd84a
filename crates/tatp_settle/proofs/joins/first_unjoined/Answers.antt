use Rattle.std.proofs.Common.{arith}
use Rattle.tatp_settle.specs.Causes.{IsUnjoined}
use Rattle.tatp_settle.proofs.PopulatedLaws.{first_beyond}
use Rattle.tatp_settle.proofs.SearchLaws.{none_of_all}
use Rattle.tatp_settle.proofs.UnjoinedLaws.{none_unjoined_beyond}
use Rattle.tatp_settle.proofs.joins.first_unjoined.Goals as goal

pub returns : goal.returns
returns c = λ population is.
    none_of_all (IsUnjoined population c.args.chapters.now) c.extents.extent (c.extents.invariant population is) (λ e i l.
    let past = c.extents-test.false in
    let most = c.max-count.ensures in
    let count = c.extent_count.ensures in
    none_unjoined_beyond population c.args.chapters.now e i (c.count.ensures.beyond e (omega (arith, l, past, most))) (first_beyond c.args.homes.now population e is (omega (arith, l, past, most, count))))
