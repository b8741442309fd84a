use Rattle.std.proofs.Common.{arith}
use Rattle.tatp_settle.specs.Causes.{IsChapterMissing}
use Rattle.tatp_settle.proofs.SearchLaws.{none_of_one, first_of_one, none_of_all}
use Rattle.tatp_settle.proofs.ChapterTableLaws.{none_missing_beyond}
use Rattle.tatp_settle.proofs.chapter_table.ChapterTable.first_missing.Goals as goal

pub returns-in-Some : goal.returns-in-Some
returns-in-Some c = first_of_one (IsChapterMissing c.args.self.now) c.extents.extent c.in-Some.index c.extents.invariant c.in-Some.ensures

pub extents-preserved : goal.extents-preserved
extents-preserved c = none_of_one (IsChapterMissing c.args.self.now) c.extents.extent c.extents.invariant c.in_default.ensures

pub returns : goal.returns
returns c = none_of_all (IsChapterMissing c.args.self.now) c.extents.extent c.extents.invariant (λ e i l. none_missing_beyond c.args.self.now e i (let past = c.extents-test.false in c.count-extent-end.ensures.beyond e (omega (arith, l, past))))
