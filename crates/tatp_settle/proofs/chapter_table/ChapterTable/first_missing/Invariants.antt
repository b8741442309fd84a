use Rattle.tatp_settle.specs.Causes.{IsChapterMissing}
use Rattle.tatp_settle.proofs.SearchLaws.{ClearBefore}
use Rattle.tatp_settle.proofs.chapter_table.ChapterTable.first_missing.Given as goal

abbrev pub invariant-extents : goal.invariant-extents
invariant-extents l = ClearBefore (IsChapterMissing l.self) l.extent
