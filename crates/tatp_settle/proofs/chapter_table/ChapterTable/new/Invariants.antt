use Rattle.std.proofs.Common.{take}
use Rattle.tatp_settle.proofs.ChapterTableLaws.{AreListed}
use Rattle.tatp_settle.proofs.chapter_table.ChapterTable.new.Given as goal

abbrev pub invariant-chapters : goal.invariant-chapters
invariant-chapters l = AreListed l.closed l.table l.twice (take l.chapter-index l.closed.chapters)
