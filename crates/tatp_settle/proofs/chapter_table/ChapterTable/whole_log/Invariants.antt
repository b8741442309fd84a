use Rattle.std.proofs.Common.{◌≡◌}
use Rattle.tatp_extents.specs.Chapters.{chapters_listed, entries_joined}
use Rattle.tatp_settle.specs.Closings.{chapter_numbered}
use Rattle.tatp_settle.proofs.chapter_table.ChapterTable.whole_log.Given as goal

abbrev pub invariant-chapters : goal.invariant-chapters
invariant-chapters l = l.log ≡ entries_joined (chapters_listed (chapter_numbered l.self l.number) 0 l.index)
