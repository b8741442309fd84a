use Rattle.std.proofs.Common.{All, take}
use Rattle.tatp_extents.specs.Chapters.{IsChapter}
use Rattle.tatp_settle.proofs.gathering.what_holds_of_these_chapters.Given as goal

abbrev pub invariant-chapters : goal.invariant-chapters
invariant-chapters l = All IsChapter (take l.chapter-index l.chapters)
