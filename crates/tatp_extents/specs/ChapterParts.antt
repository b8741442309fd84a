-- A chapter's parts.
use Rattle.tatp_extents.specs.Chapters.{ChapterState}
use Rattle.tatp_extents.specs.declared.chapter.ChapterParts.{ChapterParts}

-- the chapter that has these parts
abbrev pub chapter_of_parts : ChapterParts → ChapterState
chapter_of_parts parts = record {
  extent = parts.extent;
  index = parts.index;
  before = parts.before;
  entries = parts.entries.entries;
  after = parts.after;
}
