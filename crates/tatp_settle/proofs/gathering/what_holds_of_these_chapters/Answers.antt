use Rattle.std.proofs.Common.{All, subst}
use Rattle.std.proofs.lemmas.List.{take_all}
use Rattle.std.proofs.lemmas.List.Elements.{All-more}
use Rattle.tatp_extents.specs.Chapters.{IsChapter}
use Rattle.tatp_settle.proofs.gathering.what_holds_of_these_chapters.Goals as goal

pub chapters-preserved : goal.chapters-preserved
chapters-preserved c = All-more IsChapter c.args.chapters.now c.chapters.chapter-index c.chapter-item.result c.chapters-test.true c.chapters.invariant (subst IsChapter c.chapter-item.is c.what_holds_of_every_chapter.ensures)

pub returns : goal.returns
returns c = subst (All IsChapter) (take_all c.chapters.chapter-index c.args.chapters.now c.chapters-test.false) c.chapters.invariant
