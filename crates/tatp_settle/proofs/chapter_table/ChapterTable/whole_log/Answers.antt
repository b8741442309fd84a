use Rattle.std.proofs.Common.{◌<◌, ◌++◌, ◌∙◌, Some, None, sym, ap, arith}
use Rattle.std.specs.Option.{option_copied}
use Rattle.std.proofs.lemmas.List.{append-nil}
use Rattle.tatp_settle.specs.Closings.{chapter_count}
use Rattle.tatp_settle.proofs.ChapterTableLaws.{joined_more}
use Rattle.tatp_settle.proofs.chapter_table.ChapterTable.whole_log.Goals as goal
use Rattle.tatp_settle.proofs.chapter_table.ChapterTable.whole_log.Goals.{in-Some+in_ok-push, in_default}

pub chapters-preserved : goal.chapters-preserved
chapters-preserved c =
    let l : c.chapters.index < chapter_count c.args.self.now c.args.number = (let test = c.chapters-test.true in let count = c.chapter_count-index-end.ensures in omega (arith, test, count)) in
    elim c.match-chapter.branch [
      | in-Some+in_ok-push w ↦ rw w.log-is (
          w.in_ok-push.ensures
          ∙ ((λ i. c.chapters.invariant i ++ w.entries.ensures i)
          ∙ sym (joined_more c.args.self.now c.args.number c.chapters.index (Some w.in-Some.chapter.now) l (sym (ap option_copied w.in-Some.is) ∙ c.chapter.ensures)))
          )
      | in_default w ↦ rw w.log-is (
          c.chapters.invariant
          ∙ (sym (append-nil _)
          ∙ sym (joined_more c.args.self.now c.args.number c.chapters.index None l (sym (ap option_copied w.in_default.is) ∙ c.chapter.ensures)))
          )
    ]
