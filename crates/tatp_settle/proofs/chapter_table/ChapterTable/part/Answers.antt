use Rattle.std.proofs.Common.{◌∙◌, Some, sym, ap, arith}
use Rattle.std.specs.Option.{option_copied}
use Rattle.tatp_settle.proofs.ChapterTableLaws.{chapter_before, chapter_entries}
use Rattle.tatp_settle.proofs.chapter_table.ChapterTable.part.Goals as goal

pub returns-then-index-chapter_count : goal.returns-then-index-chapter_count
returns-then-index-chapter_count c =
    let l = c.if-index-chapter_count.true in
    let count = c.chapter_count.ensures in
    record {
      before = ap Some c.before-then-index-chapter_count.ensures ∙ chapter_before c.args.self.now c.args.number c.args.index (Some c.in_ok-chapter.chapter.now) (omega (arith, l, count)) (sym (ap option_copied c.in_ok-chapter.was) ∙ c.chapter.ensures);
      entries = c.entries.ensures ∙ chapter_entries c.args.self.now c.args.number c.args.index (Some c.in_ok-chapter.chapter.now) (omega (arith, l, count)) (sym (ap option_copied c.in_ok-chapter.was) ∙ c.chapter.ensures);
    }
