use Rattle.std.proofs.Common.{◌≡◌, Bool, true, false, not, Decides, refl, sym, subst, arith}
use Rattle.tatp_settle.specs.Causes.{IsChapterMissing}
use Rattle.tatp_settle.proofs.ChapterTableLaws.{missing_is}
use Rattle.tatp_settle.proofs.chapter_table.ChapterTable.is_missing.Goals as goal

flipped : (a b : Bool) → a ≡ not b → b ≡ not a
flipped true true h = absurd (let k : true ≡ false = h in cc)
flipped true false h = refl
flipped false true h = refl
flipped false false h = absurd (let k : false ≡ true = h in cc)

pub returns-then-index-chapter_count : goal.returns-then-index-chapter_count
returns-then-index-chapter_count c =
    let l = c.if-index-chapter_count.true in
    let count = c.chapter_count.ensures in
    subst (λ b. Decides b (IsChapterMissing c.args.self.now c.args.number c.args.index)) (sym (flipped _ c.is_none.result c.is_none.ensures))
    (missing_is c.args.self.now c.args.number c.args.index c.chapter.result (omega (arith, l, count)) c.chapter.ensures)
