use Rattle.std.proofs.Common.{◌≡◌, ◌+◌, ◌∷◌, ◌++◌, [], Bor, List, Option, None, get_or, length, take, refl, sym, ◌∙◌, ap, subst, arith}
use Rattle.std.proofs.lemmas.List.{take_more, take_all}
use Rattle.tatp_extents.specs.Chapters.{ChapterState}
use Rattle.tatp_settle.proofs.ChapterTableLaws.{AreListed, none_listed, put_listed, left_listed, all_listed, first_twice}
use Rattle.tatp_settle.proofs.chapter_table.ChapterTable.new.Goals as goal
use Rattle.tatp_settle.proofs.chapter_table.ChapterTable.new.Goals.{then-not-put, else-not-put}

pub chapters-init : goal.chapters-init
chapters-init c = subst (λ (table : List (List (Option (Bor ChapterState)))). AreListed c.args.closed.now table None []) (sym c.in_ok-table.ensures) (none_listed c.args.closed.now c.what_holds.ensures)

pub chapters-preserved : goal.chapters-preserved
chapters-preserved c =
    let xs : List ChapterState = c.args.closed.now.chapters in
    let long = ap length c.chapters-chapter-items.ensures in
    let more : take (c.chapters.chapter-index + 1) xs ≡ take c.chapters.chapter-index xs ++ c.chapter-item.result ∷ [] = (let test = c.chapters-test.true in
    take_more xs c.chapters.chapter-index c.chapter-item.result (omega (arith, test, long)) ∙ ap (λ (x : ChapterState). take c.chapters.chapter-index xs ++ x ∷ []) (sym (c.chapter-item.is ∙ ap (λ (ys : List ChapterState). get_or ys c.chapters.chapter-index c.chapter-item.result) c.chapters-chapter-items.ensures))) in
    subst (λ (ys : List ChapterState). AreListed c.args.closed.now c.put.new.self c.if-not-put.twice ys) (sym more) (elim c.if-not-put.branch [
      | then-not-put w ↦ rw w.twice-is
          (left_listed c.args.closed.now (take c.chapters.chapter-index xs) c.chapter-item.result c.extent.result c.index.result (sym c.extent.ensures) (sym c.index.ensures) c.chapters.table c.put.new.self c.chapters.twice c.chapters.invariant
          w.if-not-put.ensures.len w.lesser_chapter-twice.result w.if-not-put.ensures.puts.0 w.if-not-put.ensures.puts.1 w.lesser_chapter-twice.ensures.keeps w.lesser_chapter-twice.ensures.at w.lesser_chapter-twice.ensures.is)
      | else-not-put w ↦ rw w.twice-is
          (put_listed c.args.closed.now (take c.chapters.chapter-index xs) c.chapter-item.result c.extent.result c.index.result (sym c.extent.ensures) (sym c.index.ensures) c.chapters.table c.put.new.self c.chapters.twice c.chapters.invariant
          w.if-not-put.ensures.len w.if-not-put.ensures.puts.0 w.if-not-put.ensures.puts.1 w.if-not-put.ensures.puts.2 refl)
    ])

-- all chapters are seen
all : (c : goal.After-chapters) → AreListed c.args.closed.now c.chapters.table c.chapters.twice c.args.closed.now.chapters
all c =
    let xs : List ChapterState = c.args.closed.now.chapters in
    let long = ap length c.chapters-chapter-items.ensures in
    let past = c.chapters-test.false in
    subst (λ (ys : List ChapterState). AreListed c.args.closed.now c.chapters.table c.chapters.twice ys) (take_all c.chapters.chapter-index xs (omega (arith, past, long))) c.chapters.invariant

pub returns-clause-twice : goal.returns-clause-twice
returns-clause-twice c = first_twice c.args.closed.now c.chapters.table c.chapters.twice (all c)

pub invariant_of-result : goal.invariant_of-result
invariant_of-result c = all_listed c.args.closed.now c.chapters.table c.chapters.twice (all c)
