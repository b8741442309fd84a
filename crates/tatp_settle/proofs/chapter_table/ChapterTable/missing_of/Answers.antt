use Rattle.std.proofs.Common.{◌≤◌, ℕ, arith, rules, tests}
use Rattle.std.proofs.lemmas.Iterator.{first_from_Range, serves_from_Range}
use Rattle.tatp_settle.specs.Causes.{IsChapterMissing}
use Rattle.tatp_settle.proofs.SearchLaws.{first_number}
use Rattle.tatp_settle.proofs.chapter_table.ChapterTable.missing_of.Goals as goal

pub find-requires : goal.find-requires
find-requires c = record { can = tt; finite = tt; callable = serves_from_Range (λ x q k. search (rules, tests)) (λ x low high. search rules) }

beyond : (c : goal.After-find) (i : ℕ) → c.chapter_count.result ≤ i → IsChapterMissing c.args.self.now c.args.number i → ⊥
beyond c i l m = let within = m.handed_out in let count = c.chapter_count.ensures in omega (arith, l, within, count)

pub returns : goal.returns
returns c =
    let P : ℕ → Type 0 = IsChapterMissing c.args.self.now c.args.number in
    first_number P c.chapter_count.result c.find.result (beyond c)
    (first_from_Range _ _ _ _ P (λ i. P i → ⊥) c.find.ensures.ran (λ x q k. search (rules, tests)) (λ x q k. (search rules, search (rules, tests))))
