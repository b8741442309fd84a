use Rattle.std.proofs.Common.{ℕ, rules, tests}
use Rattle.std.proofs.lemmas.Iterator.{first_from_Range, serves_from_Range}
use Rattle.tatp_settle.specs.Comparing.{DiffersIn}
use Rattle.tatp_settle.proofs.SearchLaws.{first_number}
use Rattle.tatp_settle.proofs.DifferLaws.{none_differs}
use Rattle.tatp_settle.proofs.differences.Differing.differing_of.Goals as goal

pub find-requires : goal.find-requires
find-requires c = record { can = tt; finite = tt; callable = serves_from_Range (λ x q k. search (rules, tests)) (λ x low high. search rules) }

pub returns : goal.returns
returns c =
    let P : ℕ → Type 0 = DiffersIn c.args.self.now c.args.client in
    first_number P c.receipts_len.result c.find.result (λ n l. none_differs _ _ _ _ c.requires.matched c.requires.placed _ _ (c.receipts_len.ensures.beyond n l))
    (first_from_Range _ _ _ _ P (λ n. P n → ⊥) c.find.ensures.ran (λ x q k. search (rules, tests)) (λ x q k. (search rules, search (rules, tests))))
