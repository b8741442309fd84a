use Rattle.std.proofs.Common.{◌≡◌, ℕ, Option, Some, None, arith, rules, tests}
use Rattle.std.proofs.lemmas.Iterator.{first_from_Range, serves_from_Range}
use Rattle.tatp_calls.specs.declared.ask.Ask.{Ask}
use Rattle.tatp_logs.specs.declared.receipt.Receipt.{Receipt}
use Rattle.tatp_logs.specs.Receipts.{receipts_of}
use Rattle.tatp_settle.specs.Answering.{AreMatched}
use Rattle.tatp_settle.specs.Causes.{IsUnmatched}
use Rattle.tatp_logs.specs.Lists.{lists_of}
use Rattle.tatp_settle.proofs.SearchLaws.{first_number}
use Rattle.tatp_settle.proofs.unmatched_calls.Unmatched.unmatched_of.Goals as goal

pub find-requires : goal.find-requires
find-requires c = record { can = tt; finite = tt; callable = serves_from_Range (λ x q k. search (rules, tests)) (λ x low high. search rules) }

-- where neither is there
neither : (client number : ℕ) (ask : Option Ask) (receipt : Option Receipt) → ask ≡ None → receipt ≡ None → (AreMatched client number ask receipt → ⊥) → ⊥
neither client number None None a r h = h tt
neither client number (Some x) receipt a r h = absurd cc
neither client number None (Some x) a r h = absurd cc

pub returns : goal.returns
returns c =
    let P : ℕ → Type 0 = IsUnmatched (lists_of c.args.self.now.calls.now) (receipts_of c.args.self.now.receipts.now) c.args.client in
    first_number P c.max-count.result c.find.result (λ n l. neither _ _ _ _ (c.len_of.ensures.beyond n (omega (arith, l))) (c.receipts_len.ensures.beyond n (omega (arith, l))))
    (first_from_Range _ _ _ _ P (λ n. P n → ⊥) c.find.ensures.ran (λ x q k. search (rules, tests)) (λ x q k. (search rules, search (rules, tests))))
