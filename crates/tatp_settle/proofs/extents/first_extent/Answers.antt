use Rattle.std.proofs.Common.{◌≤◌, ℕ, arith, rules, tests}
use Rattle.std.proofs.lemmas.Iterator.{first_from_Range, serves_from_Range}
use Rattle.tatp_settle.specs.Runs.{shown}
use Rattle.tatp_settle.specs.ExtentTests.{IsExtentCause}
use Rattle.tatp_settle.proofs.SearchLaws.{first_number}
use Rattle.tatp_settle.proofs.BeyondLaws.{not_beyond}
use Rattle.tatp_settle.proofs.extents.first_extent.Goals as goal

pub find-requires : goal.find-requires
find-requires c = record { can = tt; finite = tt; callable = serves_from_Range (λ x q k. search (rules, tests)) (λ x low high. search rules) }

-- no number above all is one of a cause
beyond : (c : goal.After-find) (e : ℕ) → c.log_count.result ≤ e → IsExtentCause c.args.cause (shown c.args.run.now) e → ⊥
beyond c e l =
    let least = c.log_count.ensures.least in
    not_beyond c.args.cause (shown c.args.run.now) e c.what_holds.ensures (omega (arith, l, least)) (c.log_count.ensures.extents e l)

pub returns : goal.returns
returns c =
    let P : ℕ → Type 0 = IsExtentCause c.args.cause (shown c.args.run.now) in
    first_number P c.log_count.result c.find.result (beyond c)
    (first_from_Range _ _ _ _ P (λ e. P e → ⊥) c.find.ensures.ran (λ x q k. search (rules, tests)) (λ x q k. (search rules, search (rules, tests))))
