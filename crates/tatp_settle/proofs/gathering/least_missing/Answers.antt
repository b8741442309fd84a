use Rattle.std.proofs.Common.{◌≡◌, ℕ, [], rules, tests}
use Rattle.std.proofs.lemmas.Iterator.{first_from_Range, serves_from_Range}
use Rattle.tatp_settle.specs.CallPlaces.{IsFirstNumber}
use Rattle.tatp_settle.specs.Closings.{closed_of, times_standing, IsMissing}
use Rattle.tatp_settle.proofs.ClosingLaws.{are_closed_sites}
use Rattle.tatp_settle.proofs.MissingLaws.{missing_first, missing_some, missing_none}
use Rattle.tatp_settle.proofs.gathering.least_missing.Goals as goal

pub find-requires : goal.find-requires
find-requires c = record { can = tt; finite = tt; callable = serves_from_Range (λ x q k. search (rules, tests)) (λ x low high. search rules) }

-- the first that is missing
first : (c : goal.After-find) → IsFirstNumber (IsMissing (closed_of c.args.sites.now c.args.parcels.now [])) c.find.result
first c =
    let P : ℕ → Type 0 = λ (e : ℕ). times_standing (closed_of c.args.sites.now c.args.parcels.now []) e ≡ 0 in
    missing_first (closed_of c.args.sites.now c.args.parcels.now []) c.greatest_number-greatest.result c.find.result (c.greatest_number-greatest.ensures c.args.parcels.now [])
    (first_from_Range _ _ _ _ P (λ e. P e → ⊥) c.find.ensures.ran (λ x q k. search (rules, tests)) (λ x q k. (search rules, search (rules, tests))))

pub returns-clause-sound : goal.returns-clause-sound
returns-clause-sound c = are_closed_sites c.args.sites.now c.what_holds_of_these_sites.ensures

pub returns-clause-missing : goal.returns-clause-missing
returns-clause-missing c = missing_some _ _ (first c)

pub returns-clause-none : goal.returns-clause-none
returns-clause-none c = missing_none _ _ (first c)
