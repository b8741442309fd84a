use Rattle.std.proofs.Common.{◌≡◌, ◌↔◌, ◌⊎◌, Bool, true, false, is_some, [], ◌∷◌, refl, sym, ◌∙◌, subst}
use Rattle.tatp_tables.specs.Keys.{row_at}
use Rattle.tatp_linearization.specs.Overwritten.{SetsBoth, SetsLocation}
use Rattle.tatp_linearization.proofs.StayingLaws.{sets_by, sets_none, sets_of}
use Rattle.tatp_linearization.proofs.overwriting.sets_blindly.Goals as goal

pub returns-in-UpdateLocation : goal.returns-in-UpdateLocation
returns-in-UpdateLocation c = sets_by c.args.home.now.tables c.args.call.now c.in-UpdateLocation.sub_nbr _ c.has_number.result c.in-UpdateLocation.is c.has_number.ensures

pub returns-then-has_sub : goal.returns-then-has_sub
returns-then-has_sub c =
    let own = c.in-UpdateSubscriberData in
    sets_of c.args.home.now.tables c.args.call.now own.s_id _ own.sf_type _ true c.has_facility.result own.is (sym c.if-has_sub.true ∙ c.has_sub.ensures) c.has_facility.ensures

pub returns-else-has_sub : goal.returns-else-has_sub
returns-else-has_sub c =
    let own = c.in-UpdateSubscriberData in
    subst (λ (b : Bool). (b ≡ true) ↔ (SetsLocation c.args.home.now.tables c.args.call.now ⊎ SetsBoth c.args.home.now.tables c.args.call.now)) (sym c.if-has_sub.false)
    (sets_of c.args.home.now.tables c.args.call.now own.s_id _ own.sf_type _ false (is_some (row_at c.args.home.now.tables.facilities (own.s_id ∷ own.sf_type ∷ []))) own.is (sym c.if-has_sub.false ∙ c.has_sub.ensures) refl)

pub returns-in_default : goal.returns-in_default
returns-in_default c = sets_none c.args.home.now.tables c.args.call.now c.in_default.not-UpdateLocation c.in_default.not-UpdateSubscriberData
