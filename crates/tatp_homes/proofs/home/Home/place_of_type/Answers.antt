use Rattle.tatp_homes.proofs.PlaceLaws.{if_none, type_none}
use Rattle.tatp_homes.proofs.home.Home.place_of_type.Goals as goal

pub returns-then-s_id-self-clause-no_access : goal.returns-then-s_id-self-clause-no_access
returns-then-s_id-self-clause-no_access c = rw (← c.self.view_is) (if_none c.type_place.result _ _
    (λ none. type_none c.args.s_id c.self.inside.s_id c.args.kind c.self.inside.accesses (λ _. none) c.self.invariant.access_places) c.type_place.ensures.none)

pub returns-then-s_id-self-clause-no_facility : goal.returns-then-s_id-self-clause-no_facility
returns-then-s_id-self-clause-no_facility c = rw (← c.self.view_is) (if_none c.type_place.result _ _
    (λ none. type_none c.args.s_id c.self.inside.s_id c.args.kind c.self.inside.facilities (λ _. none) c.self.invariant.facility_places) c.type_place.ensures.none)

pub returns-else-s_id-self-clause-no_access : goal.returns-else-s_id-self-clause-no_access
returns-else-s_id-self-clause-no_access c = rw (← c.self.view_is)
    (type_none c.args.s_id c.self.inside.s_id c.args.kind c.self.inside.accesses (λ e. absurd (c.if-s_id-self.false e)) c.self.invariant.access_places)

pub returns-else-s_id-self-clause-no_facility : goal.returns-else-s_id-self-clause-no_facility
returns-else-s_id-self-clause-no_facility c = rw (← c.self.view_is)
    (type_none c.args.s_id c.self.inside.s_id c.args.kind c.self.inside.facilities (λ e. absurd (c.if-s_id-self.false e)) c.self.invariant.facility_places)
