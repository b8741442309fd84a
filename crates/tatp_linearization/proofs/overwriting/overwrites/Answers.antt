use Rattle.tatp_linearization.proofs.StayingLaws.{overwrites_both, overwrites_location, overwrites_none}
use Rattle.tatp_linearization.proofs.overwriting.overwrites.Goals as goal

pub returns-in-UpdateLocation : goal.returns-in-UpdateLocation
returns-in-UpdateLocation c = overwrites_location c.args.x.now c.args.z.now c.in-UpdateLocation.sub_nbr _ c.sets_location_by.result c.in-UpdateLocation.is c.sets_location_by.ensures

pub returns-in-UpdateSubscriberData : goal.returns-in-UpdateSubscriberData
returns-in-UpdateSubscriberData c = overwrites_both c.args.x.now c.args.z.now c.in-UpdateSubscriberData.s_id _ c.in-UpdateSubscriberData.sf_type _ c.sets_both_of.result c.in-UpdateSubscriberData.is c.sets_both_of.ensures

pub returns-in_default : goal.returns-in_default
returns-in_default c = overwrites_none c.args.x.now c.args.z.now c.in_default.not-UpdateLocation c.in_default.not-UpdateSubscriberData
