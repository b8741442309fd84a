use Rattle.std.proofs.Common.{sym, ◌∙◌}
use Rattle.tatp_linearization.proofs.SearchedCallLaws.{call_alone, call_kept, call_other}
use Rattle.tatp_linearization.proofs.searched.cleared_call.Goals as goal

pub returns-then-not-has_facility : goal.returns-then-not-has_facility
returns-then-not-has_facility c =
    call_kept c.args.home.now.tables.facilities c.in-UpdateSubscriberData.s_id c.in-UpdateSubscriberData.bit_1 c.in-UpdateSubscriberData.sf_type _ c.args.call.now c.in-UpdateSubscriberData.is (sym c.has_facility.ensures ∙ c.if-not-has_facility.true)

pub returns-else-not-has_facility : goal.returns-else-not-has_facility
returns-else-not-has_facility c =
    call_alone c.args.home.now.tables.facilities c.in-UpdateSubscriberData.s_id c.in-UpdateSubscriberData.bit_1 c.in-UpdateSubscriberData.sf_type _ c.args.call.now c.bit_alone.result c.in-UpdateSubscriberData.is (sym c.has_facility.ensures ∙ c.if-not-has_facility.false) c.bit_alone.ensures

pub returns-in_default : goal.returns-in_default
returns-in_default c = call_other c.args.home.now.tables.facilities c.args.call.now c.in_default.not-UpdateSubscriberData
