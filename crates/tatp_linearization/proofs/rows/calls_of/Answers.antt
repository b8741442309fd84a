use Rattle.std.proofs.Common.{◌≡◌, ◌++◌, take, Some, slice_get, sym, ap, ◌∙◌, subst}
use Rattle.std.proofs.lemmas.List.{take_all, append-nil}
use Rattle.tatp_history.specs.Events.{asked_in}
use Rattle.tatp_linearization.specs.declared.configuration.Configuration.{Configuration as Held}
use Rattle.tatp_linearization.specs.Legal.{calls_in, open_calls}
use Rattle.tatp_linearization.proofs.PlaceLaws.{get_at}
use Rattle.tatp_linearization.proofs.LeavingLaws.{opened_more, asked_more}
use Rattle.tatp_linearization.proofs.rows.calls_of.Goals as goal

pub configurations-preserved : goal.configurations-preserved
configurations-preserved c =
    let at : slice_get c.args.set.now c.configurations.i ≡ Some c.index-set-i.result = get_at c.args.set.now c.configurations.i c.index-set-i.result c.configurations-test.true c.index-set-i.is in
    c.in_ok-add_calls.ensures ∙ (ap (λ xs. xs ++ calls_in c.as_slice.result.now) c.configurations.invariant
    ∙ (ap (λ zs. open_calls (take c.configurations.i c.args.set.now) ++ calls_in zs) (c.as_slice.ensures.value ∙ ap (λ (q : Held). q.opened.items) (sym c.index-set-i.is)) ∙ sym (opened_more c.args.set.now c.configurations.i c.index-set-i.result at)))

pub events-init : goal.events-init
events-init c = (c.configurations.invariant ∙ ap open_calls (take_all c.configurations.i c.args.set.now c.configurations-test.false)) ∙ sym (append-nil (open_calls c.args.set.now))

pub events-preserved : goal.events-preserved
events-preserved c =
    let at : slice_get c.args.events.now c.events.i ≡ Some c.index-events-i.result = get_at c.args.events.now c.events.i c.index-events-i.result c.events-test.true c.index-events-i.is in
    asked_more (open_calls c.args.set.now) c.args.events.now c.events.i c.index-events-i.result c.events.calls.items c.add_event.new.calls.items at c.events.invariant c.in_ok-add_event.ensures

pub returns : goal.returns
returns c = subst (λ es. c.events.calls.items ≡ open_calls c.args.set.now ++ calls_in (asked_in es)) (take_all c.events.i c.args.events.now c.events-test.false) c.events.invariant
