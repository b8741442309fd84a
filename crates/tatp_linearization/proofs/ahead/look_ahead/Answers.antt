use Rattle.std.proofs.Common.{◌≡◌, Some, slice_get, refl, sym, ◌∙◌, subst}
use Rattle.std.proofs.lemmas.Option.{slice_get_read}
use Rattle.tatp_history.specs.declared.event.Event.{Event}
use Rattle.tatp_linearization.specs.Ahead.{Tells}
use Rattle.tatp_linearization.proofs.PlaceLaws.{take_more}
use Rattle.tatp_linearization.proofs.ahead.look_ahead.Goals as goal

pub events-preserved : goal.events-preserved
events-preserved c =
    let event : Event = c.index-events-i.result in
    let at : slice_get c.args.events.now c.events.i ≡ Some event = slice_get_read c.args.events.now _ c.events.i event refl c.events-test.true c.index-events-i.is in
    record {
      tells = subst (λ es. Tells es c.add_event.new.ahead) (sym (take_more c.args.events.now c.events.i event at)) (c.in_ok-add_event.ensures.more _ c.events.invariant.tells);
      last = c.in_ok-add_event.ensures.last ∙ c.events.invariant.last;
    }
