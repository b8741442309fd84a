use Rattle.tatp_history.specs.SubscriberEvents.{no_calls}
use Rattle.tatp_history.proofs.LineLaws.{are_calls}
use Rattle.tatp_history.proofs.SubscriberEventLaws.{asked_on, times_rise, have_ends, opened_none}
use Rattle.tatp_history.proofs.theorems.events_of_a_subscriber_are_those_of_its_calls.Goals as goal

pub returns : goal.returns
returns c = record {
  asked = λ u s lines. asked_on u s 1 no_calls lines;
  rise = λ u s lines. times_rise u s 1 no_calls lines;
  ends = λ u s lines. have_ends u s 1 no_calls lines (opened_none 1);
  calls = λ lines accepted. are_calls 1 lines accepted;
}
