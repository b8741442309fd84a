use Rattle.tatp_history.proofs.ChangeLaws.{unchanged}
use Rattle.tatp_history.proofs.UnchangingLaws.{at_once}
use Rattle.tatp_history.proofs.theorems.calls_that_change_nothing_may_take_effect_at_once.Goals as goal

pub returns : goal.returns
returns c = record {
  once = λ events u opened left x rise have are chooses leaves may. at_once events opened x left chooses are u rise have leaves may;
  unchanged = unchanged;
}
