use Rattle.tatp_history.proofs.CutLaws.{events_of_both, judged_in_parts}
use Rattle.tatp_history.proofs.JustInTimeLaws.{cut, cut_to, unanswered}
use Rattle.tatp_history.proofs.theorems.histories_may_be_cut_where_nothing_is_open.Goals as goal

pub returns : goal.returns
returns c = record {
  lines = events_of_both;
  searched = λ u s rows first second none. judged_in_parts u s rows first second none;
  serializable = cut;
  rows = cut_to;
  unknown = λ u first c rise have on. unanswered u first rise have c on;
}
