use Rattle.tatp_history.proofs.ClearedLaws.{cleared_reply, cleared_on, cleared_facilities}
use Rattle.tatp_history.proofs.ClearedHomeLaws.{home_cleared}
use Rattle.tatp_history.proofs.ClearedOrderLaws.{serializable_cleared}
use Rattle.tatp_history.proofs.theorems.data_a_is_never_read.Goals as goal

pub returns : goal.returns
returns c = record {
  replies = cleared_reply;
  rows = cleared_on;
  facilities = cleared_facilities;
  serializable = serializable_cleared;
  homes = home_cleared;
}
