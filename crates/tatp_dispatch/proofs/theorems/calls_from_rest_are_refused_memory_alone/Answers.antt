use Rattle.tatp_dispatch.proofs.RestLaws.{opened_at_rest, call_from_rest}
use Rattle.tatp_dispatch.proofs.theorems.calls_from_rest_are_refused_memory_alone.Goals as goal

pub returns : goal.returns
returns c = record {
  opened = opened_at_rest;
  call = λ before after calls ask outcome. call_from_rest before calls ask outcome after;
}
