use Rattle.std.proofs.Common.{false, ◌+◌, length}
use Rattle.std.proofs.lemmas.Result.{IfOk-at_ok}
use Rattle.tatp_settle.specs.declared.placement.Placed.{Placed}
use Rattle.tatp_settle.specs.Placing.{IsTableOf}
use Rattle.tatp_settle.proofs.PlacingLaws.{both_tables}
use Rattle.tatp_settle.proofs.placement.put_together.Goals as goal

pub returns : goal.returns
returns c = λ closed low high first last front back.
    let made : Placed = record { table = c.append.new.self; extra = c.or.result } in
    both_tables closed low high first last c.in_ok-front.front c.in_ok-back.back made c.in_ok-append.ensures c.or.ensures
    (IfOk-at_ok (IsTableOf closed low first false) c.in_ok-front.was front)
    (IfOk-at_ok (IsTableOf closed high (first + length low) last) c.in_ok-back.was back)
