use Rattle.std.proofs.Common.{sym}
use Rattle.std.specs.String.{string_bytes}
use Rattle.tatp_explanations.proofs.ListingLaws.{one_more, no_more}
use Rattle.tatp_explanations.proofs.commands.listing.Goals as goal
use Rattle.tatp_explanations.proofs.commands.listing.Goals.{in-Some+in_ok-line+in_ok-push_str, in_default}

pub loop-number-preserved : goal.loop-number-preserved
loop-number-preserved c = elim c.match-explanation_of.branch [
  | in-Some+in_ok-line+in_ok-push_str w ↦
      rw (w.text-is, w.in_ok-push_str.ensures.bytes, w.as_str.ensures.value)
      (one_more c.loop-number.number (string_bytes c.loop-number.text) (string_bytes w.in_ok-line.line) w.in-Some.explanation
      c.loop-number.invariant w.in-Some.ensures.own w.in-Some.ensures.named (sym w.in-Some.ensures.some) w.in_ok-line.ensures)
  | in_default w ↦
      rw w.text-is (no_more c.loop-number.number (string_bytes c.loop-number.text) c.loop-number.invariant (sym w.in_default.ensures.some))
]
