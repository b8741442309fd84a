use Rattle.std.specs.Prelude.{◌≡◌, ◌++◌, take}
use Rattle.std.specs.String.{string_bytes}
use Rattle.tatp_judged_inputs.specs.Judging.{could_lines}
use Rattle.tatp_judged_inputs.proofs.legal_replies.push_each.Given as goal

abbrev pub invariant-replies : goal.invariant-replies
invariant-replies l = string_bytes l.text ≡ string_bytes l.initial.text ++ could_lines l.fn.ask (take l.i l.fn.replies)
