use Rattle.std.specs.Prelude.{◌≡◌, ◌++◌, take}
use Rattle.std.specs.String.{string_bytes}
use Rattle.tatp_judged_inputs.specs.Judging.{undecided_lines}
use Rattle.tatp_judged_inputs.proofs.command.push_undecided.Given as goal

abbrev pub invariant-aside : goal.invariant-aside
invariant-aside l = string_bytes l.text ≡ string_bytes l.initial.text ++ undecided_lines (take l.i l.fn.aside)
