use Rattle.std.specs.Prelude.{◌≡◌, ◌++◌, take}
use Rattle.std.specs.String.{string_bytes}
use Rattle.tatp_judged_inputs.specs.Judging.{window_lines}
use Rattle.tatp_judged_inputs.proofs.command.push_window.Given as goal

abbrev pub invariant-window : goal.invariant-window
invariant-window l = string_bytes l.text ≡ string_bytes l.initial.text ++ window_lines (take l.i l.fn.window)
