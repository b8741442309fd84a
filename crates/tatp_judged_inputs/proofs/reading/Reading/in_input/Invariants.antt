use Rattle.std.specs.Prelude.{◌≡◌, take}
use Rattle.tatp_judged_inputs.specs.Judged.{in_input}
use Rattle.tatp_judged_inputs.proofs.reading.Reading.in_input.Given as goal

abbrev pub invariant-lines : goal.invariant-lines
invariant-lines l = l.told.items ≡ in_input l.fn.self.numbers.items (take l.i l.fn.lines)
