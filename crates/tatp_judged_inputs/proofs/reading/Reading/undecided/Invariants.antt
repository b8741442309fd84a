use Rattle.std.specs.Prelude.{◌≡◌, take}
use Rattle.tatp_judged_inputs.specs.Judged.{aside_told}
use Rattle.tatp_judged_inputs.proofs.reading.Reading.undecided.Given as goal

abbrev pub invariant-aside : goal.invariant-aside
invariant-aside l = l.told.items ≡ aside_told l.taken l.fn.self.numbers.items (take l.i l.fn.aside)
