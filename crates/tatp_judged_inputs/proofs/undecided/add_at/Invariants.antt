use Rattle.std.specs.Prelude.{◌≡◌, ◌++◌, take}
use Rattle.tatp_judged_inputs.specs.RowsAtEnd.{told_at}
use Rattle.tatp_judged_inputs.proofs.undecided.add_at.Given as goal

abbrev pub invariant-aside : goal.invariant-aside
invariant-aside l = l.told.items ≡ l.initial.told.items ++ told_at l.line (take l.i l.fn.aside)
