use Rattle.std.proofs.Common.{◌≡◌, ◌<◌, length, drop, slice_index}
use Rattle.tatp_judged_inputs.specs.LineNumbers.{numbers_in}
use Rattle.tatp_judged_inputs.proofs.line_numbers.number_at.Given as goal

abbrev pub invariant-runs : goal.invariant-runs
invariant-runs l = record {
  within : l.left < length (numbers_in (drop l.i l.runs));
  is : slice_index (numbers_in (drop l.i l.runs)) l.left ≡ slice_index (numbers_in l.runs) l.place;
}
