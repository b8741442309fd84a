use Rattle.std.proofs.Common.{◌≡◌, ◌+◌, length}
use Rattle.tatp_lines.specs.Lines.{lines_of}
use Rattle.tatp_population.specs.PopulationText.{population_of}
use Rattle.tatp_population.proofs.PopulationTextLaws.{told_from}
use Rattle.tatp_population.proofs.parsing.read.Given as goal

abbrev pub invariant-lines : goal.invariant-lines
invariant-lines l = record {
  told : told_from l.rows (l.number + 1) l.lines ≡ population_of l.text;
  count : l.number + length l.lines ≡ length (lines_of l.text);
}

abbrev pub decreases-lines : goal.decreases-lines
decreases-lines l = length l.lines
