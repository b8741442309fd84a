use Rattle.std.specs.Prelude.{take}
use Rattle.std.specs.List.{flat_map}
use Rattle.std.specs.Fmt.{HasWritten, IsPlainFormatter}
use Rattle.tatp_audits.specs.Printing.{field}
use Rattle.tatp_bench.proofs.report.CountsDisplay.fmt.Given as goal

abbrev pub invariant-loop-count : goal.invariant-loop-count
invariant-loop-count g l =
    IsPlainFormatter l.initial.f → HasWritten g.W.Write.write_str_gives l.initial.f (flat_map field (take l.count-index l.count-items)) l.f
