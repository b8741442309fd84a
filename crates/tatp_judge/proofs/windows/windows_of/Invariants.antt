use Rattle.tatp_judge.proofs.PlaceLaws.{AreWindowsTo}
use Rattle.tatp_judge.proofs.windows.windows_of.Given as goal

abbrev pub invariant-homes : goal.invariant-homes
invariant-homes l = AreWindowsTo l.most l.exact l.homes l.i l.windows.items
