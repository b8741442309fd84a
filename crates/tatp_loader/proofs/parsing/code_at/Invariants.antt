use Rattle.std.proofs.Common.{◌≡◌, ◌++◌, ◌-◌, length, true}
use Rattle.std.specs.List.{list_all}
use Rattle.tatp_instr.specs.Versions.{is_in}
use Rattle.tatp_loader.specs.ModuleBytes.{code_bytes}
use Rattle.tatp_loader.specs.Reading.{code_at}
use Rattle.tatp_loader.proofs.LoopLaws.{joined}
use Rattle.tatp_loader.proofs.parsing.code_at.Given as goal

abbrev pub invariant-loop-i : goal.invariant-loop-i
invariant-loop-i l = record {
  read : joined l.code.items (code_at l.version l.n l.i (l.len - l.i) l.rest) ≡ code_at l.version l.n 0 l.len l.bytes;
  spelled : l.bytes ≡ code_bytes l.code.items ++ l.rest;
  count : length l.code.items ≡ l.i;
  version : list_all (is_in l.version) l.code.items ≡ true;
}
