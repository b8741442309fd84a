use Rattle.std.proofs.Common.{◌≡◌, ◌++◌, ◌-◌, ◌≤◌, length, drop, true}
use Rattle.std.specs.List.{list_all}
use Rattle.tatp_encoding.specs.Modules.{is_procedure, has_version}
use Rattle.tatp_loader.specs.ModuleBytes.{procedures_bytes}
use Rattle.tatp_loader.specs.Reading.{procedures_at}
use Rattle.tatp_loader.proofs.LoopLaws.{joined}
use Rattle.tatp_loader.proofs.parsing.procedures_at.Given as goal

abbrev pub invariant-loop-n : goal.invariant-loop-n
invariant-loop-n l = record {
  read : joined l.procs.items (procedures_at l.version l.n (l.count - l.n) l.rest) ≡ procedures_at l.version 0 l.count l.bytes;
  spelled : l.bytes ≡ procedures_bytes l.procs.items ++ l.rest;
  place : drop l.size l.bytes ≡ l.rest;
  within : l.size ≤ length l.bytes;
  count : length l.procs.items ≡ l.n;
  fit : list_all is_procedure l.procs.items ≡ true;
  version : list_all (has_version l.version) l.procs.items ≡ true;
}
