use Rattle.std.proofs.Common.{◌≡◌, take, drop}
use Rattle.std.specs.Prelude.{count_by}
use Rattle.tatp_loader.specs.Lawful.{is_out, is_write}
use Rattle.tatp_loader.specs.Rules.{first_broken}
use Rattle.tatp_loader.proofs.rules.first_broken.Given as goal

abbrev pub invariant-loop-position : goal.invariant-loop-position
invariant-loop-position l = record {
  outs : l.outs ≡ count_by is_out (take l.position l.procedure.code);
  writes : l.writes ≡ count_by is_write (take l.position l.procedure.code);
  rest : first_broken l.version l.number l.procedure l.position (drop l.position l.procedure.code) ≡ first_broken l.version l.number l.procedure 0 l.procedure.code;
}
