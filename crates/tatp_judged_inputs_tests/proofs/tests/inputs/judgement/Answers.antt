use Rattle.std.proofs.Common.{refl, arith}
use Rattle.tatp_tables.specs.Database.{database_of}
use Rattle.tatp_judged_inputs_tests.proofs.tests.inputs.judgement.Goals as goal

pub judge_history-requires : goal.judge_history-requires
judge_history-requires c = (
  record { rows = database_of c.args.rows.now; part = record { number = 1; count = 1 } },
  c.args.most,
  record {
    followed = c.in_ok-judge.ensures.followed;
    part_is = refl;
    possible = record { first = omega arith; last = omega arith };
  },
)
