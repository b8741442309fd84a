use Rattle.tatp_command_line.proofs.PlanLaws.{same_calls_plan}
use Rattle.tatp_command_line.proofs.words.calls_plan_of.Goals as goal

pub returns-clause-asked : goal.returns-clause-asked
returns-clause-asked c = (
  record {
    subscribers = c.in_ok-number.ensures.asked.0;
    calls = c.in_ok-number-2.ensures.asked.0;
    client = c.in_ok-number-3.ensures.asked.0;
    seed = c.in_ok-number-4.ensures.asked.0;
  },
  same_calls_plan _ _ c.in_ok-number.ensures.asked.1 c.in_ok-number-2.ensures.asked.1 c.in_ok-number-3.ensures.asked.1 c.in_ok-number-4.ensures.asked.1
      c.distribution_of.ensures,
)
