use Rattle.tatp_command_line.proofs.PlanLaws.{same_plan}
use Rattle.tatp_command_line.proofs.words.plan_of.Goals as goal

pub returns-clause-asked : goal.returns-clause-asked
returns-clause-asked c = (
  record {
    subscribers = c.in_ok-number.ensures.asked.0;
    partitions = c.in_ok-partitions_of.ensures.asked.0;
    clients = c.in_ok-clients_of.ensures.asked.0;
    calls = c.in_ok-number-2.ensures.asked.0;
    seed = c.in_ok-number-3.ensures.asked.0;
    moves = c.in_ok-number-4.ensures.asked.0;
    stops = c.in_ok-number-5.ensures.asked.0;
    chapter = c.in_ok-number-6.ensures.asked.0;
  },
  same_plan _ _ c.in_ok-number.ensures.asked.1 c.in_ok-partitions_of.ensures.asked.1 c.in_ok-clients_of.ensures.asked.1 c.in_ok-number-2.ensures.asked.1
      c.in_ok-number-3.ensures.asked.1 c.distribution_of.ensures c.in_ok-number-4.ensures.asked.1 c.in_ok-number-5.ensures.asked.1
      c.in_ok-number-6.ensures.asked.1,
)
