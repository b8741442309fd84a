use Rattle.std.proofs.Common.{rules}
use Rattle.tatp_command_line.proofs.PlanLaws.{same_setup}
use Rattle.tatp_command_line.proofs.words.setup_of.Goals as goal

pub returns-clause-asked : goal.returns-clause-asked
returns-clause-asked c = (
  record {
    population = search rules;
    partitions = search rules;
    clients = search rules;
    input_limit = search rules;
  },
  same_setup _ _ (search rules) (search rules) (search rules) (search rules) (search rules),
)
