use Rattle.tatp_numbers.proofs.HomeLaws.{answer-home}
use Rattle.tatp_numbers.proofs.directory.Directory.build.Goals as goal

pub returns-clause-homes : goal.returns-clause-homes
returns-clause-homes c = answer-home c.args.rows.now c.in_ok-s_ids.s_ids.entries c.requires c.in_ok-s_ids.ensures.once c.in_ok-s_ids.ensures.found
