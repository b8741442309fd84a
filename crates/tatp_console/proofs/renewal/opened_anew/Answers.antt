use Rattle.tatp_console.proofs.RenewalLaws.{rows_clean, opened_rest}
use Rattle.tatp_console.proofs.renewal.opened_anew.Goals as goal

pub open_clean-requires-clause-clean : goal.open_clean-requires-clause-clean
open_clean-requires-clause-clean c = rows_clean c.args.world.now c.in-Ok.rows c.in-Ok.ensures.world c.in-Ok.ensures.rows

pub returns-in-Ok-open_clean-clause-rest : goal.returns-in-Ok-open_clean-clause-rest
returns-in-Ok-open_clean-clause-rest c =
    opened_rest c.args.world.now c.in-Ok-open_clean.fresh c.in-Ok.rows c.loaded-loaded.result.now c.in_ok-site.field-0.now c.partitions_of.result
    c.in-Ok-open_clean.ensures.opened c.in-Ok-open_clean.ensures.world c.in-Ok.ensures.world c.in_ok-site.ensures.found c.loaded-loaded.ensures c.requires.standard
