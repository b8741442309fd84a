use Rattle.tatp_loader.proofs.ReadingLaws.{module_spelled}
use Rattle.tatp_loader.proofs.parsing.module_at.Goals as goal

pub returns-clause-spelled : goal.returns-clause-spelled
returns-clause-spelled c =
    module_spelled c.in_ok-version.version c.args.bytes.now c.in_ok-version.rest.now c.in_ok-version.count c.in_ok-procs.size c.in_ok-procs.procs.items c.in_ok-version.ensures.spelled c.in_ok-procs.ensures.spelled c.in_ok-procs.ensures.count c.if-size-rest.false
