use Rattle.std.proofs.Common.{length, rules, arith}
use Rattle.tatp_tables.specs.Database.{database_of}
use Rattle.tatp_extents.proofs.OpeningLaws.{few_extents}
use Rattle.tatp_settle_tests.proofs.sites.opened.Goals as goal

pub overflow_cast-count : goal.overflow_cast-count
overflow_cast-count c =
    let rows = c.in_ok-clean_rows.field-0 in
    let few = few_extents (database_of rows) (length rows.subscribers) c.in-Ok.extents.items (search rules) (search rules) in
    omega (arith, few, c.len-count.ensures)
