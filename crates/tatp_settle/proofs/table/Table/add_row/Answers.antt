use Rattle.std.proofs.Common.{None, replicate, ◌∙◌, ap}
use Rattle.tatp_logs.specs.Lists.{lists_of}
use Rattle.tatp_settle.proofs.TableLaws.{row_pushed}
use Rattle.tatp_settle.proofs.table.Table.add_row.Goals as goal

pub returns : goal.returns
returns g c =
    ap (λ rows. lists_of rows) c.in_ok-push.ensures.items
    ∙ row_pushed c.self.inside.rows.items c.args.self.now c.in_ok-fresh_row.field-0 (replicate c.args.count None) c.self.view_is c.in_ok-fresh_row.ensures
