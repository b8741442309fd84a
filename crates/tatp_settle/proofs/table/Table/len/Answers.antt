use Rattle.std.proofs.Common.{◌∙◌}
use Rattle.tatp_settle.proofs.TableLaws.{rows_counted}
use Rattle.tatp_settle.proofs.table.Table.len.Goals as goal

pub returns : goal.returns
returns g c = c.len.ensures ∙ (c.self.inside.rows.ok.0 ∙ rows_counted c.self.inside.rows.items c.args.self.now c.self.view_is)
