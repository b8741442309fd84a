use Rattle.tatp_settle.proofs.TableLaws.{appended}
use Rattle.tatp_settle.proofs.table.Table.append.Goals as goal

pub returns : goal.returns
returns g c = appended c.append.result c.append.new.self.items c.self.inside.rows.items c.other.inside.rows.items c.args.self.now c.args.other c.self.view_is c.other.view_is c.append.ensures.items
