use Rattle.std.proofs.Common.{◌≡◌, length, sym, rules}
use Rattle.tatp_machine.proofs.KeptLaws.{insert_kept}
use Rattle.tatp_machine.proofs.LineLaws.{noted}
use Rattle.tatp_machine.proofs.machine.Machine.ins.Goals as goal

pub returns-in-Ok-clause-performs : goal.returns-in-Ok-clause-performs
returns-in-Ok-clause-performs c =
    let row = c.five_values-row.result in
    let five : length row ≡ 5 = search rules in
    let back = insert_kept c.args.home.now row c.byte.result c.byte-in-Ok.result c.args.home.now.tables c.insert_cf.new.self.tables c.what_holds_of_every_home.ensures five (sym c.in-Ok.ensures.answer) c.byte.ensures c.byte-in-Ok.ensures c.in-Ok.ensures.back in
    let entry = c.note.ensures.undoes c.args.home.now.tables c.insert_cf.new.self.tables (rw (c.write.ensures, c.requires.home) back) in
    noted _ c.args.self.now c.note.new.self c.args.home.now.tables c.insert_cf.new.self.tables (search rules) (rw c.write.ensures at entry) (rw c.write.ensures at c.note.ensures.ended)
