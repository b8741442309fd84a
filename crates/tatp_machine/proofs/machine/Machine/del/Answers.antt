use Rattle.std.proofs.Common.{sym, rules}
use Rattle.tatp_machine.proofs.KeptLaws.{delete_kept}
use Rattle.tatp_machine.proofs.LineLaws.{noted}
use Rattle.tatp_machine.proofs.machine.Machine.del.Goals as goal

pub returns-in-Ok-clause-performs : goal.returns-in-Ok-clause-performs
returns-in-Ok-clause-performs c =
    let back = delete_kept c.args.home.now c.in-Some.key c.in-Ok.row c.byte.result c.byte-in-Ok.result c.byte-in-Ok-2.result c.args.home.now.tables c.delete_cf.new.self.tables c.what_holds_of_every_home.ensures (sym c.in-Ok.ensures.answer)
    c.byte.ensures c.byte-in-Ok.ensures c.byte-in-Ok-2.ensures c.in-Ok.ensures.back in
    let entry = c.note.ensures.undoes c.args.home.now.tables c.delete_cf.new.self.tables (rw (c.make_current.ensures, c.requires.home) back) in
    noted _ c.args.self.now c.note.new.self c.args.home.now.tables c.delete_cf.new.self.tables (search rules) (rw c.make_current.ensures at entry) (rw c.make_current.ensures at c.note.ensures.ended)
