use Rattle.std.proofs.Common.{◌≡◌, length, sym, rules}
use Rattle.tatp_machine.proofs.KeptLaws.{put_kept}
use Rattle.tatp_machine.proofs.LineLaws.{noted}
use Rattle.tatp_machine.proofs.machine.Machine.put.Goals as goal

pub returns-in-Ok-clause-performs : goal.returns-in-Ok-clause-performs
returns-in-Ok-clause-performs c =
    let three : length c.in-Some.key ≡ 3 = search rules in
    let back = put_kept c.args.home.now c.args.column c.value.result c.in-Ok.before c.byte.result c.byte-in-Ok.result c.in-Some.key c.args.home.now.tables c.put.new.self.tables c.what_holds_of_every_home.ensures three (sym c.in-Ok.ensures.answer)
    c.byte.ensures c.byte-in-Ok.ensures c.in-Ok.ensures.back in
    noted _ c.args.self.now c.note.new.self c.args.home.now.tables c.put.new.self.tables (search rules) (c.note.ensures.undoes c.args.home.now.tables c.put.new.self.tables (rw c.requires.home back)) c.note.ensures.ended
