use Rattle.std.proofs.Common.{◌≡◌, Some, slice_get, refl}
use Rattle.std.proofs.lemmas.Option.{slice_get_read}
use Rattle.tatp_linearization.proofs.DoomedLaws.{get_in}
use Rattle.tatp_linearization.proofs.lost.is_open_read.Goals as goal

pub returns-then-is_ended_read : goal.returns-then-is_ended_read
returns-then-is_ended_read c = λ yes.
    let x = c.index-opened-i.result in
    let ended = c.is_ended_read.ensures c.if-is_ended_read.true in
    let at : slice_get c.args.opened.now c.loop-i.i ≡ Some c.index-opened-i.result = slice_get_read c.args.opened.now _ c.loop-i.i c.index-opened-i.result refl c.loop-i-test.true c.index-opened-i.is in
    (x, get_in c.args.opened.now c.loop-i.i x at, ended.0, ended.1)
