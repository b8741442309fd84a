use Rattle.std.proofs.Common.{◌≡◌, Some, slice_get, refl}
use Rattle.std.proofs.lemmas.Option.{slice_get_read}
use Rattle.tatp_linearization.proofs.DoomedLaws.{get_in}
use Rattle.tatp_linearization.proofs.later.leaves_other_at.Goals as goal

pub returns-then-x-asked : goal.returns-then-x-asked
returns-then-x-asked c = λ yes.
    let x = c.index-opened-i.result in
    let at : slice_get c.args.opened.now c.loop-i.i ≡ Some x = slice_get_read c.args.opened.now _ c.loop-i.i x refl c.loop-i-test.true c.index-opened-i.is in
    (x, get_in c.args.opened.now c.loop-i.i x at, c.if-x-asked.true, c.leaves_other.ensures yes)
