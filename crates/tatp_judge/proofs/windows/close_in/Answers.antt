use Rattle.std.proofs.Common.{◌-◌, arith}
use Rattle.tatp_judge.proofs.PlaceLaws.{found_at}
use Rattle.tatp_judge.proofs.StepLaws.{if_ok_weaker, one_closed}
use Rattle.tatp_judge.proofs.windows.close_in.Goals as goal

pub close-requires : goal.close-requires
close-requires c =
    let q = c.requires.within in
    let found = c.requires.window c.index_mut.result.now (found_at c.args.windows.now.items (c.args.s_id - 1) c.index_mut.result.now (omega (arith, q.0, q.1)) c.index_mut.ensures.value) in
    (found.0, found.1, c.args.s_id, found.2, found.3)

pub returns : goal.returns
returns c = if_ok_weaker c.close.result (λ standing closes.
    one_closed c.args.s_id c.args.number standing c.args.windows.now.items c.index_mut.result.now c.close.new.self c.requires.within.0 c.requires.within.1 c.index_mut.ensures.value
    (record { closes = closes; aside_is = c.close.ensures.aside; waiting_is = c.close.ensures.waiting; exact_is = c.close.ensures.exact })) c.close.ensures.closes
