use Rattle.std.proofs.Common.{sym, subst, rules}
use Rattle.tatp_calls.specs.declared.ask.Ask.{Ask}
use Rattle.tatp_calls.specs.Asked.{Fits}
use Rattle.tatp_threads.specs.Inboxes.{IsListed, IsAdmitted, item_for}
use Rattle.tatp_threads.proofs.admission.Admission.put.Goals as goal

pub put-requires : goal.put-requires
put-requires g c =
    let lists = g.A.RunCalls.lists in
    let arities = g.A.RunCalls.arities in
    let item = c.args.item.now in
    let listed : IsListed lists item = search rules in
    let fits : Fits arities item.ask = search rules in
    subst (λ request. (ask : Ask) × IsAdmitted lists arities (item_for request ask)) (sym c.of.ensures)
    (item.ask, record { listed = listed; fits = fits })
