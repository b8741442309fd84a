use Rattle.std.proofs.Common.{◌≡◌, [], ◌∷◌, ◌++◌, Some, slice_get, sym, ap, ◌∙◌, subst}
use Rattle.std.proofs.lemmas.List.{take_all, append-nil}
use Rattle.tatp_history.specs.declared.observed.Observed.{Observed}
use Rattle.tatp_linearization.specs.Legal.{calls_in}
use Rattle.tatp_linearization.proofs.PlaceLaws.{get_at}
use Rattle.tatp_linearization.proofs.LeavingLaws.{added_calls}
use Rattle.tatp_linearization.proofs.rows.add_calls.Goals as goal

pub calls-init : goal.calls-init
calls-init c = sym (append-nil c.args.calls.now.items)

pub calls-preserved : goal.calls-preserved
calls-preserved c =
    let at : slice_get c.args.opened.now c.calls.i ≡ Some c.index-opened-i.result = get_at c.args.opened.now c.calls.i c.index-opened-i.result c.calls-test.true c.index-opened-i.is in
    added_calls c.args.calls.now.items c.args.opened.now c.calls.i c.index-opened-i.result c.calls.calls.items c.push.new.self.items at c.calls.invariant
    (c.in_ok-push.ensures.items ∙ ap (λ (x : Observed). c.calls.calls.items ++ x.call ∷ []) (sym c.index-opened-i.is))

pub returns : goal.returns
returns c = subst (λ xs. c.calls.calls.items ≡ c.args.calls.now.items ++ calls_in xs) (take_all c.calls.i c.args.opened.now c.calls-test.false) c.calls.invariant
