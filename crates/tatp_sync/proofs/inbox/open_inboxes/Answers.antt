use Rattle.std.proofs.Common.{◌++◌, [], ◌∷◌, ◌+◌, length, All, ap, sym, subst, ◌∙◌}
use Rattle.std.proofs.lemmas.List.{length_push}
use Rattle.std.proofs.lemmas.List.Elements.{All-push}
use Rattle.tatp_sync.specs.Inboxes.{IsNew}
use Rattle.tatp_sync.proofs.inbox.open_inboxes.Goals as goal

pub loop-preserved : goal.loop-preserved
loop-preserved g c = record {
  count = ap length c.in_ok-push.ensures.items ∙ (length_push c.loop.ports.items c.in_ok-port.port ∙ ap (λ n. n + 1) c.loop.invariant.count);
  pairs = c.in_ok-push-2.ensures.items ∙ (ap (λ ends. ends ++ c.in_ok-port.reader ∷ []) c.loop.invariant.pairs ∙ (ap (λ e. c.loop.ports.items ++ e ∷ []) c.in_ok-port.ensures.one ∙ sym c.in_ok-push.ensures.items));
  new = subst (All (IsNew c.args.room)) (sym c.in_ok-push.ensures.items) (All-push (IsNew c.args.room) c.loop.ports.items c.in_ok-port.port c.loop.invariant.new c.in_ok-port.ensures.new);
}
