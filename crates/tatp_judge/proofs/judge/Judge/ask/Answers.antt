use Rattle.std.proofs.Common.{ℕ, suc, [], Option, length, subst}
use Rattle.std.proofs.lemmas.Result.{on_ok_weaker}
use Rattle.tatp_history.specs.HistoryLines.{call_at}
use Rattle.tatp_judge.specs.Steps.{AreEach, AsksCall, asks_on}
use Rattle.tatp_judge.proofs.judge.Judge.ask.Goals as goal

pub returns-clause-windows : goal.returns-clause-windows
returns-clause-windows c = on_ok_weaker c.ask_in.result (λ each. λ u directory.
    subst (λ (o : Option ℕ). AreEach (λ place. AsksCall (asks_on (suc place) o (call_at c.args.number c.args.client c.args.call.now []))) c.args.self.now.windows.items c.ask_in.new.windows.items)
    (c.subscriber_of-s_id.ensures.named u (length c.args.self.now.windows.items) directory) each) c.ask_in.ensures
