use Rattle.std.proofs.Common.{sym, ◌∙◌, ap}
use Rattle.std.proofs.lemmas.Result.{IfOk-weaker}
use Rattle.tatp_linearization.specs.Searched.{searched_events}
use Rattle.tatp_linearization.proofs.searched.searched_events.Goals as goal

pub returns-then-exact : goal.returns-then-exact
returns-then-exact c = IfOk-weaker c.from_slice.result _ _ (λ told is. is ∙ ap (λ b. searched_events b c.args.home.now.tables.facilities c.args.events.now) (sym c.if-exact.true)) c.from_slice.ensures.items

pub returns-else-exact : goal.returns-else-exact
returns-else-exact c = IfOk-weaker c.cleared_events.result _ _ (λ told is. is ∙ ap (λ b. searched_events b c.args.home.now.tables.facilities c.args.events.now) (sym c.if-exact.false)) c.cleared_events.ensures
