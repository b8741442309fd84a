use Rattle.std.proofs.Common.{sym, ◌∙◌, ap}
use Rattle.tatp_calls.specs.Arguments.{arguments_accepted}
use Rattle.tatp_history.proofs.ClearedEventLaws.{accepted_cleared}
use Rattle.tatp_linearization.specs.Searched.{searched_call}
use Rattle.tatp_linearization.proofs.searched.searched_call.Goals as goal

pub returns-then-exact-clause-searched : goal.returns-then-exact-clause-searched
returns-then-exact-clause-searched c = ap (λ b. searched_call b c.args.home.now.tables.facilities c.args.call.now) (sym c.if-exact.true)

pub returns-else-exact-clause-searched : goal.returns-else-exact-clause-searched
returns-else-exact-clause-searched c = c.cleared_call.ensures ∙ ap (λ b. searched_call b c.args.home.now.tables.facilities c.args.call.now) (sym c.if-exact.false)

pub returns-else-exact-clause-accepted : goal.returns-else-exact-clause-accepted
returns-else-exact-clause-accepted c = λ accepted. ap arguments_accepted c.cleared_call.ensures ∙ accepted_cleared c.args.home.now.tables.facilities c.args.call.now accepted
