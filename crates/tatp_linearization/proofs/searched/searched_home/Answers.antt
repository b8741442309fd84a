use Rattle.std.proofs.Common.{sym, ap, subst}
use Rattle.tatp_homes.specs.Home.{SubscriberRows}
use Rattle.tatp_linearization.specs.Searched.{IsSearchedFrom}
use Rattle.tatp_linearization.proofs.searched.searched_home.Goals as goal

pub returns-then-exact-clause-from : goal.returns-then-exact-clause-from
returns-then-exact-clause-from c =
    subst (λ b. IsSearchedFrom b c.args.home.now.tables c.copy.result.tables) (sym c.if-exact.true) (ap (λ (h : SubscriberRows). h.tables) c.copy.ensures)

pub returns-else-exact-clause-from : goal.returns-else-exact-clause-from
returns-else-exact-clause-from c =
    subst (λ b. IsSearchedFrom b c.args.home.now.tables c.cleared_home.result.tables) (sym c.if-exact.false) c.cleared_home.ensures.from
