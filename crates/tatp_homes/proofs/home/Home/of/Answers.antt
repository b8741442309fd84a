use Rattle.std.proofs.Common.{ap, sym, ◌∙◌}
use Rattle.tatp_tables.specs.Database.{no_tables}
use Rattle.tatp_homes.specs.Home.{SubscriberRows, home_in}
use Rattle.tatp_homes.proofs.LoadingLaws.{home_of_none}
use Rattle.tatp_homes.proofs.home.Home.of.Goals as goal

pub read-requires-clause-before : goal.read-requires-clause-before
read-requires-clause-before c = c.empty-home.ensures ∙ home_of_none c.args.s_id ∙ ap (home_in no_tables) (sym (ap (λ (h : SubscriberRows). h.s_id) c.empty-home.ensures))
