use Rattle.std.proofs.Common.{ℕ, ◌≤◌, ◌∙◌, ap, arith}
use Rattle.std.specs.Option.{is_some}
use Rattle.tatp_partition.specs.Sites.{home_here}
use Rattle.tatp_settle.proofs.HereLaws.{first_home, copied_some}
use Rattle.tatp_settle.proofs.gathering.stands_at.Goals as goal

pub returns-else-number-eq0 : goal.returns-else-number-eq0
returns-else-number-eq0 c =
    let least : 1 ≤ c.args.number = omega arith in
    c.is_some.ensures
    ∙ (copied_some c.home.result
    ∙ (ap is_some c.home.ensures
    ∙ (ap (λ (s : ℕ). is_some (home_here c.args.site.now s)) c.first_subscriber.ensures ∙ first_home c.args.site.now c.args.number c.what_holds_of_every_site.ensures least)))
