use Rattle.std.proofs.Common.{subst, sym, ◌<◌, ℕ}
use Rattle.tatp_logs.specs.Logs.{last_stamp_from}
use Rattle.tatp_extents.specs.HomelessLog.{HomelessState, IsHomelessHistory}
use Rattle.tatp_extents.proofs.HistoryLaws.{homeless_logged}
use Rattle.tatp_extents.proofs.homeless.Homeless.end.Goals as goal

pub invariant_of-self : goal.invariant_of-self
invariant_of-self c = λ e.
    subst (λ (k : ℕ). IsHomelessHistory k c.push.new.self.entries) (sym c.push.ensures.stamp)
    (subst (IsHomelessHistory c.self.inside.log.kept_stamp) (sym c.push.ensures.entries)
    (homeless_logged c.self.inside.log.kept_stamp c.self.inside.log.entries c.args.entry.now (c.self.invariant e) c.requires.records (subst (λ (h : HomelessState). last_stamp_from h.kept_stamp h.log < c.args.entry.now.stamp) (sym c.self.view_is) c.requires.later)))
