use Rattle.std.proofs.Common.{◌≡◌, true, is_some, sym, subst}
use Rattle.tatp_partition.specs.declared.site.running.StepKind.TheVariants.{Step}
use Rattle.tatp_partition.specs.Fields.{site_of}
use Rattle.tatp_partition.specs.Running.{GoesOnFor}
use Rattle.tatp_partition.specs.Sites.{SiteState}
use Rattle.tatp_partition.proofs.StepLaws.{may_advance, may_turn}
use Rattle.tatp_partition.proofs.CompletionLaws.{ready_to_end, HasEnded, has_ended}
use Rattle.tatp_partition.proofs.FinishLaws.{IsLastStep, last_at, place_to_end}
use Rattle.tatp_partition.proofs.site.Site.finish_into.Goals as goal

pub finish-end-requires : goal.finish-end-requires
finish-end-requires c = may_turn c.self.inside c.self.invariant
    (subst (λ (s : SiteState). is_some s.running ≡ true) (sym c.self.view_is) (may_advance Step c.args.self.now (sym c.in-None.ensures)))

-- ---- the last step
pub end-requires-clause-ready : goal.end-requires-clause-ready
end-requires-clause-ready c =
    let l = last_at c.self.inside c.args.self.now c.finish-end.result c.finish-end.new.self c.is_empty.result c.finish-end.ensures c.self.invariant c.self.view_is (sym c.in-None.ensures) c.is_empty.ensures c.if-not-is_empty.false in
    ready_to_end (record c.self.inside { running = c.finish-end.ensures.mid }) c.finish-end.new.self c.finish-end.result l.sound c.finish-end.ensures.ends

pub end-requires-clause-place : goal.end-requires-clause-place
end-requires-clause-place c =
    let l = last_at c.self.inside c.args.self.now c.finish-end.result c.finish-end.new.self c.is_empty.result c.finish-end.ensures c.self.invariant c.self.view_is (sym c.in-None.ensures) c.is_empty.ensures c.if-not-is_empty.false in
    place_to_end (record c.self.inside { running = c.finish-end.ensures.mid }) c.finish-end.new.self c.finish-end.result l.sound c.finish-end.ensures.ends

-- ---- after it
last : (c : goal.After-end) → IsLastStep c.self.inside c.finish-end.ensures.mid
last c = last_at c.self.inside c.args.self.now c.finish-end.result c.finish-end.new.self c.is_empty.result c.finish-end.ensures c.self.invariant c.self.view_is (sym c.in-None.ensures) c.is_empty.ensures c.if-not-is_empty.false

ended : (c : goal.After-end) → HasEnded (record c.self.inside { running = c.finish-end.ensures.mid }) c.end.new.slots c.end.new.self c.end.new.homeless c.end.ensures.ended.0
ended c =
    let e = c.end in
    let left = e.ensures.ended in
    has_ended (record c.self.inside { running = c.finish-end.ensures.mid }) c.finish-end.new.self e.new.self c.finish-end.result e.new.slots e.new.homeless left.0 (last c).sound c.finish-end.ensures.ends e.ensures.running left.2 left.3 e.ensures.history

pub invariant_of-self : goal.invariant_of-self
invariant_of-self c = (ended c).sound

pub returns-in-None-clause-steps : goal.returns-in-None-clause-steps
returns-in-None-clause-steps c =
    let l = last c in
    let mid : SiteState = site_of (record c.self.inside { running = c.finish-end.ensures.mid }) in
    record {
      steps = l.steps;
      mid = mid;
      goes_on = subst (λ (s : SiteState). GoesOnFor l.steps s mid) c.self.view_is l.moves;
      advances = (l.free, rw (c.end.ensures.ended.1) (ended c).ends);
    }

pub returns-in-None-clause-site : goal.returns-in-None-clause-site
returns-in-None-clause-site c = (ended c).sound.site
