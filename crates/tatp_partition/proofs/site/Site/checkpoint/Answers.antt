use Rattle.std.proofs.Common.{Result, Ok, Err, ap, sym, ◌∙◌, subst}
use Rattle.std.proofs.lemmas.Result.{err_from_is_err_and}
use Rattle.tatp_extents.specs.Chapters.{ChapterState}
use Rattle.tatp_partition.specs.declared.refusal.SiteRefusal.{SiteRefusal}
use Rattle.tatp_partition.specs.Sites.{SiteState}
use Rattle.tatp_partition.specs.Checkpointing.{Checkpoints, KeepsLastStamps}
use Rattle.tatp_partition.specs.Fields.{site_of}
use Rattle.tatp_partition.proofs.CheckpointLaws.{idle_of, Checkpointed, checkpointed}
use Rattle.tatp_partition.proofs.site.Site.checkpoint.Goals as goal

-- refused
kept : (c : goal.After-from_residual-in_err-handed_out) → Checkpointed c.self.inside c.args.e (Err c.in_err-handed_out.field-0.0) c.lower.new.self
kept c = checkpointed c.self.inside c.args.e c.in-Some.extent c.checkpoint-handed_out.new.self (Err c.in_err-handed_out.field-0.0) c.lift.new.self c.lower.new.self c.self.invariant
    (idle_of c.self.inside.running (sym c.is_some.ensures ∙ c.if-is_some.false)) c.if-e-eq0.false c.in-Some.ensures.found
    c.in_err-handed_out.ensures.checks c.in_err-handed_out.ensures.stamp c.in_err-handed_out.ensures.extent c.in-Some.ensures.left c.lower.ensures

abbrev site_kept : goal.After-from_residual-in_err-handed_out → SiteState
site_kept c = site_of (record c.self.inside { slots = c.lower.new.self })

pub invariant_of-self-in_err-handed_out : goal.invariant_of-self-in_err-handed_out
invariant_of-self-in_err-handed_out c = (kept c).sound

pub returns-in_err-handed_out-clause-checkpoints : goal.returns-in_err-handed_out-clause-checkpoints
returns-in_err-handed_out-clause-checkpoints c =
    let p = err_from_is_err_and c.from_residual-in_err-handed_out.result c.from_residual-in_err-handed_out.ensures.1 in
    subst (λ (s : SiteState). Checkpoints s c.args.e c.from_residual-in_err-handed_out.result (site_kept c)) c.self.view_is
    (subst (λ (r : Result ChapterState SiteRefusal). Checkpoints (site_of c.self.inside) c.args.e r (site_kept c)) (sym (p.1 ∙ ap Err p.2)) (kept c).answers)

pub returns-in_err-handed_out-clause-stamp : goal.returns-in_err-handed_out-clause-stamp
returns-in_err-handed_out-clause-stamp c = subst (λ (s : SiteState). KeepsLastStamps s (site_kept c)) c.self.view_is (kept c).stamps

pub returns-in_err-handed_out-clause-site : goal.returns-in_err-handed_out-clause-site
returns-in_err-handed_out-clause-site c = (kept c).sound.site

-- handed out
handed : (c : goal.In_ok-handed_out) → Checkpointed c.self.inside c.args.e (Ok c.in_ok-handed_out.field-0) c.lower.new.self
handed c = checkpointed c.self.inside c.args.e c.in-Some.extent c.checkpoint-handed_out.new.self (Ok c.in_ok-handed_out.field-0) c.lift.new.self c.lower.new.self c.self.invariant
    (idle_of c.self.inside.running (sym c.is_some.ensures ∙ c.if-is_some.false)) c.if-e-eq0.false c.in-Some.ensures.found
    c.in_ok-handed_out.ensures.checks c.in_ok-handed_out.ensures.stamp c.in_ok-handed_out.ensures.extent c.in-Some.ensures.left c.lower.ensures

abbrev site_after : goal.In_ok-handed_out → SiteState
site_after c = site_of (record c.self.inside { slots = c.lower.new.self })

pub invariant_of-self-2 : goal.invariant_of-self-2
invariant_of-self-2 c = (handed c).sound

pub returns-clause-checkpoints : goal.returns-clause-checkpoints
returns-clause-checkpoints c = subst (λ (s : SiteState). Checkpoints s c.args.e (Ok c.in_ok-handed_out.field-0) (site_after c)) c.self.view_is (handed c).answers

pub returns-clause-stamp : goal.returns-clause-stamp
returns-clause-stamp c = subst (λ (s : SiteState). KeepsLastStamps s (site_after c)) c.self.view_is (handed c).stamps

pub returns-clause-site : goal.returns-clause-site
returns-clause-site c = (handed c).sound.site
