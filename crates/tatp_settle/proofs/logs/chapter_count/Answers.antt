use Rattle.std.proofs.Common.{◌∙◌, Option, Some, None, sym, ap}
use Rattle.std.specs.Option.{option_copied, option_map_or}
use Rattle.tatp_settle.specs.Closings.{ExtentLog}
use Rattle.tatp_settle.proofs.NumberedLaws.{homeless_is, extent_is}
use Rattle.tatp_settle.proofs.logs.chapter_count.Goals as goal

pub returns-in-Some : goal.returns-in-Some
returns-in-Some c =
    c.homeless_chapters.ensures
    ∙ sym (ap (λ (v : Option ExtentLog). option_map_or (λ (log : ExtentLog). log.chapters) v 0)
    (homeless_is c.args.closed.now c.args.number c.sites.result.now (Some c.in-Some.site.now) c.sites.ensures.sound c.if-number-eq0.true c.sites.ensures.value (sym (ap option_copied c.in-Some.is) ∙ c.homeless_at.ensures)))

pub returns-in-None : goal.returns-in-None
returns-in-None c =
    sym (ap (λ (v : Option ExtentLog). option_map_or (λ (log : ExtentLog). log.chapters) v 0)
    (homeless_is c.args.closed.now c.args.number c.sites.result.now None c.sites.ensures.sound c.if-number-eq0.true c.sites.ensures.value (sym (ap option_copied c.in-None.is) ∙ c.homeless_at.ensures)))

pub returns-in-Some-extent_numbered : goal.returns-in-Some-extent_numbered
returns-in-Some-extent_numbered c =
    c.chapters.ensures
    ∙ sym (ap (λ (v : Option ExtentLog). option_map_or (λ (log : ExtentLog). log.chapters) v 0)
    (extent_is c.args.closed.now c.args.number (Some c.in-Some-extent_numbered.extent.now) c.if-number-eq0.false (sym (ap option_copied c.in-Some-extent_numbered.is) ∙ c.extent_numbered.ensures)))

pub returns-in-None-extent_numbered : goal.returns-in-None-extent_numbered
returns-in-None-extent_numbered c =
    sym (ap (λ (v : Option ExtentLog). option_map_or (λ (log : ExtentLog). log.chapters) v 0)
    (extent_is c.args.closed.now c.args.number None c.if-number-eq0.false (sym (ap option_copied c.in-None-extent_numbered.is) ∙ c.extent_numbered.ensures)))
