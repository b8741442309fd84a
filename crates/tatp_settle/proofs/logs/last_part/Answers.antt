use Rattle.std.proofs.Common.{◌∙◌, Option, [], Some, None, sym, ap}
use Rattle.std.specs.Option.{option_copied, option_map, option_map_or}
use Rattle.tatp_settle.specs.declared.log_parts.LogPart.{LogPart}
use Rattle.tatp_settle.specs.ChapterTables.{entries_of_some}
use Rattle.tatp_settle.specs.Closings.{ExtentLog}
use Rattle.tatp_settle.proofs.NumberedLaws.{homeless_is, extent_is}
use Rattle.tatp_settle.proofs.logs.last_part.Goals as goal

pub returns-then-number-eq0 : goal.returns-then-number-eq0
returns-then-number-eq0 c =
    let is = homeless_is c.args.closed.now c.args.number c.sites.result.now (Some c.in_ok-site.site.now) c.sites.ensures.sound c.if-number-eq0.true c.sites.ensures.value (sym (ap option_copied c.in_ok-site.was) ∙ c.homeless_at.ensures) in
    record {
      before = sym (ap (option_map (λ (log : ExtentLog). log.opening)) is);
      entries = c.homeless_log.ensures ∙ sym (ap (λ (v : Option ExtentLog). option_map_or (λ (log : ExtentLog). log.entries) v []) is);
    }

pub returns-in_err-site : goal.returns-in_err-site
returns-in_err-site c =
    let is = homeless_is c.args.closed.now c.args.number c.sites.result.now None c.sites.ensures.sound c.if-number-eq0.true c.sites.ensures.value (sym (ap option_copied c.in_err-site.was) ∙ c.homeless_at.ensures) in
    record {
      before = ap (option_map (λ (part : LogPart). part.before.now)) c.from_residual.ensures ∙ sym (ap (option_map (λ (log : ExtentLog). log.opening)) is);
      entries = ap entries_of_some c.from_residual.ensures ∙ sym (ap (λ (v : Option ExtentLog). option_map_or (λ (log : ExtentLog). log.entries) v []) is);
    }

pub returns : goal.returns
returns c =
    let is = extent_is c.args.closed.now c.args.number (Some c.in_ok-extent.extent.now) c.if-number-eq0.false (sym (ap option_copied c.in_ok-extent.was) ∙ c.extent_numbered.ensures) in
    record {
      before = ap Some c.opening.ensures ∙ sym (ap (option_map (λ (log : ExtentLog). log.opening)) is);
      entries = c.log.ensures ∙ sym (ap (λ (v : Option ExtentLog). option_map_or (λ (log : ExtentLog). log.entries) v []) is);
    }

pub returns-in_err-extent : goal.returns-in_err-extent
returns-in_err-extent c =
    let is = extent_is c.args.closed.now c.args.number None c.if-number-eq0.false (sym (ap option_copied c.in_err-extent.was) ∙ c.extent_numbered.ensures) in
    record {
      before = ap (option_map (λ (part : LogPart). part.before.now)) c.from_residual-in_err-extent.ensures ∙ sym (ap (option_map (λ (log : ExtentLog). log.opening)) is);
      entries = ap entries_of_some c.from_residual-in_err-extent.ensures ∙ sym (ap (λ (v : Option ExtentLog). option_map_or (λ (log : ExtentLog). log.entries) v []) is);
    }
