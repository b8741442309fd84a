use Rattle.std.proofs.Common.{◌≡◌, ◌+◌, Some, None, Option, drop, sym, ◌∙◌, ap}
use Rattle.std.specs.Option.{option_or, option_copied}
use Rattle.tatp_extents.specs.Extents.{ExtentState}
use Rattle.tatp_partition.specs.Sites.{slot}
use Rattle.tatp_settle.proofs.LogLaws.{found_in, found_step}
use Rattle.tatp_settle.proofs.logs.extent_at.Goals as goal

pub returns-in-Some : goal.returns-in-Some
returns-in-Some c =
    let here : slot c.site-item.result.slots c.args.number ≡ Some c.in-Some.extent.now = sym c.extent.ensures ∙ ap option_copied c.in-Some.is in
    ap (λ (v : Option ExtentState). option_or v (found_in (drop (c.sites.site-index + 1) c.args.sites.now) c.args.number)) (sym here)
    ∙ (sym (found_step c.args.sites.now c.sites.site-index c.site-item.result c.args.number c.sites-test.true c.site-item.is c.requires) ∙ c.sites.invariant)

pub sites-preserved : goal.sites-preserved
sites-preserved c =
    let here : slot c.site-item.result.slots c.args.number ≡ None = sym c.extent.ensures ∙ ap option_copied c.in_default.is in
    ap (λ (v : Option ExtentState). option_or v (found_in (drop (c.sites.site-index + 1) c.args.sites.now) c.args.number)) (sym here)
    ∙ (sym (found_step c.args.sites.now c.sites.site-index c.site-item.result c.args.number c.sites-test.true c.site-item.is c.requires) ∙ c.sites.invariant)
