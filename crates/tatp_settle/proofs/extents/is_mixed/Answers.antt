use Rattle.std.proofs.Common.{List, true, refl, ◌∙◌, ap, sym, subst}
use Rattle.std.specs.Bool.{Decides}
use Rattle.std.specs.List.{list_any}
use Rattle.tatp_extents.specs.Extents.{ExtentState}
use Rattle.tatp_settle.specs.Closings.{ClosedSiteState}
use Rattle.tatp_settle.specs.Causes.{IsMixed}
use Rattle.tatp_settle.specs.ExtentTests.{mixed_here, mixed_as}
use Rattle.tatp_settle.proofs.LogTestLaws.{mixed_is}
use Rattle.tatp_settle.proofs.extents.is_mixed.Goals as goal

pub returns-then-is_mixed_at : goal.returns-then-is_mixed_at
returns-then-is_mixed_at c =
    subst (λ r. Decides r (IsMixed c.args.closed.now c.args.number)) (sym c.if-is_mixed_at.true)
    (mixed_is c.args.closed.now c.args.number c.sites.ensures.sound true (list_any (mixed_as c.args.number) c.args.closed.now.parcels)
    (sym c.if-is_mixed_at.true ∙ (c.is_mixed_at.ensures ∙ ap (λ (xs : List ClosedSiteState). list_any (λ s. mixed_here s c.args.number) xs) c.sites.ensures.value)) refl)

pub returns-else-is_mixed_at : goal.returns-else-is_mixed_at
returns-else-is_mixed_at c =
    mixed_is c.args.closed.now c.args.number c.sites.ensures.sound _ c.is_mixed_in.result
    (sym c.if-is_mixed_at.false ∙ (c.is_mixed_at.ensures ∙ ap (λ (xs : List ClosedSiteState). list_any (λ s. mixed_here s c.args.number) xs) c.sites.ensures.value))
    (c.is_mixed_in.ensures ∙ ap (λ (xs : List ExtentState). list_any (mixed_as c.args.number) xs) c.parcels.ensures)
