use Rattle.std.proofs.Common.{◌≡◌, ◌∷◌, [], ◌++◌, List, map, reverse, sym, ◌∙◌, ap, subst, arith}
use Rattle.std.proofs.lemmas.List.Elements.{All-push}
use Rattle.std.specs.List.{All}
use Rattle.tatp_partition.specs.Sites.{SiteState}
use Rattle.tatp_settle.specs.Closings.{ClosedSiteState, closed_site, IsClosedSite}
use Rattle.tatp_settle.proofs.ClosingLaws.{one_popped}
use Rattle.tatp_settle.proofs.gathering.close_all.Goals as goal

pub loop-site-preserved : goal.loop-site-preserved
loop-site-preserved c =
    let pushed : c.push_reserved.new.self.items ≡ c.loop-site.closed.items ++ closed_site c.in-Some.site ∷ [] =
    c.push_reserved.ensures.items ∙ ap (λ (x : ClosedSiteState). c.loop-site.closed.items ++ x ∷ []) c.close.ensures.value in
    record {
      closed =
          ap (λ (xs : List ClosedSiteState). map closed_site c.pop.new.self.items ++ reverse xs) pushed
          ∙ (one_popped closed_site c.pop.new.self.items c.in-Some.site c.loop-site.closed.items
          ∙ (ap (λ (xs : List SiteState). map closed_site xs ++ reverse c.loop-site.closed.items) (sym c.in-Some.ensures.items) ∙ c.loop-site.invariant.closed));
      holds = subst (All IsClosedSite) (sym c.push_reserved.ensures.items) (All-push IsClosedSite c.loop-site.closed.items c.close.result c.loop-site.invariant.holds c.close.ensures.holds);
      room = omega (arith, c.in-Some.ensures);
    }
