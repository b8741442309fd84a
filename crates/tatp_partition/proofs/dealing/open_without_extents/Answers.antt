use Rattle.std.proofs.Common.{ℕ, ◌≡◌, ◌+◌, [], List, Some, length, slice_get, rules, arith, sym, ◌∙◌, ap, subst}
use Rattle.tatp_extents.specs.Extents.{ExtentState}
use Rattle.tatp_partition.specs.Opening.{AreNumbered, opened_site}
use Rattle.tatp_partition.specs.Sites.{SiteState}
use Rattle.tatp_partition.proofs.DealLaws.{no_extents}
use Rattle.tatp_partition.proofs.OpenedSitesLaws.{AreOpened, one_more_site, length_pushed}
use Rattle.tatp_partition.proofs.dealing.open_without_extents.Goals as goal

pub loop-partition-init : goal.loop-partition-init
loop-partition-init c = record {
  made = ap length c.in_ok-sites.ensures.items;
  each = λ p s is. absurd (let e : slice_get [] p ≡ Some s = ap (λ (t : List SiteState). slice_get t p) (sym c.in_ok-sites.ensures.items) ∙ is in cc);
  room = search rules;
}

pub open-requires : goal.open-requires
open-requires c = record { numbers = subst (AreNumbered c.args.count) (sym c.new.ensures.items) (no_extents c.args.count) }

pub loop-partition-preserved : goal.loop-partition-preserved
loop-partition-preserved c = record {
  made = ap length c.push_reserved.ensures.items ∙ length_pushed c.loop-partition.sites.items c.in-Ok.site ∙ ap (λ (n : ℕ). n + 1) c.loop-partition.invariant.made;
  each = subst (AreOpened c.args.loaded.now c.args.partitions c.args.count) (sym c.push_reserved.ensures.items)
      (one_more_site c.args.loaded.now c.args.partitions c.loop-partition.partition c.args.count c.loop-partition.sites.items c.in-Ok.site c.loop-partition.invariant.each c.loop-partition.invariant.made
      (record {
        site = c.in-Ok.ensures.site;
        fields = c.in-Ok.ensures.fields ∙ ap (λ (xs : List ExtentState). opened_site c.args.loaded.now c.loop-partition.partition c.args.count xs c.in-Ok.site.standard) c.new.ensures.items;
      }));
  room = search rules;
}

pub returns : goal.returns
returns c = record { count = omega (arith, c.loop-partition.invariant.made); each = c.loop-partition.invariant.each }
