use Rattle.std.proofs.Common.{◌≡◌, Some, slice_get, sym, ◌∙◌, subst}
use Rattle.tatp_history.specs.declared.observed.Observed.{Observed}
use Rattle.tatp_linearization.specs.Doomed.{NoneSets}
use Rattle.tatp_linearization.proofs.PlaceLaws.{get_at}
use Rattle.tatp_linearization.proofs.DoomedLaws.{get_in}
use Rattle.tatp_linearization.proofs.AheadLaws.{saw_location}
use Rattle.tatp_linearization.proofs.doomed.is_stuck.Goals as goal

pub returns-else-not-none_sets : goal.returns-else-not-none_sets
returns-else-not-none_sets c =
    let x : Observed = c.index-x.result.now in
    let at : slice_get c.args.c.now.opened.items c.args.place ≡ Some x = get_at _ _ _ c.requires.inside c.index-x.ensures in
    λ yes. (
      x,
      c.in-Some.location,
      record {
        there = get_in c.args.c.now.opened.items c.args.place x at;
        saw = saw_location c.in-Some.location x (sym c.location_seen.ensures ∙ c.in-Some.is);
        rows = c.has_location.ensures c.if-has_location.false;
        opened = subst (NoneSets c.in-Some.location) c.as_slice.ensures.value (c.none_sets.ensures c.if-not-none_sets.false);
        later = c.none_sets_until.ensures yes;
      },
    )
