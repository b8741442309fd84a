use Rattle.std.proofs.Common.{◌≡◌, Some, slice_get, refl, subst}
use Rattle.tatp_history.specs.declared.observed.Observed.{Observed}
use Rattle.tatp_linearization.specs.declared.configuration.Configuration.{Configuration as Held}
use Rattle.tatp_linearization.specs.Overwritten.{SetsLocation}
use Rattle.tatp_linearization.specs.Held.{Takes}
use Rattle.tatp_linearization.specs.Ahead.{LooksAhead}
use Rattle.tatp_linearization.proofs.PlaceLaws.{get_at, same_item}
use Rattle.tatp_linearization.proofs.CoveringLaws.{taken_on, taken_fewer}
use Rattle.tatp_linearization.proofs.TakingLaws.{cleared_on}
use Rattle.tatp_linearization.proofs.taking.with_clusters_gone.Goals as goal

pub returns-then-not-updates_location : goal.returns-then-not-updates_location
returns-then-not-updates_location c = taken_on c.args.c.now c.args.d c.args.i c.requires.taken c.requires.accepted (LooksAhead c.args.ahead.now c.args.now)

pub let_clusters_go-requires : goal.let_clusters_go-requires
let_clusters_go-requires c = record { accepted = (taken_fewer c.args.c.now c.args.d c.args.i c.requires.taken c.requires.accepted).accepted c.requires.accepted }

pub returns : goal.returns
returns c =
    let x : Observed = c.index.result.now in
    let at : slice_get c.args.c.now.opened.items c.args.i ≡ Some x = get_at _ _ _ c.requires.inside c.index.ensures in
    let taken : Takes c.args.c.now c.args.i (Some c.args.d) = c.requires.taken in
    let one : x ≡ taken.0 = same_item c.args.c.now.opened.items c.args.i x taken.0 at taken.1.at in
    let sets : SetsLocation c.args.c.now.home.tables taken.0.call = subst (λ (y : Observed). SetsLocation c.args.c.now.home.tables y.call) one (c.updates_location.ensures.0 c.if-not-updates_location.false) in
    let e : Held = record { home = c.args.d.home; opened = c.let_clusters_go.new.opened; overwritten = c.args.d.overwritten } in
    cleared_on c.args.c.now c.args.d e c.args.i taken c.requires.accepted sets refl refl c.let_clusters_go.ensures.gone
    c.args.ahead.now c.args.now c.let_clusters_go.ensures.kept
