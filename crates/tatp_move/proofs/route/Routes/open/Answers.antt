use Rattle.std.proofs.Common.{ℕ, List, rules, arith, ◌≡◌, ◌+◌, ◌∙◌, ap, map}
use Rattle.std.specs.List.{range_with_len}
use Rattle.tatp_extents.specs.Opening.{extent_count}
use Rattle.tatp_move.specs.declared.route.Route.{Route}
use Rattle.tatp_move.specs.Routing.{opening_route}
use Rattle.tatp_move.proofs.RouteLaws.{one_more, count_of_routes}
use Rattle.tatp_move.proofs.route.Routes.open.Goals as goal

pub loop-e-init : goal.loop-e-init
loop-e-init c = record { routes = search rules; room = search rules }

pub push_reserved-requires : goal.push_reserved-requires
push_reserved-requires c =
    let n = count_of_routes c.args.partitions c.loop-e.e c.loop-e.routes.items c.loop-e.invariant.routes in
    omega (arith, n, c.loop-e.invariant.room, c.loop-e-test.true)

pub loop-e-preserved : goal.loop-e-preserved
loop-e-preserved c = record { routes = rw (c.push_reserved.ensures.items, c.saturating_sub.ensures) (one_more c.args.partitions c.loop-e.e c.loop-e.routes.items c.loop-e.invariant.routes); room = search rules }

pub invariant_of-result : goal.invariant_of-result
invariant_of-result c =
    let n = count_of_routes c.args.partitions c.loop-e.e c.loop-e.routes.items c.loop-e.invariant.routes in
    (omega (arith, n), c.requires.few)

pub returns : goal.returns
returns c =
    let last : c.loop-e.e ≡ extent_count c.args.subscribers + 1 = omega arith in
    ap (λ (t : List Route). record { subscribers = c.args.subscribers; partitions = c.args.partitions; routes = t }) (c.loop-e.invariant.routes ∙ ap (λ (n : ℕ). map (opening_route c.args.partitions) (range_with_len 0 n)) last)
