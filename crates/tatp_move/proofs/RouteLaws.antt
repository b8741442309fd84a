-- Routes that were just opened.
use Rattle.std.proofs.Common.{◌≡◌, ℕ, ◌+◌, List, [], ◌∷◌, ◌++◌, map, length, arith, ◌∙◌, ap, sym}
use Rattle.std.specs.List.{range_with_len}
use Rattle.std.proofs.lemmas.List.FromFn.{map-range_with_len_more, length-map-range_with_len}
use Rattle.tatp_move.specs.declared.route.Route.{Route}
use Rattle.tatp_move.specs.Routing.{opening_route}

pub one_more : (partitions e : ℕ) (routes : List Route) → routes ≡ map (opening_route partitions) (range_with_len 0 e) → routes ++ opening_route partitions e ∷ [] ≡ map (opening_route partitions) (range_with_len 0 (e + 1))
one_more partitions e routes h = ap (λ t. t ++ opening_route partitions e ∷ []) h ∙ sym (map-range_with_len_more (opening_route partitions) 0 e e (omega arith))

pub count_of_routes : (partitions n : ℕ) (routes : List Route) → routes ≡ map (opening_route partitions) (range_with_len 0 n) → length routes ≡ n
count_of_routes partitions n routes h = ap length h ∙ length-map-range_with_len (opening_route partitions) 0 n
