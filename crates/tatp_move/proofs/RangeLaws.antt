-- A plan moves the extents in which the subscribers of its range lie.
use Rattle.std.proofs.Common.{◌≡◌, ◌↔◌, ℕ, ◌*◌, ◌-◌, ◌≤◌, ◌<◌, ◌==◌, ◌||◌, nat_lt, nat_le, Bool, true, false, if◌then◌else◌, Ok, Err, refl, subst, arith}
use Rattle.std.proofs.lemmas.Bool.Decides.{nat_tests}
use Rattle.tatp_limits.specs.declared.limits.TheConstants.{EXTENT_SUBSCRIBERS}
use Rattle.tatp_extents.specs.Extents.{extent_of}
use Rattle.tatp_move.specs.declared.plan.Plan.{Plan}
use Rattle.tatp_move.specs.declared.plan.MoveRefusal.TheVariants.{NoExtent, NoPartition, SamePartition}
use Rattle.tatp_move.specs.Ranges.{Range, plan_of, Moves, Meets}
use Rattle.tatp_move.specs.Routing.{RoutesState}

-- nothing stood against a plan that is there
planned : (a b c : Bool) (p plan : Plan) → (if a then Err NoExtent else if b then Err NoPartition else if c then Err SamePartition else Ok p) ≡ Ok plan → (a ≡ false) × (p ≡ plan)
planned false false false p plan h = (refl, cc)
planned false false true p plan h = absurd cc
planned false true c p plan h = absurd cc
planned true b c p plan h = absurd cc

-- an extent between those of two subscribers has a subscriber between them
between : (lo hi e : ℕ) → 1 ≤ lo → lo ≤ hi → extent_of lo ≤ e → e ≤ extent_of hi → (s : ℕ) × (lo ≤ s) × (s ≤ hi) × (extent_of s ≡ e)
between lo hi e least range from to =
    elim (nat_lt (EXTENT_SUBSCRIBERS * e - (EXTENT_SUBSCRIBERS - 1)) lo) as (λ b. nat_lt (EXTENT_SUBSCRIBERS * e - (EXTENT_SUBSCRIBERS - 1)) lo ≡ b → (s : ℕ) × (lo ≤ s) × (s ≤ hi) × (extent_of s ≡ e)) [
      | true ↦ λ q. let later : EXTENT_SUBSCRIBERS * e - (EXTENT_SUBSCRIBERS - 1) < lo = grind (arith, nat_tests, q) in (lo, omega arith, range, omega (arith, later, from))
      | false ↦ λ q.
          let later : lo ≤ EXTENT_SUBSCRIBERS * e - (EXTENT_SUBSCRIBERS - 1) = grind (arith, nat_tests, q) in
          (EXTENT_SUBSCRIBERS * e - (EXTENT_SUBSCRIBERS - 1), later, omega (arith, to, least, later), omega (arith, least, later))
    ] refl

pub moves_what_it_meets : (r : RoutesState) (range : Range) (plan : Plan) (e : ℕ) → plan_of r range ≡ Ok plan → Moves plan e ↔ Meets range e
moves_what_it_meets r range plan e h =
    let p : Plan = record { first = extent_of range.lo; last = extent_of range.hi; from = range.from; to = range.to } in
    let is = planned (range.lo == 0 || nat_lt range.hi range.lo || nat_lt r.subscribers range.hi) (nat_le r.partitions range.from || nat_le r.partitions range.to) (range.from == range.to) p plan h in
    let least : 1 ≤ range.lo = grind (arith, nat_tests, is.0) in
    let ordered : range.lo ≤ range.hi = grind (arith, nat_tests, is.0) in
    subst (λ (t : Plan). Moves t e ↔ Meets range e) is.1 (
      (λ m. between range.lo range.hi e least ordered m.0 m.1),
      (λ m. (let low : range.lo ≤ m.0 = m.1 in let at : extent_of m.0 ≡ e = m.3 in omega (arith, low, at), let high : m.0 ≤ range.hi = m.2 in let at : extent_of m.0 ≡ e = m.3 in omega (arith, high, at))),
    )
