-- What the mover has done so far, and at the end.
use Rattle.std.proofs.Common.{◌≡◌, ℕ, ◌≤◌, ◌==◌, ◌||◌, nat_lt, nat_le, Bool, true, false, if◌then◌else◌, List, [], ◌∷◌, ◌++◌, Option, Some, None, Result, Ok, Err, IfOk, length, slice_get, refl, sym, ◌∙◌, subst, inl, inr, arith}
use Rattle.std.proofs.lemmas.Bool.Decides.{nat_tests}
use Rattle.std.proofs.lemmas.List.{append-nil}
use Rattle.tatp_extents.specs.Extents.{ExtentState, first_subscriber, extent_of}
use Rattle.tatp_partition.specs.declared.refusal.SiteRefusal.{SiteRefusal}
use Rattle.tatp_move.specs.declared.plan.Plan.{Plan}
use Rattle.tatp_move.specs.declared.plan.MoveRefusal.{MoveRefusal}
use Rattle.tatp_move.specs.declared.plan.MoveRefusal.TheVariants.{NoExtent, NoPartition, SamePartition}
use Rattle.tatp_move.specs.Routing.{RoutesState, route_of}
use Rattle.tatp_workers.specs.declared.mover.MoveEffect.{MoveEffect}
use Rattle.tatp_workers.specs.declared.mover.MoveEffect.TheVariants.{Plans, Takes}
use Rattle.tatp_workers.specs.Growing.{Grows, Does}
use Rattle.tatp_workers.specs.Carrying.{plan_to, IsPlanOf, Delivers, MakesMove, IsMade, MovesAll}
use Rattle.tatp_workers.proofs.GrowthLaws.{grown_twice, Dealt}

-- ---- the plan
-- what every obstacle leaves of an answer
unless_refused : (a b c d : Bool) (Is : Plan → Type 0) (plan : Plan) → (a ≡ false → Is plan) → IfOk (if a then Err NoExtent else if b then Err NoExtent else if c then Err NoPartition else if d then Err SamePartition else Ok plan) Is
unless_refused true b c d Is plan is = tt
unless_refused false true c d Is plan is = tt
unless_refused false false true d Is plan is = tt
unless_refused false false false true Is plan is = tt
unless_refused false false false false Is plan is = is refl

pub planned : (r : RoutesState) (extent to : ℕ) (answer : Result Plan MoveRefusal) → answer ≡ plan_to r extent to → IfOk answer (IsPlanOf extent to)
planned r extent to answer h =
    let s = first_subscriber extent in
    let from = route_of r (Some s) in
    let plan : Plan = record { first = extent_of s; last = extent_of s; from = from; to = to } in
    let own : extent == 0 ≡ false → extent_of s ≡ extent = (λ e. let least : 1 ≤ extent = grind (arith, nat_tests, e) in omega (arith, least)) in
    subst (λ (x : Result Plan MoveRefusal). IfOk x (IsPlanOf extent to)) (sym h)
    (unless_refused (extent == 0) (s == 0 || nat_lt s s || nat_lt r.subscribers s) (nat_le r.partitions from || nat_le r.partitions to) (from == to) (IsPlanOf extent to) plan (λ e. (own e, own e, refl)))

-- ---- one move
pub taken : (extent to : ℕ) (plan : Plan) (e : ℕ) (back : Option ExtentState) (known planned taken_known known' : Option (List MoveEffect))
    → IsPlanOf extent to plan
    → Grows known planned (Plans extent to (Ok plan) ∷ [])
    → Grows planned taken_known (Takes plan.from plan.first None ∷ [])
    → e ≡ plan.first
    → Does (Delivers plan.to e back) taken_known known'
    → Does (MakesMove extent to back) known known'
taken extent to plan e back known planned taken_known known' is a b same c =
    let delivered : Delivers to extent back c.0 = subst (λ (p : ℕ). Delivers p extent back c.0) is.2 (subst (λ (n : ℕ). Delivers plan.to n back c.0) (same ∙ is.0) c.1) in
    let took : Grows planned taken_known (Takes plan.from extent None ∷ []) = subst (λ (n : ℕ). Grows planned taken_known (Takes plan.from n None ∷ [])) is.0 b in (
      Plans extent to (Ok plan) ∷ Takes plan.from extent None ∷ c.0,
      inr (inr (plan, c.0, delivered, refl)),
      grown_twice known planned known' (Plans extent to (Ok plan) ∷ []) (Takes plan.from extent None ∷ c.0) a (grown_twice planned taken_known known' (Takes plan.from extent None ∷ []) c.0 took c.2),
    )

pub not_taken : (extent to : ℕ) (plan : Plan) (refusal : SiteRefusal) (known planned known' : Option (List MoveEffect))
    → IsPlanOf extent to plan
    → Grows known planned (Plans extent to (Ok plan) ∷ [])
    → Grows planned known' (Takes plan.from plan.first (Some refusal) ∷ [])
    → Does (MakesMove extent to None) known known'
not_taken extent to plan refusal known planned known' is a b =
    let took : Grows planned known' (Takes plan.from extent (Some refusal) ∷ []) = subst (λ (n : ℕ). Grows planned known' (Takes plan.from n (Some refusal) ∷ [])) is.0 b in (
      Plans extent to (Ok plan) ∷ Takes plan.from extent (Some refusal) ∷ [],
      inr (inl (plan, refusal, refl, refl)),
      grown_twice known planned known' (Plans extent to (Ok plan) ∷ []) (Takes plan.from extent (Some refusal) ∷ []) a took,
    )

-- ---- all moves
pub all_moved : (moves : List (ℕ × ℕ)) (n : ℕ) (known known' : Option (List MoveEffect)) (hand hand' : List ExtentState)
    → Dealt IsMade moves n known known' → n ≡ length moves → hand' ≡ hand → MovesAll moves known known' hand hand'
all_moved moves n known known' hand hand' before all same = (
  before.0,
  [],
  record { made = n; before = before.0; in_turn = before.1; rest = inl (all, refl, refl) },
  before.2,
  same ∙ sym (append-nil hand),
)

pub last_moved : (moves : List (ℕ × ℕ)) (n : ℕ) (move : ℕ × ℕ) (back : ExtentState) (known mid known' : Option (List MoveEffect)) (hand hand' : List ExtentState)
    → Dealt IsMade moves n known mid
    → slice_get moves n ≡ Some move
    → Does (MakesMove move.0 move.1 (Some back)) mid known'
    → hand' ≡ hand ++ back ∷ []
    → MovesAll moves known known' hand hand'
last_moved moves n move back known mid known' hand hand' before at these pushed = (
  before.0 ++ these.0,
  back ∷ [],
  record { made = n; before = before.0; in_turn = before.1; rest = inr (move, back, these.0, at, these.1, refl, refl) },
  grown_twice known mid known' before.0 these.0 before.2 these.2,
  pushed,
)
