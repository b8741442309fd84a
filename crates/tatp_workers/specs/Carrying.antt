-- What the mover does, one thing after another.
use Rattle.std.specs.Prelude.{◌≡◌, ◌⊎◌, ℕ, List, [], ◌∷◌, ◌++◌, length, Bool, true, false, ◌==◌, if◌then◌else◌, Option, Some, None, Result, Ok, Err, slice_get}
use Rattle.tatp_extents.specs.Extents.{ExtentState, first_subscriber}
use Rattle.tatp_partition.specs.declared.refusal.SiteRefusal.{SiteRefusal}
use Rattle.tatp_partition.specs.Moving.{LandedState}
use Rattle.tatp_move.specs.declared.plan.Plan.{Plan}
use Rattle.tatp_move.specs.declared.plan.MoveRefusal.{MoveRefusal}
use Rattle.tatp_move.specs.declared.plan.MoveRefusal.TheVariants.{NoExtent}
use Rattle.tatp_move.specs.Ranges.{plan_of}
use Rattle.tatp_move.specs.Routing.{RoutesState, route_of}
use Rattle.tatp_workers.specs.declared.mover.MoveEffect.{MoveEffect}
use Rattle.tatp_workers.specs.declared.mover.MoveEffect.TheVariants.{Plans, Takes, Gives, Settles}
use Rattle.tatp_workers.specs.Growing.{Grows, InTurn}

-- ---- what an effect records of an answer
-- why an extent wasn't taken
abbrev pub refusal_in : Result ExtentState SiteRefusal → Option SiteRefusal
refusal_in (Ok parcel) = None
refusal_in (Err refusal) = Some refusal

-- whether an extent landed
abbrev pub is_landed : Result LandedState ExtentState → Bool
is_landed (Ok landed) = true
is_landed (Err back) = false

-- ---- the plan
-- the plan to move an extent from where its route says to a partition; extent 0 doesn't exist
abbrev pub plan_to : RoutesState → ℕ → ℕ → Result Plan MoveRefusal
plan_to r extent to =
    let s = first_subscriber extent in
    if extent == 0 then Err NoExtent else
    plan_of r (record { lo = s; hi = s; from = route_of r (Some s); to = to })

-- a plan moves this extent alone, and to this partition
abbrev pub IsPlanOf : ℕ → ℕ → Plan → Type 0
IsPlanOf extent to plan = (plan.first ≡ extent) × (plan.last ≡ extent) × (plan.to ≡ to)

-- ---- one move
-- extent e is given to a partition: it lands there, and its route is set before anything else; or
-- it comes back
abbrev pub Delivers : ℕ → ℕ → Option ExtentState → List MoveEffect → Type 0
Delivers to e None effects = effects ≡ Gives to e true ∷ Settles e ∷ []
Delivers to e (Some back) effects = (back.number ≡ e) × (effects ≡ Gives to e false ∷ [])

-- no plan is made to move an extent to a partition
abbrev pub IsNotPlanned : ℕ → ℕ → Option ExtentState → List MoveEffect → Type 0
IsNotPlanned extent to back effects =
    (refusal : MoveRefusal) × (back ≡ None) × (effects ≡ Plans extent to (Err refusal) ∷ [])

-- a plan is made, and the site doesn't give the extent
abbrev pub IsNotTaken : ℕ → ℕ → Option ExtentState → List MoveEffect → Type 0
IsNotTaken extent to back effects =
    (plan : Plan) × (refusal : SiteRefusal) × (back ≡ None)
    × (effects ≡ Plans extent to (Ok plan) ∷ Takes plan.from extent (Some refusal) ∷ [])

-- a plan is made, and the extent, no other, is taken and delivered to the partition
abbrev pub IsDelivered : ℕ → ℕ → Option ExtentState → List MoveEffect → Type 0
IsDelivered extent to back effects =
    (plan : Plan) × (delivery : List MoveEffect)
    × Delivers to extent back delivery
    × (effects ≡ Plans extent to (Ok plan) ∷ Takes plan.from extent None ∷ delivery)

-- an extent is planned to be moved to a partition; it is taken where there is a plan, and delivered
-- where it was taken
abbrev pub MakesMove : ℕ → ℕ → Option ExtentState → List MoveEffect → Type 0
MakesMove extent to back effects =
    IsNotPlanned extent to back effects
    ⊎ (IsNotTaken extent to back effects ⊎ IsDelivered extent to back effects)

-- ---- one move after another
-- a move of which nothing stays in hand
abbrev pub IsMade : ℕ × ℕ → List MoveEffect → Type 0
IsMade move effects = MakesMove move.0 move.1 None effects

-- all moves are made in their order; or they are made up to the first of which a parcel stays in
-- hand
pub record MakesMoves (moves : List (ℕ × ℕ)) (kept : List ExtentState) (effects : List MoveEffect)
    : Type 0 where
  pub made : ℕ
  pub before : List MoveEffect
  pub in_turn : InTurn IsMade moves made before
  pub rest : ((made ≡ length moves) × (kept ≡ []) × (effects ≡ before))
      ⊎ ((move : ℕ × ℕ) × (back : ExtentState) × (these : List MoveEffect)
      × (slice_get moves made ≡ Some move)
      × MakesMove move.0 move.1 (Some back) these
      × (kept ≡ back ∷ [])
      × (effects ≡ before ++ these))

-- all moves of a list are made, from what was known to what is; the hand has gained what stays
abbrev pub MovesAll : List (ℕ × ℕ)
    → Option (List MoveEffect) → Option (List MoveEffect)
    → List ExtentState → List ExtentState → Type 0
MovesAll moves before after hand hand' =
    (effects : List MoveEffect) × (kept : List ExtentState)
    × MakesMoves moves kept effects
    × Grows before after effects
    × (hand' ≡ hand ++ kept)
