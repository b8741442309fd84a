-- What the debugger does, one thing after another.
use Rattle.std.specs.Prelude.{◌≡◌, ◌⊎◌, ℕ, List, [], ◌∷◌, ◌++◌, true, false, Result}
use Rattle.tatp_debug.specs.declared.snapshot.Snapshot.{Snapshot}
use Rattle.tatp_partition.specs.declared.item.Stepped.{Stepped}
use Rattle.tatp_partition.specs.declared.refusal.SiteRefusal.{SiteRefusal}
use Rattle.tatp_workers.specs.declared.effects.Effect.{Effect}
use Rattle.tatp_workers.specs.declared.effects.Effect.TheVariants.{Stops, Looks, Steps, Resumes}
use Rattle.tatp_workers.specs.Effects.{effects_of_step}

-- a stopped site is looked at, its call makes a step and is completed where that ended it, and the
-- site is resumed
abbrev pub effects_of_inspection : ℕ → Result Snapshot SiteRefusal → Result Stepped SiteRefusal
    → List Effect
effects_of_inspection partition seen answer =
    Looks partition seen ∷ Steps partition answer ∷ effects_of_step partition answer
    ++ Resumes partition ∷ []

-- the site of a partition wasn't stopped, and nothing more is done; or it was, and is inspected
abbrev pub IsDebugged : ℕ → List Effect → Type 0
IsDebugged partition effects =
    (effects ≡ Stops partition false ∷ [])
    ⊎ ((seen : Result Snapshot SiteRefusal) × (answer : Result Stepped SiteRefusal)
    × (effects ≡ Stops partition true ∷ effects_of_inspection partition seen answer))
