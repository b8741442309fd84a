-- What the debugger has done at one partition.
use Rattle.std.proofs.Common.{ℕ, List, [], ◌∷◌, ◌++◌, Option, Result, true, false, refl, inl, inr}
use Rattle.tatp_debug.specs.declared.snapshot.Snapshot.{Snapshot}
use Rattle.tatp_partition.specs.declared.item.Stepped.{Stepped}
use Rattle.tatp_partition.specs.declared.refusal.SiteRefusal.{SiteRefusal}
use Rattle.tatp_workers.specs.declared.effects.Effect.{Effect}
use Rattle.tatp_workers.specs.declared.effects.Effect.TheVariants.{Stops, Looks, Steps, Resumes}
use Rattle.tatp_workers.specs.Growing.{Grows, Does}
use Rattle.tatp_workers.specs.Effects.{effects_of_step}
use Rattle.tatp_workers.specs.Debugging.{effects_of_inspection, IsDebugged}
use Rattle.tatp_workers.proofs.GrowthLaws.{grown_twice}

pub inspected : (partition : ℕ) (seen : Result Snapshot SiteRefusal) (answer : Result Stepped SiteRefusal) (known looked stepped completed known' : Option (List Effect))
    → Grows known looked (Looks partition seen ∷ [])
    → Grows looked stepped (Steps partition answer ∷ [])
    → Grows stepped completed (effects_of_step partition answer)
    → Grows completed known' (Resumes partition ∷ [])
    → Grows known known' (effects_of_inspection partition seen answer)
inspected partition seen answer known looked stepped completed known' a b c d =
    let rest = effects_of_step partition answer ++ Resumes partition ∷ [] in
    grown_twice known looked known' (Looks partition seen ∷ []) (Steps partition answer ∷ rest) a
    (grown_twice looked stepped known' (Steps partition answer ∷ []) rest b
    (grown_twice stepped completed known' (effects_of_step partition answer) (Resumes partition ∷ []) c d))

pub debugged : (partition : ℕ) (seen : Result Snapshot SiteRefusal) (answer : Result Stepped SiteRefusal) (known stopped known' : Option (List Effect))
    → Grows known stopped (Stops partition true ∷ [])
    → Grows stopped known' (effects_of_inspection partition seen answer)
    → Does (IsDebugged partition) known known'
debugged partition seen answer known stopped known' a b = (
  Stops partition true ∷ effects_of_inspection partition seen answer,
  inr (seen, answer, refl),
  grown_twice known stopped known' (Stops partition true ∷ []) (effects_of_inspection partition seen answer) a b,
)

pub not_stopped : (partition : ℕ) (known known' : Option (List Effect)) → Grows known known' (Stops partition false ∷ []) → Does (IsDebugged partition) known known'
not_stopped partition known known' a = (Stops partition false ∷ [], inl refl, a)
