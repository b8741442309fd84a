-- Why a run is refused.
use Rattle.std.proofs.Common.{◌≡◌, ◌⊎◌, Bool, true, false, cond, List, [], ◌∷◌, map, Option, Some, None, Vec, sym, subst, inl, inr}
use Rattle.std.specs.Option.{option_map}
use Rattle.std.specs.declared.alloc.Global.{Global}
use Rattle.tatp_encoding.specs.Modules.{ModuleState}
use Rattle.tatp_tables.specs.declared.row.Rows.{Rows}
use Rattle.tatp_calls.specs.declared.ask.Ask.{Ask}
use Rattle.tatp_calls.specs.declared.domains.BadArgument.{BadArgument as Bad}
use Rattle.tatp_calls.specs.Asked.{has_procedure, bad_argument}
use Rattle.tatp_extents.specs.Opening.{RefusesRows}
use Rattle.tatp_extents.specs.declared.open_error.OpenError.{OpenError}
use Rattle.tatp_extents.specs.declared.open_error.OpenError.TheVariants as opening
use Rattle.tatp_threads.specs.declared.refusal.RunRefusal.{RunRefusal}
use Rattle.tatp_threads.specs.declared.refusal.RunRefusal.TheVariants.{TooMany, NotClean, NoProcedure, BadArgument, NoMemory, NoThread}
use Rattle.tatp_threads.specs.Calls.{obstacle_to, first_of, obstacle_in, obstacle_among, opening_refusal, AreOpened, RefusesRun}

-- ---- the rows
pub opening_refused : (modul : ModuleState) (rows : Rows) (lists : List (Vec Ask Global)) (error : OpenError) → RefusesRows rows error → RefusesRun modul rows lists (opening_refusal error)
opening_refused modul rows lists opening.TooMany h = h
opening_refused modul rows lists (opening.NotClean verdict) h = h
opening_refused modul rows lists opening.NoMemory h = h

-- ---- the calls
-- the refusals that a call may meet
abbrev IsOfCall : RunRefusal → Type 0
IsOfCall TooMany = ⊥
IsOfCall (NotClean verdict) = ⊥
IsOfCall NoProcedure = Unit {0}
IsOfCall (BadArgument bad) = Unit {0}
IsOfCall NoMemory = ⊥
IsOfCall NoThread = ⊥

abbrev AreOfCalls : Option RunRefusal → Type 0
AreOfCalls None = Unit {0}
AreOfCalls (Some refusal) = IsOfCall refusal

of_arguments : (bad : Option Bad) → AreOfCalls (option_map BadArgument bad)
of_arguments None = tt
of_arguments (Some bad) = tt

of_call : (modul : ModuleState) (ask : Ask) → AreOfCalls (obstacle_to modul ask)
of_call modul ask = by (has_procedure modul ask)
  where
    by : (b : Bool) → AreOfCalls (cond b (option_map BadArgument (bad_argument ask)) (Some NoProcedure))
    by true = of_arguments (bad_argument ask)
    by false = tt

of_first : {A : Type 0} (f : A → Option RunRefusal) (xs : List A) → ((x : A) → AreOfCalls (f x)) → AreOfCalls (first_of (map f xs))
of_first f [] each = tt
of_first f (x ∷ xs) each = by (f x) (each x) (of_first f xs each)
  where
    by : (o : Option RunRefusal) → AreOfCalls o → AreOfCalls (first_of (map f xs)) → AreOfCalls (first_of (o ∷ map f xs))
    by None h more = more
    by (Some refusal) h more = h

pub call_refused : (modul : ModuleState) (rows : Rows) (lists : List (Vec Ask Global)) (refusal : RunRefusal) → AreOpened rows → obstacle_among modul lists ≡ Some refusal → RefusesRun modul rows lists refusal
call_refused modul rows lists refusal opened is =
    by refusal (subst AreOfCalls is (of_first (λ (list : Vec Ask Global). obstacle_in modul list.items) lists (λ list. of_first (obstacle_to modul) list.items (of_call modul)))) is
  where
    by : (refusal : RunRefusal) → IsOfCall refusal → obstacle_among modul lists ≡ Some refusal → RefusesRun modul rows lists refusal
    by TooMany h is = absurd h
    by (NotClean verdict) h is = absurd h
    by NoProcedure h is = (opened, is)
    by (BadArgument bad) h is = (opened, is)
    by NoMemory h is = absurd h
    by NoThread h is = absurd h

-- ---- the run
pub end_refused : (modul : ModuleState) (rows : Rows) (lists : List (Vec Ask Global)) → AreOpened rows → obstacle_among modul lists ≡ None → (refusal : RunRefusal) → (refusal ≡ NoMemory) ⊎ (refusal ≡ NoThread) → RefusesRun modul rows lists refusal
end_refused modul rows lists opened none refusal h = elim h as (λ _. RefusesRun modul rows lists refusal) [
  | inl k ↦ subst (RefusesRun modul rows lists) (sym k) opened.0
  | inr k ↦ subst (RefusesRun modul rows lists) (sym k) (opened, none)
]
