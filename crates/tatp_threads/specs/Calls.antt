-- Which calls and rows a run refuses.
use Rattle.std.specs.Prelude.{◌≡◌, ◌≤◌, if◌then◌else◌, List, [], ◌∷◌, map, length, Option, Some, None, Vec}
use Rattle.std.specs.Option.{option_map}
use Rattle.std.specs.declared.alloc.Global.{Global}
use Rattle.tatp_limits.specs.declared.limits.TheConstants.{MAX_SUBSCRIBERS}
use Rattle.tatp_encoding.specs.Modules.{ModuleState}
use Rattle.tatp_tables.specs.Clean.{IsClean}
use Rattle.tatp_tables.specs.declared.row.Rows.{Rows}
use Rattle.tatp_calls.specs.declared.ask.Ask.{Ask}
use Rattle.tatp_extents.specs.Opening.{RefusesRows}
use Rattle.tatp_extents.specs.declared.open_error.OpenError.{OpenError}
use Rattle.tatp_extents.specs.declared.open_error.OpenError.TheVariants as opening
use Rattle.tatp_calls.specs.Asked.{has_procedure, bad_argument}
use Rattle.tatp_threads.specs.declared.refusal.RunRefusal.{RunRefusal}
use Rattle.tatp_threads.specs.declared.refusal.RunRefusal.TheVariants.{TooMany, NotClean, NoProcedure, BadArgument, NoMemory, NoThread}

-- why a call can't be run, if it can't
abbrev pub obstacle_to : ModuleState → Ask → Option RunRefusal
obstacle_to modul ask =
    if has_procedure modul ask then option_map BadArgument (bad_argument ask)
    else Some NoProcedure

-- the first obstacle of some
abbrev pub first_of : List (Option RunRefusal) → Option RunRefusal
first_of [] = None
first_of (Some obstacle ∷ more) = Some obstacle
first_of (None ∷ more) = first_of more

-- why the first call of a list that can't be run is refused, if there is one
abbrev pub obstacle_in : ModuleState → List Ask → Option RunRefusal
obstacle_in modul asks = first_of (map (obstacle_to modul) asks)

-- why the first call of the first client that can't be run is refused, if there is one
abbrev pub obstacle_among : ModuleState → List (Vec Ask Global) → Option RunRefusal
obstacle_among modul lists =
    first_of (map (λ (list : Vec Ask Global). obstacle_in modul list.items) lists)

-- why a run is refused whose rows aren't opened
abbrev pub opening_refusal : OpenError → RunRefusal
opening_refusal opening.TooMany = TooMany
opening_refusal (opening.NotClean verdict) = NotClean verdict
opening_refusal opening.NoMemory = NoMemory

-- these rows are opened
abbrev pub AreOpened : Rows → Type 0
AreOpened rows = (length rows.subscribers ≤ MAX_SUBSCRIBERS) × IsClean rows

-- why a run of the clients' lists on these rows is refused: the rows first, then the first call
-- that can't be run, then that a thread couldn't be started; memory may run out at any time
abbrev pub RefusesRun : ModuleState → Rows → List (Vec Ask Global) → RunRefusal → Type 0
RefusesRun modul rows lists TooMany = RefusesRows rows opening.TooMany
RefusesRun modul rows lists (NotClean verdict) = RefusesRows rows (opening.NotClean verdict)
RefusesRun modul rows lists NoProcedure =
    AreOpened rows × (obstacle_among modul lists ≡ Some NoProcedure)
RefusesRun modul rows lists (BadArgument bad) =
    AreOpened rows × (obstacle_among modul lists ≡ Some (BadArgument bad))
RefusesRun modul rows lists NoMemory = RefusesRows rows opening.NoMemory
RefusesRun modul rows lists NoThread =
    AreOpened rows × (obstacle_among modul lists ≡ None)
