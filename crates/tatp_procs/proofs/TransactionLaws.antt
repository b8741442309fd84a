-- Each standard procedure is its transaction, where the arguments are in their domains.
use Rattle.std.specs.Prelude.{◌≡◌, ℕ, ◌+◌, Bool, true, false, not, List, [], ◌∷◌, Ok}
use Rattle.std.specs.List.{position_from}
use Rattle.std.proofs.Common.{refl, sym, subst}
use Rattle.tatp_tables.specs.Database.{Database}
use Rattle.tatp_encoding.specs.Modules.{ModuleState}
use Rattle.tatp_calls.specs.declared.call.Call.{Call}
use Rattle.tatp_calls.specs.declared.call.Call.TheVariants.{GetSubscriberData, GetNewDestination, GetAccessData, UpdateSubscriberData, UpdateLocation, InsertCallForwarding, DeleteCallForwarding}
use Rattle.tatp_calls.specs.Arguments.{accepted, arguments_accepted, fits_of}
use Rattle.tatp_procs.specs.Standard.{standard_module}
use Rattle.tatp_procs.specs.Consistent.{IsConsistent}
use Rattle.tatp_procs.specs.Performs.{Performs}
use Rattle.tatp_procs.proofs.ReadLaws.{get_subscriber_data_performs, get_access_data_performs}
use Rattle.tatp_procs.proofs.UpdateLaws.{update_subscriber_data_performs, update_location_performs}
use Rattle.tatp_procs.proofs.ForwardingLaws.{insert_call_forwarding_performs, delete_call_forwarding_performs}
use Rattle.tatp_procs.proofs.DestinationLaws.{get_new_destination_performs}

abbrev pub AllFit : List Bool → Type 0
AllFit [] = Unit {0}
AllFit (b ∷ more) = (b ≡ true) × AllFit more

-- where no argument is the first that doesn't fit, each fits
pub all_fit : (i : ℕ) (fits : List Bool) → accepted (position_from not i fits) ≡ Ok tt → AllFit fits
all_fit i [] h = tt
all_fit i (true ∷ more) h = (refl, all_fit (i + 1) more h)
all_fit i (false ∷ more) h = cc

pub standard_performs : (call : Call) (u : Database) → IsConsistent u → arguments_accepted call ≡ Ok tt → Performs standard_module call u
standard_performs (GetSubscriberData s) u is h = get_subscriber_data_performs u s is
standard_performs (GetNewDestination s t b e) u is h =
    let fits = all_fit 0 (fits_of (GetNewDestination s t b e)) h in
    get_new_destination_performs u s t b e is fits.1.1.0
standard_performs (GetAccessData s t) u is h = get_access_data_performs u s t is
standard_performs (UpdateSubscriberData s x t y) u is h =
    let fits = all_fit 0 (fits_of (UpdateSubscriberData s x t y)) h in
    update_subscriber_data_performs u s x t y is fits.1.0 fits.1.1.1.0
standard_performs (UpdateLocation n v) u is h =
    let fits = all_fit 0 (fits_of (UpdateLocation n v)) h in
    update_location_performs u n v is fits.1.0
standard_performs (InsertCallForwarding n t b e x) u is h =
    let fits = all_fit 0 (fits_of (InsertCallForwarding n t b e x)) h in
    insert_call_forwarding_performs u n t b e x is fits.1.0 fits.1.1.0 fits.1.1.1.0 fits.1.1.1.1.0
standard_performs (DeleteCallForwarding n t b) u is h = delete_call_forwarding_performs u n t b is

-- so it is with each module that is the standard one
pub standard_performs_as : (modul : ModuleState) → modul ≡ standard_module → (call : Call) (u : Database) → IsConsistent u → arguments_accepted call ≡ Ok tt → Performs modul call u
standard_performs_as modul is call u consistent fits = subst (λ m. Performs m call u) (sym is) (standard_performs call u consistent fits)
