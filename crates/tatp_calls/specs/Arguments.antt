-- The columns that a call's arguments name, and their domains. An s_id may be any number.
use Rattle.std.specs.Prelude.{ℕ, Bool, not, ◌||◌, ◌==◌, List, [], ◌∷◌, map, Option, Some, None, Result, Ok, Err}
use Rattle.std.specs.List.{position_from, zip}
use Rattle.tatp_tables.specs.Domains.{is_in_domain}
use Rattle.tatp_calls.specs.declared.call.Call.{Call}
use Rattle.tatp_calls.specs.declared.call.Call.TheVariants.{GetSubscriberData, GetNewDestination, GetAccessData, UpdateSubscriberData, UpdateLocation, InsertCallForwarding, DeleteCallForwarding}
use Rattle.tatp_calls.specs.declared.domains.BadArgument.{BadArgument}
use Rattle.tatp_calls.specs.Calls.{arguments_of}

-- ---- columns
abbrev pub s_id : ℕ
s_id = 0

abbrev pub sub_nbr : ℕ
sub_nbr = 1

abbrev pub bit_1 : ℕ
bit_1 = 2

abbrev pub vlr_location : ℕ
vlr_location = 33

abbrev pub ai_type : ℕ
ai_type = 35

abbrev pub sf_type : ℕ
sf_type = 41

abbrev pub data_a : ℕ
data_a = 44

abbrev pub start_time : ℕ
start_time = 48

abbrev pub end_time : ℕ
end_time = 49

abbrev pub numberx : ℕ
numberx = 50

-- ---- those of each transaction's arguments
abbrev pub get_subscriber_data_columns : List ℕ
get_subscriber_data_columns = s_id ∷ []

abbrev pub get_new_destination_columns : List ℕ
get_new_destination_columns = s_id ∷ sf_type ∷ start_time ∷ end_time ∷ []

abbrev pub get_access_data_columns : List ℕ
get_access_data_columns = s_id ∷ ai_type ∷ []

abbrev pub update_subscriber_data_columns : List ℕ
update_subscriber_data_columns = s_id ∷ bit_1 ∷ sf_type ∷ data_a ∷ []

abbrev pub update_location_columns : List ℕ
update_location_columns = sub_nbr ∷ vlr_location ∷ []

abbrev pub insert_call_forwarding_columns : List ℕ
insert_call_forwarding_columns = sub_nbr ∷ sf_type ∷ start_time ∷ end_time ∷ numberx ∷ []

abbrev pub delete_call_forwarding_columns : List ℕ
delete_call_forwarding_columns = sub_nbr ∷ sf_type ∷ start_time ∷ []

abbrev pub columns_of : Call → List ℕ
columns_of (GetSubscriberData s) = get_subscriber_data_columns
columns_of (GetNewDestination s t b e) = get_new_destination_columns
columns_of (GetAccessData s t) = get_access_data_columns
columns_of (UpdateSubscriberData s x t y) = update_subscriber_data_columns
columns_of (UpdateLocation n v) = update_location_columns
columns_of (InsertCallForwarding n t b e x) = insert_call_forwarding_columns
columns_of (DeleteCallForwarding n t b) = delete_call_forwarding_columns

-- ---- domains
-- whether a value may be an argument that names the column
abbrev pub fits : ℕ → ℕ → Bool
fits c v = c == s_id || is_in_domain c v

-- whether each of these arguments fits its column
abbrev pub fitting : List ℕ → List ℕ → List Bool
fitting columns arguments = map (λ (p : ℕ × ℕ). fits p.0 p.1) (zip columns arguments)

abbrev pub fits_of : Call → List Bool
fits_of call = fitting (columns_of call) (arguments_of call)

-- the first that doesn't, counted from 0
abbrev pub first_bad : List Bool → Option ℕ
first_bad fits = position_from not 0 fits

abbrev pub accepted : Option ℕ → Result (Unit {0}) BadArgument
accepted None = Ok tt
accepted (Some k) = Err (record { 0 = k })

-- what becomes of a call's arguments
abbrev pub arguments_accepted : Call → Result (Unit {0}) BadArgument
arguments_accepted call = accepted (first_bad (fits_of call))
