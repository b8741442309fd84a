-- The call of a line, and the line of a call: docs/FORMATS.md.
use Rattle.std.specs.Prelude.{ℕ, Bool, List, [], ◌∷◌, ◌++◌, slice_index, Option, None, codes, bytes_eq, if◌then◌else◌}
use Rattle.std.specs.Option.{option_map}
use Rattle.tatp_texts.specs.Text.{fields_of}
use Rattle.tatp_calls.specs.declared.call.Call.{Call}
use Rattle.tatp_calls.specs.declared.call.Call.TheVariants.{GetSubscriberData, GetNewDestination, GetAccessData, UpdateSubscriberData, UpdateLocation, InsertCallForwarding, DeleteCallForwarding}
use Rattle.tatp_calls.specs.Calls.{arguments_of}
use Rattle.tatp_calls.specs.Arguments.{columns_of, get_subscriber_data_columns, get_new_destination_columns, get_access_data_columns, update_subscriber_data_columns, update_location_columns, insert_call_forwarding_columns, delete_call_forwarding_columns}
use Rattle.tatp_calls.specs.ValuesText.{values_of, values_text, are_printable}

-- ---- the call of a line
-- the call whose arguments the fields are: one of each column that they name
abbrev pub get_subscriber_data_of : List (List ℕ) → Option Call
get_subscriber_data_of fields =
    option_map
    (λ a. GetSubscriberData (slice_index a 0))
    (values_of get_subscriber_data_columns fields)

abbrev pub get_new_destination_of : List (List ℕ) → Option Call
get_new_destination_of fields =
    option_map
    (λ a. GetNewDestination (slice_index a 0) (slice_index a 1) (slice_index a 2) (slice_index a 3))
    (values_of get_new_destination_columns fields)

abbrev pub get_access_data_of : List (List ℕ) → Option Call
get_access_data_of fields =
    option_map
    (λ a. GetAccessData (slice_index a 0) (slice_index a 1))
    (values_of get_access_data_columns fields)

abbrev pub update_subscriber_data_of : List (List ℕ) → Option Call
update_subscriber_data_of fields =
    option_map
    (λ a. UpdateSubscriberData (slice_index a 0) (slice_index a 1) (slice_index a 2)
    (slice_index a 3))
    (values_of update_subscriber_data_columns fields)

abbrev pub update_location_of : List (List ℕ) → Option Call
update_location_of fields =
    option_map
    (λ a. UpdateLocation (slice_index a 0) (slice_index a 1))
    (values_of update_location_columns fields)

abbrev pub insert_call_forwarding_of : List (List ℕ) → Option Call
insert_call_forwarding_of fields =
    option_map
    (λ a. InsertCallForwarding (slice_index a 0) (slice_index a 1) (slice_index a 2)
    (slice_index a 3) (slice_index a 4))
    (values_of insert_call_forwarding_columns fields)

abbrev pub delete_call_forwarding_of : List (List ℕ) → Option Call
delete_call_forwarding_of fields =
    option_map
    (λ a. DeleteCallForwarding (slice_index a 0) (slice_index a 1) (slice_index a 2))
    (values_of delete_call_forwarding_columns fields)

-- by its name
abbrev pub call_of_fields : List (List ℕ) → Option Call
call_of_fields [] = None
call_of_fields (name ∷ fields) =
    if bytes_eq name (codes "GET_SUBSCRIBER_DATA") then get_subscriber_data_of fields else
    if bytes_eq name (codes "GET_NEW_DESTINATION") then get_new_destination_of fields else
    if bytes_eq name (codes "GET_ACCESS_DATA") then get_access_data_of fields else
    if bytes_eq name (codes "UPDATE_SUBSCRIBER_DATA") then update_subscriber_data_of fields else
    if bytes_eq name (codes "UPDATE_LOCATION") then update_location_of fields else
    if bytes_eq name (codes "INSERT_CALL_FORWARDING") then insert_call_forwarding_of fields else
    if bytes_eq name (codes "DELETE_CALL_FORWARDING") then delete_call_forwarding_of fields else
    None

-- the call that a line is
unfoldable pub call_of_line : List ℕ → Option Call
call_of_line line = call_of_fields (fields_of line)

-- ---- the line of a call
-- the name of its procedure
abbrev pub name_of : Call → List ℕ
name_of (GetSubscriberData s) = codes "GET_SUBSCRIBER_DATA"
name_of (GetNewDestination s t b e) = codes "GET_NEW_DESTINATION"
name_of (GetAccessData s t) = codes "GET_ACCESS_DATA"
name_of (UpdateSubscriberData s x t y) = codes "UPDATE_SUBSCRIBER_DATA"
name_of (UpdateLocation n v) = codes "UPDATE_LOCATION"
name_of (InsertCallForwarding n t b e x) = codes "INSERT_CALL_FORWARDING"
name_of (DeleteCallForwarding n t b) = codes "DELETE_CALL_FORWARDING"

-- its name and its arguments
abbrev pub call_text : Call → List ℕ
call_text call = name_of call ++ values_text (columns_of call) (arguments_of call)

-- whether its 15-digit numbers are in their domains
abbrev pub is_printable_call : Call → Bool
is_printable_call call = are_printable (columns_of call) (arguments_of call)
