-- trusted: read it
-- The seven transactions, on four sets of tuples: what each answers, and the database after it.
-- TATP Benchmark Description 1.0, transactions; their SQL is beside each. A failure leaves the
-- database as it is. The failure numbers, the parent test and the order of the numbers answered
-- are this profile's: docs/FORMATS.md.
use Rattle.std.specs.Prelude.{ℕ, Bool, false, ◌&&◌, ◌==◌, nat_lt, nat_le, List, [], ◌∷◌, Option, Some, None, map, filter, drop, slice_index, slice_set}
use Rattle.tatp_tables.specs.Tuples.{Tuple, rows_of, insert_row, remove_row, replace_row}
use Rattle.tatp_tables.specs.Keys.{has_key, row_at, row_with_number}
use Rattle.tatp_tables.specs.Database.{Database}
use Rattle.tatp_numbers.specs.declared.key.Key.TheVariants.{Number}
use Rattle.tatp_numbers.specs.Homes.{home_of_key}
use Rattle.tatp_calls.specs.declared.reply.Reply.{Reply}
use Rattle.tatp_calls.specs.declared.reply.Reply.TheVariants.{Values, Failed}
use Rattle.tatp_calls.specs.declared.call.Call.{Call}
use Rattle.tatp_calls.specs.declared.call.Call.TheVariants.{GetSubscriberData, GetNewDestination, GetAccessData, UpdateSubscriberData, UpdateLocation, InsertCallForwarding, DeleteCallForwarding}

-- a reply, and the database after it
pub record Answer : Type 0 where
  pub reply : Reply
  pub database : Database

abbrev pub replies : Database → List ℕ → Answer
replies u values = record { reply = Values values; database = u }

abbrev pub fails : Database → ℕ → Answer
fails u n = record { reply = Failed n; database = u }

-- these columns of the row, where there is one
abbrev pub reads : Database → (Tuple → List ℕ) → Option Tuple → Answer
reads u columns None = fails u 1
reads u columns (Some row) = replies u (columns row)

-- ---- GET_SUBSCRIBER_DATA
-- SELECT s_id, sub_nbr, bit_1, .., vlr_location FROM Subscriber WHERE s_id = s
abbrev pub get_subscriber_data : Database → ℕ → Answer
get_subscriber_data u s = reads u (λ row. row) (row_at u.subscribers (s ∷ []))

-- ---- GET_NEW_DESTINATION
-- SELECT cf.numberx FROM Special_Facility AS sf, Call_Forwarding AS cf
--   WHERE sf.s_id = s AND sf.sf_type = t AND sf.is_active = 1
--   AND cf.s_id = sf.s_id AND cf.sf_type = sf.sf_type AND cf.start_time <= b AND e < cf.end_time
abbrev pub is_active : Option Tuple → Bool
is_active None = false
is_active (Some facility) = slice_index facility 2 == 1

abbrev pub start_time_of : Tuple → ℕ
start_time_of forwarding = slice_index forwarding 2

abbrev pub end_time_of : Tuple → ℕ
end_time_of forwarding = slice_index forwarding 3

abbrev pub numberx_of : Tuple → ℕ
numberx_of forwarding = slice_index forwarding 4

abbrev pub is_destination : Database → ℕ → ℕ → ℕ → ℕ → Tuple → Bool
is_destination u s t b e cf =
    has_key (s ∷ t ∷ []) cf
    && (is_active (row_at u.facilities (s ∷ t ∷ []))
    && (nat_le (start_time_of cf) b && nat_lt e (end_time_of cf)))

-- the rows of a set are in the order of their columns, so these rise in start_time
abbrev pub destinations : Database → ℕ → ℕ → ℕ → ℕ → List ℕ
destinations u s t b e = map numberx_of (filter (is_destination u s t b e) (rows_of u.forwardings))

abbrev pub some_of : Database → List ℕ → Answer
some_of u [] = fails u 1
some_of u (n ∷ more) = replies u (n ∷ more)

abbrev pub get_new_destination : Database → ℕ → ℕ → ℕ → ℕ → Answer
get_new_destination u s t b e = some_of u (destinations u s t b e)

-- ---- GET_ACCESS_DATA
-- SELECT data1, data2, data3, data4 FROM Access_Info WHERE s_id = s AND ai_type = t
abbrev pub get_access_data : Database → ℕ → ℕ → Answer
get_access_data u s t = reads u (drop 2) (row_at u.accesses (s ∷ t ∷ []))

-- ---- UPDATE_SUBSCRIBER_DATA
-- UPDATE Subscriber SET bit_1 = x WHERE s_id = s
-- UPDATE Special_Facility SET data_a = y WHERE s_id = s AND sf_type = t
abbrev pub with_bit_1 : Tuple → ℕ → Tuple
with_bit_1 subscriber x = slice_set subscriber 2 x

abbrev pub with_data_a : Tuple → ℕ → Tuple
with_data_a facility y = slice_set facility 4 y

abbrev pub updates_both : Database → ℕ → ℕ → Option Tuple → Option Tuple → Answer
updates_both u x y None facility = fails u 1
updates_both u x y (Some subscriber) None = fails u 1
updates_both u x y (Some subscriber) (Some facility) = replies (record u {
  subscribers = replace_row u.subscribers subscriber (with_bit_1 subscriber x);
  facilities = replace_row u.facilities facility (with_data_a facility y);
}) []

abbrev pub update_subscriber_data : Database → ℕ → ℕ → ℕ → ℕ → Answer
update_subscriber_data u s x t y =
    updates_both u x y (row_at u.subscribers (s ∷ [])) (row_at u.facilities (s ∷ t ∷ []))

-- ---- UPDATE_LOCATION
-- UPDATE Subscriber SET vlr_location = v WHERE sub_nbr = n
abbrev pub with_vlr_location : Tuple → ℕ → Tuple
with_vlr_location subscriber v = slice_set subscriber 33 v

abbrev pub updates_location : Database → ℕ → Option Tuple → Answer
updates_location u v None = fails u 1
updates_location u v (Some subscriber) = replies (record u {
  subscribers = replace_row u.subscribers subscriber (with_vlr_location subscriber v);
}) []

abbrev pub update_location : Database → ℕ → ℕ → Answer
update_location u n v = updates_location u v (row_with_number u.subscribers n)

-- ---- INSERT_CALL_FORWARDING
-- SELECT s_id FROM Subscriber WHERE sub_nbr = n
-- SELECT sf_type FROM Special_Facility WHERE s_id = s
-- INSERT INTO Call_Forwarding VALUES (s, t, b, e, x)
abbrev pub inserts_under : Database → Tuple → Option Tuple → Option Tuple → Answer
inserts_under u row None there = fails u 3
inserts_under u row (Some facility) (Some there) = fails u 2
inserts_under u row (Some facility) None = replies (record u {
  forwardings = insert_row u.forwardings row;
}) []

abbrev pub inserts_for : Database → ℕ → ℕ → ℕ → ℕ → Option ℕ → Answer
inserts_for u t b e x None = fails u 1
inserts_for u t b e x (Some s) =
    inserts_under u (s ∷ t ∷ b ∷ e ∷ x ∷ [])
    (row_at u.facilities (s ∷ t ∷ []))
    (row_at u.forwardings (s ∷ t ∷ b ∷ []))

abbrev pub insert_call_forwarding : Database → ℕ → ℕ → ℕ → ℕ → ℕ → Answer
insert_call_forwarding u n t b e x = inserts_for u t b e x (home_of_key u.subscribers (Number n))

-- ---- DELETE_CALL_FORWARDING
-- SELECT s_id FROM Subscriber WHERE sub_nbr = n
-- DELETE FROM Call_Forwarding WHERE s_id = s AND sf_type = t AND start_time = b
abbrev pub deletes : Database → Option Tuple → Answer
deletes u None = fails u 1
deletes u (Some row) = replies (record u { forwardings = remove_row u.forwardings row }) []

abbrev pub deletes_for : Database → ℕ → ℕ → Option ℕ → Answer
deletes_for u t b None = fails u 1
deletes_for u t b (Some s) = deletes u (row_at u.forwardings (s ∷ t ∷ b ∷ []))

abbrev pub delete_call_forwarding : Database → ℕ → ℕ → ℕ → Answer
delete_call_forwarding u n t b = deletes_for u t b (home_of_key u.subscribers (Number n))

-- ---- the seven
abbrev pub transaction : Call → Database → Answer
transaction (GetSubscriberData s) u = get_subscriber_data u s
transaction (GetNewDestination s t b e) u = get_new_destination u s t b e
transaction (GetAccessData s t) u = get_access_data u s t
transaction (UpdateSubscriberData s x t y) u = update_subscriber_data u s x t y
transaction (UpdateLocation n v) u = update_location u n v
transaction (InsertCallForwarding n t b e x) u = insert_call_forwarding u n t b e x
transaction (DeleteCallForwarding n t b) u = delete_call_forwarding u n t b
