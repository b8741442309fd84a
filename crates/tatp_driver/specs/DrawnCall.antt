-- A call from seven random words, 0 to 6. docs/FORMATS.md, "Calls from random words", says it in
-- words.
use Rattle.std.specs.Prelude.{ℕ, ◌+◌, ◌*◌, ◌%◌, ◌≤◌, bit_or, if◌then◌else◌, List, slice_index}
use Rattle.tatp_lines.specs.Numbers.{is_between}
use Rattle.tatp_numbers.specs.declared.key.Key.{Key}
use Rattle.tatp_numbers.specs.declared.key.Key.TheVariants.{Id, Number}
use Rattle.tatp_calls.specs.declared.call.Call.{Call}
use Rattle.tatp_calls.specs.declared.call.Call.TheVariants.{GetSubscriberData, GetNewDestination, GetAccessData, UpdateSubscriberData, UpdateLocation, InsertCallForwarding, DeleteCallForwarding}
use Rattle.tatp_tasks.specs.declared.distribution.Distribution.{Distribution}
use Rattle.tatp_tasks.specs.declared.distribution.Distribution.TheVariants.{Skewed, Uniform}

-- the place of the call among 100 calls of the mix, 0 to 99
abbrev pub place_in_mix : List ℕ → ℕ
place_in_mix words = slice_index words 0 % 100

-- the s_id, 1 to n, which is the sub_nbr too
abbrev pub drawn_subscriber : Distribution → ℕ → List ℕ → ℕ
drawn_subscriber Skewed n words =
    1 + bit_or (slice_index words 1 % 65536) (1 + slice_index words 2 % n) % n
drawn_subscriber Uniform n words = 1 + slice_index words 1 % n

-- the type of an Access_Info or a Special_Facility row, 1 to 4
abbrev pub drawn_row_type : List ℕ → ℕ
drawn_row_type words = 1 + slice_index words 3 % 4

abbrev pub drawn_start_time : List ℕ → ℕ
drawn_start_time words = 8 * (slice_index words 4 % 3)

abbrev pub drawn_end_time : List ℕ → ℕ
drawn_end_time words = 1 + slice_index words 5 % 24

abbrev pub drawn_bit_1 : List ℕ → ℕ
drawn_bit_1 words = slice_index words 4 % 2

abbrev pub drawn_data_a : List ℕ → ℕ
drawn_data_a words = slice_index words 5 % 256

abbrev pub drawn_vlr_location : List ℕ → ℕ
drawn_vlr_location words = 1 + slice_index words 4 % 4294967295

abbrev pub drawn_numberx : List ℕ → ℕ
drawn_numberx words = slice_index words 6 % 1000000000000000

-- the call on subscriber s, by its place in the mix
unfoldable pub call_on : ℕ → List ℕ → Call
call_on s words =
    let place = place_in_mix words in
    if is_between 0 34 place then GetSubscriberData s else
    if is_between 35 44 place
    then GetNewDestination s (drawn_row_type words) (drawn_start_time words)
    (drawn_end_time words) else
    if is_between 45 79 place then GetAccessData s (drawn_row_type words) else
    if is_between 80 81 place
    then UpdateSubscriberData s (drawn_bit_1 words) (drawn_row_type words) (drawn_data_a words) else
    if is_between 82 95 place then UpdateLocation s (drawn_vlr_location words) else
    if is_between 96 97 place
    then InsertCallForwarding s (drawn_row_type words) (drawn_start_time words)
    (drawn_end_time words) (drawn_numberx words) else
    -- 98 and 99
    DeleteCallForwarding s (drawn_row_type words) (drawn_start_time words)

-- the call of these words on one of n subscribers
abbrev pub drawn_call : Distribution → ℕ → List ℕ → Call
drawn_call distribution n words = call_on (drawn_subscriber distribution n words) words

-- an s_id or a number from 1 to n
abbrev pub NamesOneOf : ℕ → Key → Type 0
NamesOneOf n (Id s) = (1 ≤ s) × (s ≤ n)
NamesOneOf n (Number s) = (1 ≤ s) × (s ≤ n)
