-- The values of a reply, as their texts say them.
use Rattle.std.specs.Prelude.{ℕ, ◌==◌, Bool, true, if◌then◌else◌, List, [], ◌∷◌, Option, Some, None}
use Rattle.std.specs.Option.{option_map, option_and_then}
use Rattle.tatp_lines.specs.Numbers.{number_of}
use Rattle.tatp_tables.specs.Domains.{is_in_domain}
use Rattle.tatp_texts.specs.Text.{value_of}
use Rattle.tatp_calls.specs.declared.call.Call.{Call}
use Rattle.tatp_calls.specs.declared.call.Call.TheVariants.{GetSubscriberData, GetNewDestination, GetAccessData, UpdateSubscriberData, UpdateLocation, InsertCallForwarding, DeleteCallForwarding}

-- ---- one value
-- a number, where it is outside the column's domain
abbrev pub if_outside : ℕ → ℕ → Option ℕ
if_outside c v = if is_in_domain c v then None else Some v

-- the first, where there is one, or else the second
abbrev pub or_else : Option ℕ → Option ℕ → Option ℕ
or_else (Some v) other = Some v
or_else None other = other

-- the value of a column whose text this is: in the column's form, or in decimal where it is outside
-- the column's domain
unfoldable pub printed_value_of : ℕ → List ℕ → Option ℕ
printed_value_of c text =
    or_else (value_of c text) (option_and_then (if_outside c) (number_of text))

-- ---- all values
-- those of the first columns: one for each field
unfoldable pub values_within : List ℕ → List (List ℕ) → Option (List ℕ)
values_within columns [] = Some []
values_within [] (field ∷ more) = None
values_within (c ∷ columns) (field ∷ more) =
    option_and_then
    (λ v. option_map (λ rest. v ∷ rest) (values_within columns more))
    (printed_value_of c field)

-- whether a reply to the call may have this number of values: one of each column that it answers;
-- of the numbers of forwardings, any number up to the most that a reply may have
abbrev pub has_values : Call → ℕ → Bool
has_values (GetSubscriberData s) n = n == 34
has_values (GetNewDestination s t b e) n = true
has_values (GetAccessData s t) n = n == 4
has_values (UpdateSubscriberData s x t y) n = n == 0
has_values (UpdateLocation m v) n = n == 0
has_values (InsertCallForwarding m t b e x) n = n == 0
has_values (DeleteCallForwarding m t b) n = n == 0
