-- A call of a transaction as a call of its standard procedure: which procedure, which subscriber,
-- which arguments.
use Rattle.std.specs.Prelude.{ℕ, List, [], ◌∷◌}
use Rattle.tatp_numbers.specs.declared.key.Key.{Key}
use Rattle.tatp_numbers.specs.declared.key.Key.TheVariants.{Id, Number}
use Rattle.tatp_calls.specs.declared.call.Call.{Call}
use Rattle.tatp_calls.specs.declared.call.Call.TheVariants.{GetSubscriberData, GetNewDestination, GetAccessData, UpdateSubscriberData, UpdateLocation, InsertCallForwarding, DeleteCallForwarding}

-- in the order of the benchmark's mix
abbrev pub procedure_of : Call → ℕ
procedure_of (GetSubscriberData s) = 0
procedure_of (GetNewDestination s t b e) = 1
procedure_of (GetAccessData s t) = 2
procedure_of (UpdateSubscriberData s x t y) = 3
procedure_of (UpdateLocation n v) = 4
procedure_of (InsertCallForwarding n t b e x) = 5
procedure_of (DeleteCallForwarding n t b) = 6

-- an s_id, or the number of a subscriber
abbrev pub key_of_call : Call → Key
key_of_call (GetSubscriberData s) = Id s
key_of_call (GetNewDestination s t b e) = Id s
key_of_call (GetAccessData s t) = Id s
key_of_call (UpdateSubscriberData s x t y) = Id s
key_of_call (UpdateLocation n v) = Number n
key_of_call (InsertCallForwarding n t b e x) = Number n
key_of_call (DeleteCallForwarding n t b) = Number n

abbrev pub arguments_of : Call → List ℕ
arguments_of (GetSubscriberData s) = s ∷ []
arguments_of (GetNewDestination s t b e) = s ∷ t ∷ b ∷ e ∷ []
arguments_of (GetAccessData s t) = s ∷ t ∷ []
arguments_of (UpdateSubscriberData s x t y) = s ∷ x ∷ t ∷ y ∷ []
arguments_of (UpdateLocation n v) = n ∷ v ∷ []
arguments_of (InsertCallForwarding n t b e x) = n ∷ t ∷ b ∷ e ∷ x ∷ []
arguments_of (DeleteCallForwarding n t b) = n ∷ t ∷ b ∷ []
