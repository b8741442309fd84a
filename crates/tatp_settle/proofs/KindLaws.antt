-- How many calls there are of each kind, call by call.
use Rattle.std.proofs.Common.{◌≡◌, ℕ, zero, suc, ◌+◌, ◌<◌, List, map, count_by, slice_index_or, ◌∙◌, ap, arith}
use Rattle.std.specs.List.{range_with_len}
use Rattle.tatp_calls.specs.declared.ask.Ask.{Ask}
use Rattle.tatp_calls.specs.declared.call.Call.{Call}
use Rattle.tatp_calls.specs.declared.call.Call.TheVariants.{GetSubscriberData, GetNewDestination, GetAccessData, UpdateSubscriberData, UpdateLocation, InsertCallForwarding, DeleteCallForwarding}
use Rattle.tatp_calls.specs.Calls.{procedure_of}
use Rattle.tatp_settle.specs.Answering.{is_of_kind}

abbrev pub kinds_of : List Ask → List ℕ
kinds_of asks = map (λ kind. count_by (is_of_kind kind) asks) (range_with_len 0 7)

number_at : (f : ℕ → ℕ) (s n i d : ℕ) → i < n → slice_index_or (map f (range_with_len s n)) i d ≡ f (s + i)
number_at f s zero i d l = absurd (omega (arith, l))
number_at f s (suc n) zero d l = let z : s ≡ s + 0 = omega arith in ap f z
number_at f s (suc n) (suc i) d l = number_at f (s + 1) n i d (omega (arith, l)) ∙ ap f (let z : s + 1 + i ≡ s + suc i = omega arith in z)

pub is_a_kind : (call : Call) → procedure_of call < 7
is_a_kind (GetSubscriberData s) = omega arith
is_a_kind (GetNewDestination s t b e) = omega arith
is_a_kind (GetAccessData s t) = omega arith
is_a_kind (UpdateSubscriberData s x t y) = omega arith
is_a_kind (UpdateLocation n v) = omega arith
is_a_kind (InsertCallForwarding n t b e x) = omega arith
is_a_kind (DeleteCallForwarding n t b) = omega arith

-- how many there are of a kind
pub kind_at : (asks : List Ask) (kind d : ℕ) → kind < 7 → slice_index_or (kinds_of asks) kind d ≡ count_by (is_of_kind kind) asks
kind_at asks kind d l = number_at (λ k. count_by (is_of_kind k) asks) 0 7 kind d l ∙ ap (λ k. count_by (is_of_kind k) asks) from_0
  where
    from_0 : 0 + kind ≡ kind
    from_0 = omega arith
