-- The rows of the tests are clean: one subscriber with one row in each table.
use Rattle.std.specs.Prelude.{◌≡◌, ℕ, ◌≤◌, Bool, true, false, cond, [], ◌∷◌, take, count_by, All}
use Rattle.std.proofs.Common.{refl, ap, arith, lit≤}
use Rattle.std.proofs.lemmas.List.Elements.{All-cons, All-nil}
use Rattle.tatp_tables.specs.Tuples.{Tuple}
use Rattle.tatp_tables.specs.Keys.{has_key, has_number}
use Rattle.tatp_tables.specs.Domains.{is_in_domain, is_row}
use Rattle.tatp_tables.specs.Clean.{IsClean, IdsRunFromOne, IsCountWithin, count_of_key}
use Rattle.tatp_tables.proofs.CountLaws.{count_by-cons}
use Rattle.tatp_tables.specs.declared.row.Rows.{Rows}
use Rattle.tatp_tables.specs.declared.table.Table.TheVariants.{Subscriber, AccessInfo, SpecialFacility, CallForwarding}

abbrev pub subscriber : Tuple
subscriber = 1 ∷ 1 ∷ 0 ∷ 0 ∷ 0 ∷ 0 ∷ 0 ∷ 0 ∷ 0 ∷ 0 ∷ 0 ∷ 0 ∷ 0 ∷ 0 ∷ 0 ∷ 0 ∷ 0 ∷ 0 ∷ 0 ∷ 0 ∷ 0 ∷ 0 ∷ 0 ∷ 0 ∷ 0 ∷ 0 ∷ 0 ∷ 0 ∷ 0 ∷ 0 ∷ 0 ∷ 0 ∷ 1 ∷ 1 ∷ []

abbrev pub access : Tuple
access = 1 ∷ 1 ∷ 0 ∷ 0 ∷ 4276545 ∷ 280267669825 ∷ []

abbrev pub facility : Tuple
facility = 1 ∷ 1 ∷ 1 ∷ 0 ∷ 0 ∷ 280267669825 ∷ []

abbrev pub forwarding : Tuple
forwarding = 1 ∷ 1 ∷ 8 ∷ 20 ∷ 888 ∷ []

abbrev pub one_subscriber : Rows
one_subscriber = record { subscribers = subscriber ∷ []; accesses = access ∷ []; facilities = facility ∷ []; forwardings = forwarding ∷ [] }

bit : (b : Bool) → cond {A = ℕ} b 1 0 ≤ 1
bit true = lit≤ tt
bit false = lit≤ tt

-- of one row at most one is counted
at_most_one : (p : Tuple → Bool) (row : Tuple) → count_by p (row ∷ []) ≤ 1
at_most_one p row = omega (arith, count_by-cons p row [], bit (p row))

ids : IdsRunFromOne one_subscriber
ids s least most = let e : s ≡ 1 = omega arith in ap (λ n. count_of_key (n ∷ []) (subscriber ∷ [])) e

each : (P : Tuple → Type 0) (row : Tuple) → P row → All P (row ∷ [])
each P row h = All-cons P row [] h (All-nil P)

fits_subscriber : is_row Subscriber subscriber ≡ true
unfolding is_in_domain
fits_subscriber = refl

fits_access : is_row AccessInfo access ≡ true
unfolding is_in_domain
fits_access = refl

fits_facility : is_row SpecialFacility facility ≡ true
unfolding is_in_domain
fits_facility = refl

fits_forwarding : is_row CallForwarding forwarding ≡ true
unfolding is_in_domain
fits_forwarding = refl

pub IsClean-one_subscriber : IsClean one_subscriber
IsClean-one_subscriber = record {
  ids = ids;
  numbers = λ n. at_most_one (has_number n) subscriber;
  keys = record {
    accesses = λ s kind. at_most_one (has_key (s ∷ kind ∷ [])) access;
    facilities = λ s kind. at_most_one (has_key (s ∷ kind ∷ [])) facility;
    forwardings = λ s kind start. at_most_one (has_key (s ∷ kind ∷ start ∷ [])) forwarding;
  };
  parents = record {
    accesses = each (λ row. 1 ≤ count_of_key (take 1 row) (subscriber ∷ [])) access (lit≤ tt);
    facilities = each (λ row. 1 ≤ count_of_key (take 1 row) (subscriber ∷ [])) facility (lit≤ tt);
    forwardings = each (λ row. 1 ≤ count_of_key (take 2 row) (facility ∷ [])) forwarding (lit≤ tt);
  };
  values = record {
    subscribers = each (λ row. is_row Subscriber row ≡ true) subscriber fits_subscriber;
    accesses = each (λ row. is_row AccessInfo row ≡ true) access fits_access;
    facilities = each (λ row. is_row SpecialFacility row ≡ true) facility fits_facility;
    forwardings = each (λ row. is_row CallForwarding row ≡ true) forwarding fits_forwarding;
  };
  counts = record {
    accesses = each (λ row. IsCountWithin 1 4 (count_of_key (take 1 row) (access ∷ []))) subscriber (lit≤ tt, lit≤ tt);
    facilities = each (λ row. IsCountWithin 1 4 (count_of_key (take 1 row) (facility ∷ []))) subscriber (lit≤ tt, lit≤ tt);
    forwardings = each (λ row. IsCountWithin 0 3 (count_of_key (take 2 row) (forwarding ∷ []))) facility (lit≤ tt, lit≤ tt);
  };
}
