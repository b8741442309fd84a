-- The rows of the tests are clean: two subscribers, each with one Access_Info and one Special_Facility row of type 1.
use Rattle.std.specs.Prelude.{◌≡◌, ℕ, zero, suc, ◌+◌, ◌≤◌, Bool, true, false, ◌&&◌, ◌==◌, cond, [], ◌∷◌, take, count_by, All}
use Rattle.std.proofs.Common.{refl, subst, arith, lit≤}
use Rattle.std.proofs.lemmas.Bool.{and_parts, eqb-true}
use Rattle.std.proofs.lemmas.List.Elements.{All-cons, All-nil}
use Rattle.tatp_tables.specs.Tuples.{Tuple}
use Rattle.tatp_tables.specs.Keys.{has_key, has_number}
use Rattle.tatp_tables.specs.Domains.{is_in_domain, is_row}
use Rattle.tatp_tables.specs.Clean.{IsClean, IdsRunFromOne, IsCountWithin, count_of_key}
use Rattle.tatp_tables.specs.declared.row.Rows.{Rows}
use Rattle.tatp_tables.specs.declared.table.Table.TheVariants.{Subscriber, AccessInfo, SpecialFacility}
use Rattle.tatp_tables.proofs.CountLaws.{count_by-cons}

abbrev pub subscriber : ℕ → Tuple
subscriber s = s ∷ s ∷ 0 ∷ 0 ∷ 0 ∷ 0 ∷ 0 ∷ 0 ∷ 0 ∷ 0 ∷ 0 ∷ 0 ∷ 0 ∷ 0 ∷ 0 ∷ 0 ∷ 0 ∷ 0 ∷ 0 ∷ 0 ∷ 0 ∷ 0 ∷ 0 ∷ 0 ∷ 0 ∷ 0 ∷ 0 ∷ 0 ∷ 0 ∷ 0 ∷ 0 ∷ 0 ∷ 1 ∷ 1 ∷ []

abbrev pub access : ℕ → Tuple
access s = s ∷ 1 ∷ 0 ∷ 0 ∷ 4276545 ∷ 280267669825 ∷ []

abbrev pub facility : ℕ → Tuple
facility s = s ∷ 1 ∷ 1 ∷ 0 ∷ 0 ∷ 280267669825 ∷ []

abbrev pub two_subscribers : Rows
two_subscribers = record {
  subscribers = subscriber 1 ∷ subscriber 2 ∷ [];
  accesses = access 1 ∷ access 2 ∷ [];
  facilities = facility 1 ∷ facility 2 ∷ [];
  forwardings = [];
}

two_bits : (a b : Bool) → (a ≡ true → b ≡ false) → cond {A = ℕ} a 1 0 + (cond {A = ℕ} b 1 0 + 0) ≤ 1
two_bits true true apart = let h = apart refl in cc
two_bits true false apart = lit≤ tt
two_bits false true apart = lit≤ tt
two_bits false false apart = lit≤ tt

-- of two rows of which at most one passes at most one is counted
at_most_one : (p : Tuple → Bool) (first second : Tuple) → (p first ≡ true → p second ≡ false) → count_by p (first ∷ second ∷ []) ≤ 1
at_most_one p first second apart = omega (arith, count_by-cons p first (second ∷ []), count_by-cons p second [], two_bits (p first) (p second) apart)

-- a row that begins with 1 and one that begins with 2 have no key in common
apart : (s : ℕ) (x y : Bool) → ((1 == s) && x) ≡ true → ((2 == s) && y) ≡ false
apart s x y h = let is : 1 ≡ s = eqb-true 1 s (and_parts (1 == s) x h).0 in subst (λ n. ((2 == n) && y) ≡ false) is refl

apart_numbers : (n : ℕ) → (1 == n) ≡ true → (2 == n) ≡ false
apart_numbers n h = subst (λ m. (2 == m) ≡ false) (eqb-true 1 n h) refl

ids : IdsRunFromOne two_subscribers
ids zero least most = absurd (omega arith)
ids (suc zero) least most = refl
ids (suc (suc zero)) least most = refl
ids (suc (suc (suc s))) least most = absurd (omega (arith, most))

both : (P : Tuple → Type 0) (first second : Tuple) → P first → P second → All P (first ∷ second ∷ [])
both P first second h k = All-cons P first (second ∷ []) h (All-cons P second [] k (All-nil P))

first_subscriber : is_row Subscriber (subscriber 1) ≡ true
unfolding is_in_domain
first_subscriber = refl

second_subscriber : is_row Subscriber (subscriber 2) ≡ true
unfolding is_in_domain
second_subscriber = refl

first_access : is_row AccessInfo (access 1) ≡ true
unfolding is_in_domain
first_access = refl

second_access : is_row AccessInfo (access 2) ≡ true
unfolding is_in_domain
second_access = refl

first_facility : is_row SpecialFacility (facility 1) ≡ true
unfolding is_in_domain
first_facility = refl

second_facility : is_row SpecialFacility (facility 2) ≡ true
unfolding is_in_domain
second_facility = refl

pub IsClean-two_subscribers : IsClean two_subscribers
IsClean-two_subscribers = record {
  ids = ids;
  numbers = λ n. at_most_one (has_number n) (subscriber 1) (subscriber 2) (apart_numbers n);
  keys = record {
    accesses = λ s kind. at_most_one (has_key (s ∷ kind ∷ [])) (access 1) (access 2) (apart s _ _);
    facilities = λ s kind. at_most_one (has_key (s ∷ kind ∷ [])) (facility 1) (facility 2) (apart s _ _);
    forwardings = λ s kind start. lit≤ tt;
  };
  parents = record {
    accesses = both (λ row. 1 ≤ count_of_key (take 1 row) two_subscribers.subscribers) (access 1) (access 2) (lit≤ tt) (lit≤ tt);
    facilities = both (λ row. 1 ≤ count_of_key (take 1 row) two_subscribers.subscribers) (facility 1) (facility 2) (lit≤ tt) (lit≤ tt);
    forwardings = All-nil _;
  };
  values = record {
    subscribers = both (λ row. is_row Subscriber row ≡ true) (subscriber 1) (subscriber 2) first_subscriber second_subscriber;
    accesses = both (λ row. is_row AccessInfo row ≡ true) (access 1) (access 2) first_access second_access;
    facilities = both (λ row. is_row SpecialFacility row ≡ true) (facility 1) (facility 2) first_facility second_facility;
    forwardings = All-nil _;
  };
  counts = record {
    accesses = both (λ row. IsCountWithin 1 4 (count_of_key (take 1 row) two_subscribers.accesses)) (subscriber 1) (subscriber 2) (lit≤ tt, lit≤ tt) (lit≤ tt, lit≤ tt);
    facilities = both (λ row. IsCountWithin 1 4 (count_of_key (take 1 row) two_subscribers.facilities)) (subscriber 1) (subscriber 2) (lit≤ tt, lit≤ tt) (lit≤ tt, lit≤ tt);
    forwardings = both (λ row. IsCountWithin 0 3 (count_of_key (take 2 row) two_subscribers.forwardings)) (facility 1) (facility 2) (lit≤ tt, lit≤ tt) (lit≤ tt, lit≤ tt);
  };
}
