-- The least call of a log whose key names a subscriber.
use Rattle.std.proofs.Common.{◌≡◌, ◌<◌, ◌≤◌, ℕ, zero, suc, List, [], ◌∷◌, Option, Some, None, IsSome, refl, sym, subst, slice_get, length, arith}
use Rattle.tatp_tables.specs.Tuples.{Tuples}
use Rattle.tatp_numbers.specs.Homes.{home_of_key}
use Rattle.tatp_numbers.specs.Listing.{Listing, answer}
use Rattle.tatp_numbers.specs.declared.key.Key.{Key}
use Rattle.tatp_calls.specs.declared.entry.Entry.{Entry}
use Rattle.tatp_calls.specs.Asked.{key_asked}
use Rattle.tatp_settle.specs.declared.places.CallPlace.{CallPlace}
use Rattle.tatp_settle.specs.Closings.{ClosedState, entries_numbered, StandsAt}
use Rattle.tatp_settle.specs.CallPlaces.{IsSooner, IsFirstCall}
use Rattle.tatp_settle.specs.Causes.{NamesHome}
use Rattle.tatp_settle.specs.Named.{IsNamedIn}
use Rattle.tatp_settle.specs.Placing.{IsAtMost}

within : {A : Type 0} (xs : List A) (i : ℕ) (x : A) → slice_get xs i ≡ Some x → i < length xs
within [] i x h = absurd (let k : None ≡ Some x = h in cc)
within (y ∷ xs) zero x h = omega arith
within (y ∷ xs) (suc i) x h = let l = within xs i x h in omega (arith, l)

pub some_within : {A : Type 0} (xs : List A) (i : ℕ) → i < length xs → IsSome (slice_get xs i)
some_within [] i l = absurd (omega (arith, l))
some_within (x ∷ xs) zero l = refl
some_within (x ∷ xs) (suc i) l = some_within xs i (omega (arith, l))

abbrev pub Naming : List Entry → Listing → Option CallPlace → ℕ → Type 0
Naming log directory least i = (j : ℕ) (entry : Entry) → j < i → slice_get log j ≡ Some entry → IsSome (answer directory (key_asked entry.ask)) → IsAtMost least entry.client entry.number

pub first_of_named : (log : List Entry) (directory : Listing) (least : Option CallPlace) (i : ℕ) → length log ≤ i → Naming log directory least i
    → ((place : CallPlace) → least ≡ Some place → IsNamedIn log directory place.client place.number) → IsFirstCall (IsNamedIn log directory) least
first_of_named log directory None i l seen named = λ client number n. let k = within log n.index n.entry n.stands in seen n.index n.entry (omega (arith, k, l)) n.stands n.names
first_of_named log directory (Some place) i l seen named = record {
  holds = named place refl;
  least = λ client number sooner n.
      let k = within log n.index n.entry n.stands in
      seen n.index n.entry (omega (arith, k, l)) n.stands n.names
      (subst (λ (m : ℕ). IsSooner n.entry.client m place.client place.number) (sym n.own.number) (subst (λ (m : ℕ). IsSooner m number place.client place.number) (sym n.own.client) sooner));
}

-- the same, of the calls without a home
named_home : (subscribers : Tuples) (closed : ClosedState) (directory : Listing) → ((key : Key) → answer directory key ≡ home_of_key subscribers key) → (client number : ℕ) → IsNamedIn (entries_numbered closed 0) directory client number → NamesHome subscribers closed client number
named_home subscribers closed directory is client number n = record {
  found = record { extent = 0; place = n.index; entry = n.entry; stands = n.stands; own = n.own };
  homeless = refl;
  names = subst (λ (v : Option ℕ). IsSome v) (is (key_asked n.entry.ask)) n.names;
}

home_named : (subscribers : Tuples) (closed : ClosedState) (directory : Listing) → ((key : Key) → answer directory key ≡ home_of_key subscribers key) → (client number : ℕ) → NamesHome subscribers closed client number → IsNamedIn (entries_numbered closed 0) directory client number
home_named subscribers closed directory is client number n = record {
  index = n.found.place;
  entry = n.found.entry;
  stands = subst (λ (e : ℕ). StandsAt closed e n.found.place n.found.entry) n.homeless n.found.stands;
  own = n.found.own;
  names = subst (λ (v : Option ℕ). IsSome v) (sym (is (key_asked n.found.entry.ask))) n.names;
}

first_like : (P Q : ℕ → ℕ → Type 0) → ((c n : ℕ) → P c n → Q c n) → ((c n : ℕ) → Q c n → P c n) → (v : Option CallPlace) → IsFirstCall P v → IsFirstCall Q v
first_like P Q there back None h = λ c n q. h c n (back c n q)
first_like P Q there back (Some place) h = record { holds = there place.client place.number h.holds; least = λ c n s q. h.least c n s (back c n q) }

pub first_of_homes : (subscribers : Tuples) (closed : ClosedState) (directory : Listing) → ((key : Key) → answer directory key ≡ home_of_key subscribers key) → (v : Option CallPlace)
    → IsFirstCall (IsNamedIn (entries_numbered closed 0) directory) v → IsFirstCall (NamesHome subscribers closed) v
first_of_homes subscribers closed directory is v h = first_like (IsNamedIn (entries_numbered closed 0) directory) (NamesHome subscribers closed) (named_home subscribers closed directory is) (home_named subscribers closed directory is) v h
