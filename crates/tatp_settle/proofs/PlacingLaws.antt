-- The entries of all logs, put into the table of calls one after another.
use Rattle.std.proofs.Common.{◌≡◌, ℕ, ◌<◌, ◌≤◌, ◌+◌, ◌⊎◌, inl, inr, Bool, zero, suc, ◌-◌, ◌++◌, [], ◌∷◌, length, List, Option, Some, None, true, false, refl, sym, ◌∙◌, ap, subst, length-append, arith}
use Rattle.std.specs.Option.{option_or}
use Rattle.std.proofs.lemmas.Option.{same_Some, none-some}
use Rattle.std.proofs.lemmas.Bool.{false≢true}
use Rattle.tatp_calls.specs.declared.entry.Entry.{Entry}
use Rattle.tatp_logs.specs.declared.receipt.Receipt.{Receipt}
use Rattle.tatp_settle.specs.declared.places.LogPlace.{LogPlace}
use Rattle.tatp_settle.specs.declared.places.CallPlace.{CallPlace}
use Rattle.tatp_settle.specs.declared.placement.Placed.{Placed}
use Rattle.tatp_logs.specs.Logs.{IsOfCall}
use Rattle.tatp_settle.specs.Closings.{ClosedState, entries_numbered, StandsAt}
use Rattle.tatp_settle.specs.Runs.{at_call}
use Rattle.tatp_settle.specs.Answering.{EntryFound}
use Rattle.tatp_settle.specs.CallPlaces.{IsSooner, IsFirstCall}
use Rattle.tatp_settle.specs.Causes.{HasEntryTooMany}
use Rattle.tatp_settle.specs.Placing.{Cells, Puts, Points, AllPlaced, IsAtMost, BelongsAt, IsTooMany, HasTooManyIn, ArePlacedIn, IsTableOf, cells_of}
use Rattle.tatp_settle.proofs.SearchLaws.{lt_or}
use Rattle.tatp_settle.proofs.ReceivedLaws.{in_cell, one_place}

-- the places before one, log by log
abbrev pub IsVisited : ℕ → ℕ → ℕ → ℕ → Type 0
IsVisited extent index e i = (e < extent) ⊎ ((e ≡ extent) × (i < index))

-- of the clients that belong there, the entries before a place are in the cells of their calls, or stand no sooner than the least call with an entry too many
pub record PlacedBefore (closed : ClosedState) (receipts : List (List Receipt)) (first : ℕ) (last : Bool) (cells : Cells LogPlace) (least : Option CallPlace) (extent index : ℕ) : Type 0 where
  pub none : (at number : ℕ) → at_call receipts at number ≡ None → cells at number ≡ None
  pub some : (at number : ℕ) → cells at number ≡ None → at_call receipts at number ≡ None
  pub points : (at number : ℕ) (place : LogPlace) → cells at number ≡ Some (Some place) → Points closed (first + at) number place × IsVisited extent index place.extent place.index
  pub seen : (e i at : ℕ) (entry : Entry) → first + at ≡ entry.client → BelongsAt receipts last at → IsVisited extent index e i → StandsAt closed e i entry → (cells at entry.number ≡ Some (Some (record { extent = e; index = i }))) ⊎ IsAtMost least entry.client entry.number
  pub extra : (place : CallPlace) → least ≡ Some place → HasTooManyIn closed receipts first last place.client place.number

visited_step : (x i e j : ℕ) → IsVisited x (i + 1) e j → IsVisited x i e j ⊎ ((e ≡ x) × (j ≡ i))
visited_step x i e j v = elim v as (λ _. IsVisited x i e j ⊎ ((e ≡ x) × (j ≡ i))) [
  | inl l ↦ inl (inl l)
  | inr s ↦ (elim (lt_or j i) as (λ _. IsVisited x i e j ⊎ ((e ≡ x) × (j ≡ i))) [ inl l ↦ inl (inr (s.0, l)) | inr g ↦ (let m : j < i + 1 = s.1 in inr (s.0, omega arith)) ])
]

visited_more : (x i e j : ℕ) → IsVisited x i e j → IsVisited x (i + 1) e j
visited_more x i e j (inl l) = inl l
visited_more x i e j (inr s) = inr (s.0, omega (arith, s.1))

visited_next : (x i e j : ℕ) → IsVisited x i e j → IsVisited (x + 1) 0 e j
visited_next x i e j (inl l) = inl (omega (arith, l))
visited_next x i e j (inr s) = inl (omega (arith, s.0))

same_or : (a b c d : ℕ) → ((a ≡ c) × (b ≡ d)) ⊎ ((a ≡ c) → (b ≡ d) → ⊥)
same_or a b c d = elim (eq_or a c) as (λ _. ((a ≡ c) × (b ≡ d)) ⊎ ((a ≡ c) → (b ≡ d) → ⊥)) [
  | inl e ↦ (elim (eq_or b d) as (λ _. ((a ≡ c) × (b ≡ d)) ⊎ ((a ≡ c) → (b ≡ d) → ⊥)) [ inl f ↦ inl (e, f) | inr n ↦ inr (λ _ g. n g) ])
  | inr n ↦ inr (λ g _. n g)
]
  where
    order : (m n : ℕ) → (m ≡ n) ⊎ ((m < n) ⊎ (n < m))
    order m n = grind arith

    apart : (m n : ℕ) → (m < n) ⊎ (n < m) → m ≡ n → ⊥
    apart m n l e = grind arith

    eq_or : (m n : ℕ) → (m ≡ n) ⊎ (m ≡ n → ⊥)
    eq_or m n = elim (order m n) as (λ _. (m ≡ n) ⊎ (m ≡ n → ⊥)) [ inl e ↦ inl e | inr l ↦ inr (λ e. apart m n l e) ]

abbrev place_at : ℕ → ℕ → LogPlace
place_at extent index = record { extent = extent; index = index }

-- the whole log was seen
pub placed_log : (closed : ClosedState) (receipts : List (List Receipt)) (first : ℕ) (last : Bool) (cells : Cells LogPlace) (least : Option CallPlace) (x count : ℕ) → PlacedBefore closed receipts first last cells least x count → ((i : ℕ) (entry : Entry) → count ≤ i → StandsAt closed x i entry → ⊥) → PlacedBefore closed receipts first last cells least (x + 1) 0
placed_log closed receipts first last cells least x count h past = record {
  none = h.none;
  some = h.some;
  points = λ c n p e. ((h.points c n p e).0, visited_next x count p.extent p.index (h.points c n p e).1);
  seen = λ e j at entry is own v s. elim (which e j v) as (λ _. (cells at entry.number ≡ Some (Some (record { extent = e; index = j }))) ⊎ IsAtMost least entry.client entry.number) [
    | inl w ↦ h.seen e j at entry is own w s
    | inr k ↦ absurd (past j entry k.1 (subst (λ (d : ℕ). StandsAt closed d j entry) k.0 s))
  ];
  extra = h.extra;
}
  where
    which : (e j : ℕ) → IsVisited (x + 1) 0 e j → IsVisited x count e j ⊎ ((e ≡ x) × (count ≤ j))
    which e j v = grind arith

-- the entry there is this one
entry_there : (closed : ClosedState) (x i e j : ℕ) (entry f : Entry) → StandsAt closed x i entry → StandsAt closed e j f → e ≡ x → j ≡ i → entry ≡ f
entry_there closed x i e j entry f at g s t = same_Some entry f (sym at ∙ (subst (λ (d : ℕ). StandsAt closed x d f) t (subst (λ (d : ℕ). StandsAt closed d j f) s g)))

-- the entry's client doesn't belong there
pub placed_other : (closed : ClosedState) (receipts : List (List Receipt)) (first : ℕ) (last : Bool) (cells : Cells LogPlace) (least : Option CallPlace) (x i : ℕ) (entry : Entry) → PlacedBefore closed receipts first last cells least x i → StandsAt closed x i entry
    → ((at : ℕ) → first + at ≡ entry.client → BelongsAt receipts last at → ⊥) → PlacedBefore closed receipts first last cells least x (i + 1)
placed_other closed receipts first last cells least x i entry h here other = record {
  none = h.none;
  some = h.some;
  points = λ c n p g. (let old = h.points c n p g in (old.0, visited_more x i p.extent p.index old.1));
  seen = λ e j at f is own v g. elim (visited_step x i e j v) as (λ _. (cells at f.number ≡ Some (Some (record { extent = e; index = j }))) ⊎ IsAtMost least f.client f.number) [
    | inl w ↦ h.seen e j at f is own w g
    | inr s ↦ absurd (other at (is ∙ ap (λ (r : Entry). r.client) (sym (entry_there closed x i e j entry f here g s.0 s.1))) own)
  ];
  extra = h.extra;
}

-- the entry's cell was empty, and has its place now
pub placed_put : (closed : ClosedState) (receipts : List (List Receipt)) (first : ℕ) (last : Bool) (cells cells' : Cells LogPlace) (least : Option CallPlace) (x i k : ℕ) (entry : Entry) → PlacedBefore closed receipts first last cells least x i → StandsAt closed x i entry → first + k ≡ entry.client
    → Puts cells k entry.number (record { extent = x; index = i }) true cells' → PlacedBefore closed receipts first last cells' least x (i + 1)
placed_put closed receipts first last cells cells' least x i k entry h here here_is q = record {
  none = λ c n e. elim (same_or c n k entry.number) as (λ _. cells' c n ≡ None) [
    | inl s ↦ absurd (none-some None (sym (h.none k entry.number (subst (λ (m : ℕ). at_call receipts m entry.number ≡ None) s.0 (subst (λ (m : ℕ). at_call receipts c m ≡ None) s.1 e))) ∙ q.0))
    | inr o ↦ q.2 c n o ∙ h.none c n e
  ];
  some = λ c n e. elim (same_or c n k entry.number) as (λ _. at_call receipts c n ≡ None) [
    | inl s ↦ absurd (none-some (Some place) (sym (subst (λ (m : ℕ). cells' m entry.number ≡ None) s.0 (subst (λ (m : ℕ). cells' c m ≡ None) s.1 e)) ∙ q.1))
    | inr o ↦ h.some c n (sym (q.2 c n o) ∙ e)
  ];
  points = λ c n p g. elim (same_or c n k entry.number) as (λ _. Points closed (first + c) n p × IsVisited x (i + 1) p.extent p.index) [
    | inl s ↦ subst (λ (r : LogPlace). Points closed (first + c) n r × IsVisited x (i + 1) r.extent r.index) (same_Some place p (same_Some (Some place) (Some p) (sym q.1 ∙ (subst (λ (m : ℕ). cells' m entry.number ≡ Some (Some p)) s.0 (subst (λ (m : ℕ). cells' c m ≡ Some (Some p)) s.1 g)))))
        (record { entry = entry; stands = here; own = record { client = sym here_is ∙ ap (λ (m : ℕ). first + m) (sym s.0); number = sym s.1 } }, inr (refl, omega arith))
    | inr o ↦ (let old = h.points c n p (sym (q.2 c n o) ∙ g) in (old.0, visited_more x i p.extent p.index old.1))
  ];
  seen = λ e j at f is own v g. elim (visited_step x i e j v) as (λ _. (cells' at f.number ≡ Some (Some (record { extent = e; index = j }))) ⊎ IsAtMost least f.client f.number) [
    | inl w ↦ (elim (h.seen e j at f is own w g) as (λ _. (cells' at f.number ≡ Some (Some (record { extent = e; index = j }))) ⊎ IsAtMost least f.client f.number) [
      | inl a ↦ (elim (same_or at f.number k entry.number) as (λ _. (cells' at f.number ≡ Some (Some (record { extent = e; index = j }))) ⊎ IsAtMost least f.client f.number) [
        | inl s ↦ absurd (none-some (record { extent = e; index = j }) (same_Some None (Some (record { extent = e; index = j })) (sym q.0 ∙ (subst (λ (m : ℕ). cells m entry.number ≡ Some (Some (record { extent = e; index = j }))) s.0 (subst (λ (m : ℕ). cells at m ≡ Some (Some (record { extent = e; index = j }))) s.1 a)))))
        | inr o ↦ inl (q.2 at f.number o ∙ a)
      ])
      | inr b ↦ inr b
    ])
    | inr s ↦ inl (now at f (entry_there closed x i e j entry f here g s.0 s.1) is
        ∙ ap (λ (r : LogPlace). Some (Some r)) (same_place e j s.0 s.1))
  ];
  extra = h.extra;
}
  where
    place : LogPlace
    place = record { extent = x; index = i }

    same_place : (e j : ℕ) → e ≡ x → j ≡ i → place ≡ place_at e j
    same_place e j s t = ap (λ (m : ℕ). place_at m i) (sym s) ∙ ap (λ (m : ℕ). place_at e m) (sym t)

    now : (at : ℕ) (f : Entry) → entry ≡ f → first + at ≡ f.client → cells' at f.number ≡ Some (Some place)
    now at f same is =
        let client : entry.client ≡ f.client = ap (λ (r : Entry). r.client) same in
        let place_is : k ≡ at = omega (arith, here_is, is, client) in
        subst (λ (m : ℕ). cells' m f.number ≡ Some (Some place)) place_is (subst (λ (r : Entry). cells' k r.number ≡ Some (Some place)) same q.1)

-- the entry's cell was filled or isn't there: its call has an entry too many
pub placed_kept : (closed : ClosedState) (receipts : List (List Receipt)) (first : ℕ) (last : Bool) (cells cells' : Cells LogPlace) (least least' : Option CallPlace) (x i k : ℕ) (entry : Entry) → PlacedBefore closed receipts first last cells least x i → StandsAt closed x i entry → first + k ≡ entry.client → BelongsAt receipts last k
    → Puts cells k entry.number (record { extent = x; index = i }) false cells'
    → ((c n : ℕ) → IsAtMost least c n → IsAtMost least' c n) → IsAtMost least' entry.client entry.number → (least' ≡ least) ⊎ (least' ≡ Some (record { client = entry.client; number = entry.number })) → PlacedBefore closed receipts first last cells' least' x (i + 1)
placed_kept closed receipts first last cells cells' least least' x i k entry h here here_is belongs q keeps most is = record {
  none = λ c n e. q.1 c n ∙ h.none c n e;
  some = λ c n e. h.some c n (sym (q.1 c n) ∙ e);
  points = λ c n p g. (let old = h.points c n p (sym (q.1 c n) ∙ g) in (old.0, visited_more x i p.extent p.index old.1));
  seen = λ e j at f at_is own v g. elim (visited_step x i e j v) as (λ _. (cells' at f.number ≡ Some (Some (record { extent = e; index = j }))) ⊎ IsAtMost least' f.client f.number) [
    | inl w ↦ (elim (h.seen e j at f at_is own w g) as (λ _. (cells' at f.number ≡ Some (Some (record { extent = e; index = j }))) ⊎ IsAtMost least' f.client f.number) [ inl a ↦ inl (q.1 at f.number ∙ a) | inr b ↦ inr (keeps f.client f.number b) ])
    | inr s ↦ inr (subst (λ (r : Entry). IsAtMost least' r.client r.number) (entry_there closed x i e j entry f here g s.0 s.1) most)
  ];
  extra = λ place g. elim is as (λ _. HasTooManyIn closed receipts first last place.client place.number) [
    | inl o ↦ h.extra place (sym o ∙ g)
    | inr o ↦ subst (λ (r : CallPlace). HasTooManyIn closed receipts first last r.client r.number) (same_Some (record { client = entry.client; number = entry.number }) place (sym o ∙ g)) (record { at = k; is = here_is; belongs = belongs; many = why (cells k entry.number) refl })
  ];
}
  where
    unvisited : (e j : ℕ) → IsVisited x i e j → x ≡ e → i ≡ j → ⊥
    unvisited e j v a b = grind arith

    found : EntryFound closed entry.client entry.number
    found = record { extent = x; place = i; entry = entry; stands = here; own = record { client = refl; number = refl } }

    why : (v : Option (Option LogPlace)) → cells k entry.number ≡ v → IsTooMany closed (at_call receipts k entry.number) entry.client entry.number
    why None g = inl (found, h.some k entry.number g)
    why (Some None) g = absurd (q.0 g)
    why (Some (Some p)) g = let old = h.points k entry.number p g in
        inr (record { one = found; other = record { extent = p.extent; place = p.index; entry = old.0.entry; stands = old.0.stands; own = record { client = old.0.own.client ∙ here_is; number = old.0.own.number } }; apart = λ a b. unvisited p.extent p.index old.1 a b })

-- ---- the same, of an entry of which only its call is read
pub caller_other : (closed : ClosedState) (receipts : List (List Receipt)) (first : ℕ) (last : Bool) (cells : Cells LogPlace) (least : Option CallPlace) (x i client number : ℕ) → PlacedBefore closed receipts first last cells least x i → IsOfCall (entries_numbered closed x) i client number
    → ((at : ℕ) → first + at ≡ client → BelongsAt receipts last at → ⊥) → PlacedBefore closed receipts first last cells least x (i + 1)
caller_other closed receipts first last cells least x i client number h call other =
    placed_other closed receipts first last cells least x i call.entry h call.stands (λ at is own. other at (is ∙ call.of_client) own)

pub caller_put : (closed : ClosedState) (receipts : List (List Receipt)) (first : ℕ) (last : Bool) (cells cells' : Cells LogPlace) (least : Option CallPlace) (x i k client number : ℕ) → PlacedBefore closed receipts first last cells least x i → IsOfCall (entries_numbered closed x) i client number → first + k ≡ client
    → Puts cells k number (record { extent = x; index = i }) true cells' → PlacedBefore closed receipts first last cells' least x (i + 1)
caller_put closed receipts first last cells cells' least x i k client number h call is q =
    placed_put closed receipts first last cells cells' least x i k call.entry h call.stands (is ∙ sym call.of_client)
    (subst (λ (n : ℕ). Puts cells k n (record { extent = x; index = i }) true cells') (sym call.of_number) q)

pub caller_kept : (closed : ClosedState) (receipts : List (List Receipt)) (first : ℕ) (last : Bool) (cells cells' : Cells LogPlace) (least least' : Option CallPlace) (x i k client number : ℕ) → PlacedBefore closed receipts first last cells least x i → IsOfCall (entries_numbered closed x) i client number → first + k ≡ client → BelongsAt receipts last k
    → Puts cells k number (record { extent = x; index = i }) false cells'
    → ((c n : ℕ) → IsAtMost least c n → IsAtMost least' c n) → IsAtMost least' client number → (least' ≡ least) ⊎ (least' ≡ Some (record { client = client; number = number })) → PlacedBefore closed receipts first last cells' least' x (i + 1)
caller_kept closed receipts first last cells cells' least least' x i k client number h call here_is belongs q keeps most is =
    let e = call.entry in
    placed_kept closed receipts first last cells cells' least least' x i k e h call.stands (here_is ∙ sym call.of_client) belongs
    (subst (λ (n : ℕ). Puts cells k n (record { extent = x; index = i }) false cells') (sym call.of_number) q)
    keeps
    (subst (λ (n : ℕ). IsAtMost least' e.client n) (sym call.of_number) (subst (λ (c : ℕ). IsAtMost least' c number) (sym call.of_client) most))
    (elim is as (λ _. (least' ≡ least) ⊎ (least' ≡ Some (record { client = e.client; number = e.number }))) [
      | inl a ↦ inl a
      | inr b ↦ inr (b ∙ (λ j. Some (record { client = sym call.of_client j; number = sym call.of_number j })))
    ])

-- all logs were seen
pub placed_part : (closed : ClosedState) (receipts : List (List Receipt)) (first : ℕ) (last : Bool) (cells : Cells LogPlace) (least : Option CallPlace) (count : ℕ) → ((e i : ℕ) (entry : Entry) → count ≤ e → StandsAt closed e i entry → ⊥) → PlacedBefore closed receipts first last cells least count 0 → ArePlacedIn closed receipts first last cells least
placed_part closed receipts first last cells least count past h = record {
  none = h.none;
  some = h.some;
  points = λ c n p e. (h.points c n p e).0;
  seen = λ e i at entry is own s. h.seen e i at entry is own (visited e i entry s (lt_or e count)) s;
  extra = h.extra;
}
  where
    visited : (e i : ℕ) (entry : Entry) → StandsAt closed e i entry → (e < count) ⊎ (count ≤ e) → IsVisited count 0 e i
    visited e i entry s (inl l) = inl l
    visited e i entry s (inr l) = absurd (past e i entry l s)

-- ---- two parts, one after the other
at_front : {A : Type 0} (xs ys : List (List A)) (k n : ℕ) → k < length xs → at_call (xs ++ ys) k n ≡ at_call xs k n
at_front [] ys k n l = absurd (omega (arith, l))
at_front (x ∷ xs) ys zero n l = refl
at_front (x ∷ xs) ys (suc k) n l = at_front xs ys k n (omega (arith, l))

at_back : {A : Type 0} (xs ys : List (List A)) (k n : ℕ) → at_call (xs ++ ys) (length xs + k) n ≡ at_call ys k n
at_back [] ys k n = ap (λ (m : ℕ). at_call ys m n) (let e : 0 + k ≡ k = omega arith in e)
at_back (x ∷ xs) ys k n = ap (λ (m : ℕ). at_call (x ∷ xs ++ ys) m n) (let e : suc (length xs) + k ≡ suc (length xs + k) = omega arith in e) ∙ at_back xs ys k n

module _ (closed : ClosedState) (low high : List (List Receipt)) (first : ℕ) (last : Bool) (front back cells : Cells LogPlace)
    (at_low : (k n : ℕ) → k < length low → cells k n ≡ front k n) (at_high : (k n : ℕ) → cells (length low + k) n ≡ back k n) where
  which : (k : ℕ) → (k < length low) ⊎ ((j : ℕ) × (length low + j ≡ k))
  which k = elim (lt_or k (length low)) as (λ _. (k < length low) ⊎ ((j : ℕ) × (length low + j ≡ k))) [ inl l ↦ inl l | inr g ↦ inr (k - length low, omega (arith, g)) ]

  both_none : (least other : Option CallPlace) → ArePlacedIn closed low first false front least → ArePlacedIn closed high (first + length low) last back other → (k n : ℕ) → at_call (low ++ high) k n ≡ None → cells k n ≡ None
  both_none least other f b k n e = elim (which k) as (λ _. cells k n ≡ None) [
    | inl l ↦ at_low k n l ∙ f.none k n (sym (at_front low high k n l) ∙ e)
    | inr s ↦ subst (λ (m : ℕ). cells m n ≡ None) s.1 (at_high s.0 n ∙ b.none s.0 n (sym (at_back low high s.0 n) ∙ subst (λ (m : ℕ). at_call (low ++ high) m n ≡ None) (sym s.1) e))
  ]

  both_some : (least other : Option CallPlace) → ArePlacedIn closed low first false front least → ArePlacedIn closed high (first + length low) last back other → (k n : ℕ) → cells k n ≡ None → at_call (low ++ high) k n ≡ None
  both_some least other f b k n e = elim (which k) as (λ _. at_call (low ++ high) k n ≡ None) [
    | inl l ↦ at_front low high k n l ∙ f.some k n (sym (at_low k n l) ∙ e)
    | inr s ↦ subst (λ (m : ℕ). at_call (low ++ high) m n ≡ None) s.1 (at_back low high s.0 n ∙ b.some s.0 n (sym (at_high s.0 n) ∙ subst (λ (m : ℕ). cells m n ≡ None) (sym s.1) e))
  ]

  further : (j k : ℕ) → length low + j ≡ k → (first + length low) + j ≡ first + k
  further j k e = omega (arith, e)

  both_points : (least other : Option CallPlace) → ArePlacedIn closed low first false front least → ArePlacedIn closed high (first + length low) last back other → (k n : ℕ) (place : LogPlace) → cells k n ≡ Some (Some place) → Points closed (first + k) n place
  both_points least other f b k n place e = elim (which k) as (λ _. Points closed (first + k) n place) [
    | inl l ↦ f.points k n place (sym (at_low k n l) ∙ e)
    | inr s ↦ subst (λ (m : ℕ). Points closed m n place) (further s.0 k s.1) (b.points s.0 n place (sym (at_high s.0 n) ∙ subst (λ (m : ℕ). cells m n ≡ Some (Some place)) (sym s.1) e))
  ]

  belongs_high : (j k : ℕ) → length low + j ≡ k → BelongsAt (low ++ high) last k → BelongsAt high last j
  belongs_high j k e (inl l) = let both = length-append low high in inl (omega (arith, e, l, both))
  belongs_high j k e (inr all) = inr all

  belongs_low : (k : ℕ) → BelongsAt low false k → BelongsAt (low ++ high) last k
  belongs_low k (inl l) = let both = length-append low high in inl (omega (arith, l, both))
  belongs_low k (inr never) = absurd (false≢true never)

  belongs_both : (j : ℕ) → BelongsAt high last j → BelongsAt (low ++ high) last (length low + j)
  belongs_both j (inl l) = let both = length-append low high in inl (omega (arith, l, both))
  belongs_both j (inr all) = inr all

  most_front : (least other : Option CallPlace) (c n : ℕ) → IsAtMost least c n → IsAtMost (option_or least other) c n
  most_front None other c n m = absurd m
  most_front (Some place) other c n m = m

  -- a call of the first part stands before each of the second
  in_low : (place : CallPlace) → HasTooManyIn closed low first false place.client place.number → place.client < first + length low
  in_low place h = within h.at h.is h.belongs
    where
      within : (at : ℕ) → first + at ≡ place.client → BelongsAt low false at → place.client < first + length low
      within at e (inl l) = omega (arith, e, l)
      within at e (inr never) = absurd (false≢true never)

  most_back : (least other : Option CallPlace) → ArePlacedIn closed low first false front least → (j c n : ℕ) → (first + length low) + j ≡ c → IsAtMost other c n → IsAtMost (option_or least other) c n
  most_back None other f j c n e m = m
  most_back (Some place) other f j c n e m = after (in_low place (f.extra place refl))
    where
      after : place.client < first + length low → IsSooner c n place.client place.number → ⊥
      after l (inl s) = absurd (omega (arith, l, e, s))
      after l (inr s) = absurd (omega (arith, l, e, s.0))

  both_seen : (least other : Option CallPlace) → ArePlacedIn closed low first false front least → ArePlacedIn closed high (first + length low) last back other
      → (e i k : ℕ) (entry : Entry) → first + k ≡ entry.client → BelongsAt (low ++ high) last k → StandsAt closed e i entry → (cells k entry.number ≡ Some (Some (record { extent = e; index = i }))) ⊎ IsAtMost (option_or least other) entry.client entry.number
  both_seen least other f b e i k entry is own s = elim (which k) as (λ _. (cells k entry.number ≡ Some (Some (record { extent = e; index = i }))) ⊎ IsAtMost (option_or least other) entry.client entry.number) [
    | inl l ↦ (elim (f.seen e i k entry is (inl l) s) as (λ _. (cells k entry.number ≡ Some (Some (record { extent = e; index = i }))) ⊎ IsAtMost (option_or least other) entry.client entry.number) [
      | inl a ↦ inl (at_low k entry.number l ∙ a)
      | inr m ↦ inr (most_front least other entry.client entry.number m)
    ])
    | inr g ↦ (elim (b.seen e i g.0 entry (further g.0 k g.1 ∙ is) (belongs_high g.0 k g.1 own) s) as (λ _. (cells k entry.number ≡ Some (Some (record { extent = e; index = i }))) ⊎ IsAtMost (option_or least other) entry.client entry.number) [
      | inl a ↦ inl (subst (λ (m : ℕ). cells m entry.number ≡ Some (Some (record { extent = e; index = i }))) g.1 (at_high g.0 entry.number ∙ a))
      | inr m ↦ inr (most_back least other f g.0 entry.client entry.number (further g.0 k g.1 ∙ is) m)
    ])
  ]

  extra_low : (c n : ℕ) → HasTooManyIn closed low first false c n → HasTooManyIn closed (low ++ high) first last c n
  extra_low c n h = record { at = h.at; is = h.is; belongs = belongs_low h.at h.belongs; many = by_cases h.belongs }
    where
      by_cases : BelongsAt low false h.at → IsTooMany closed (at_call (low ++ high) h.at n) c n
      by_cases (inl l) = subst (λ (r : Option Receipt). IsTooMany closed r c n) (sym (at_front low high h.at n l)) h.many
      by_cases (inr never) = absurd (false≢true never)

  extra_high : (c n : ℕ) → HasTooManyIn closed high (first + length low) last c n → HasTooManyIn closed (low ++ high) first last c n
  extra_high c n h = record {
    at = length low + h.at;
    is = sym (further h.at (length low + h.at) refl) ∙ h.is;
    belongs = belongs_both h.at h.belongs;
    many = subst (λ (r : Option Receipt). IsTooMany closed r c n) (sym (at_back low high h.at n)) h.many;
  }

  both_extra : (least other : Option CallPlace) → ArePlacedIn closed low first false front least → ArePlacedIn closed high (first + length low) last back other → (place : CallPlace) → option_or least other ≡ Some place → HasTooManyIn closed (low ++ high) first last place.client place.number
  both_extra None other f b place e = extra_high place.client place.number (b.extra place e)
  both_extra (Some p) other f b place e = extra_low place.client place.number (f.extra place e)

  pub both_placed : (least other : Option CallPlace) → ArePlacedIn closed low first false front least → ArePlacedIn closed high (first + length low) last back other → ArePlacedIn closed (low ++ high) first last cells (option_or least other)
  both_placed least other f b = record { none = both_none least other f b; some = both_some least other f b; points = both_points least other f b; seen = both_seen least other f b; extra = both_extra least other f b }

-- the rows of two tables, one after the other
pub both_tables : (closed : ClosedState) (low high : List (List Receipt)) (first : ℕ) (last : Bool) (front back both : Placed) → both.table ≡ front.table ++ back.table → both.extra ≡ option_or front.extra back.extra
    → IsTableOf closed low first false front → IsTableOf closed high (first + length low) last back → IsTableOf closed (low ++ high) first last both
both_tables closed low high first last front back both rows extra f b = record {
  len = ap length rows ∙ (length-append front.table back.table ∙ ((λ i. f.len i + b.len i) ∙ sym (length-append low high)));
  placed = subst (λ (v : Option CallPlace). ArePlacedIn closed (low ++ high) first last (cells_of both.table) v) (sym extra)
      (both_placed closed low high first last (cells_of front.table) (cells_of back.table) (cells_of both.table) at_low at_high front.extra back.extra f.placed b.placed);
}
  where
    at_low : (k n : ℕ) → k < length low → cells_of both.table k n ≡ cells_of front.table k n
    at_low k n l = ap (λ (t : List (List (Option LogPlace))). cells_of t k n) rows ∙ at_front front.table back.table k n (omega (arith, l, f.len))

    at_high : (k n : ℕ) → cells_of both.table (length low + k) n ≡ cells_of back.table k n
    at_high k n =
        ap (λ (t : List (List (Option LogPlace))). cells_of t (length low + k) n) rows
        ∙ (ap (λ (m : ℕ). cells_of (front.table ++ back.table) (m + k) n) (sym f.len) ∙ at_back front.table back.table k n)

-- ---- the lists of all clients
from_zero : (n : ℕ) → 0 + n ≡ n
from_zero n = omega arith

module _ (closed : ClosedState) (receipts : List (List Receipt)) (cells : Cells LogPlace) where
  pub placed_all : ArePlacedIn closed receipts 0 true cells None → AllPlaced closed receipts cells
  placed_all h = record {
    some = h.some;
    none = h.none;
    points = λ c n p e. subst (λ (m : ℕ). Points closed m n p) (from_zero c) (h.points c n p e);
    placed = λ e i entry s. elim (h.seen e i entry.client entry (from_zero entry.client) (inr refl) s) as (λ _. cells entry.client entry.number ≡ Some (Some (record { extent = e; index = i }))) [ inl a ↦ a | inr b ↦ absurd b ];
  }

  in_its_cell : (place : CallPlace) → ArePlacedIn closed receipts 0 true cells (Some place) → (c n : ℕ) → IsSooner c n place.client place.number → (f : EntryFound closed c n) → cells c n ≡ Some (Some (record { extent = f.extent; index = f.place }))
  in_its_cell place h c n s f = elim (h.seen f.extent f.place f.entry.client f.entry (from_zero f.entry.client) (inr refl) f.stands) as (λ _. cells c n ≡ Some (Some (record { extent = f.extent; index = f.place }))) [
    | inl m ↦ subst (λ (k : ℕ). cells c k ≡ Some (Some (record { extent = f.extent; index = f.place }))) f.own.number (subst (λ (k : ℕ). cells k f.entry.number ≡ Some (Some (record { extent = f.extent; index = f.place }))) f.own.client m)
    | inr o ↦ absurd (o (subst (λ (k : ℕ). IsSooner k f.entry.number place.client place.number) (sym f.own.client) (subst (λ (k : ℕ). IsSooner c k place.client place.number) (sym f.own.number) s)))
  ]

  none_sooner : (place : CallPlace) → ArePlacedIn closed receipts 0 true cells (Some place) → (c n : ℕ) → IsSooner c n place.client place.number → HasEntryTooMany closed receipts c n → ⊥
  none_sooner place h c n s (inl m) = none-some (Some (record { extent = m.found.extent; index = m.found.place })) (sym (h.none c n m.lacks) ∙ (in_its_cell place h c n s m.found))
  none_sooner place h c n s (inr t) =
      let one : LogPlace = record { extent = t.one.extent; index = t.one.place } in
      let other : LogPlace = record { extent = t.other.extent; index = t.other.place } in
      let same : one ≡ other = same_Some one other (same_Some (Some one) (Some other) (sym (in_its_cell place h c n s t.one) ∙ (in_its_cell place h c n s t.other))) in
      t.apart (ap (λ (r : LogPlace). r.extent) same) (ap (λ (r : LogPlace). r.index) same)

  none_extra : ArePlacedIn closed receipts 0 true cells None → (c n : ℕ) → HasEntryTooMany closed receipts c n → ⊥
  none_extra h c n (inl m) = none-some (Some (record { extent = m.found.extent; index = m.found.place })) (sym (h.none c n m.lacks) ∙ in_cell closed receipts cells (placed_all h) c n m.found)
  none_extra h c n (inr t) = let same = one_place closed receipts cells (placed_all h) c n t.one t.other in t.apart same.0 same.1

  too_many : (place : CallPlace) → HasTooManyIn closed receipts 0 true place.client place.number → HasEntryTooMany closed receipts place.client place.number
  too_many place h = by_cases (subst (λ (k : ℕ). IsTooMany closed (at_call receipts k place.number) place.client place.number) (sym (from_zero h.at) ∙ h.is) h.many)
    where
      by_cases : IsTooMany closed (at_call receipts place.client place.number) place.client place.number → HasEntryTooMany closed receipts place.client place.number
      by_cases (inl m) = inl (record { found = m.0; lacks = m.1 })
      by_cases (inr t) = inr t

  pub placed_end : (least : Option CallPlace) → ArePlacedIn closed receipts 0 true cells least → IsFirstCall (HasEntryTooMany closed receipts) least
  placed_end None h = none_extra h
  placed_end (Some place) h = record { holds = too_many place (h.extra place refl); least = none_sooner place h }
