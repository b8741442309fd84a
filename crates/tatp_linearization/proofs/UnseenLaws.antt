-- An update of the location that nobody saw, and whose location is replaced, needn't be open.
use Rattle.std.proofs.Common.{◌≡◌, ℕ, zero, suc, ◌<◌, ◌⊎◌, ◌==◌, Bool, true, false, cond, List, [], ◌∷◌, filter, find, Option, Some, None, set, slice_get, slice_index, refl, sym, ◌∙◌, ap, subst, arith, true≢false, inl, inr}
use Rattle.std.specs.Option.{option_map}
use Rattle.std.specs.List.{AllByRecursion}
use Rattle.std.proofs.lemmas.List.{get_or-set_other}
use Rattle.std.proofs.lemmas.Option.{get_or_from_slice_get}
use Rattle.tatp_tables.specs.Tuples.{Tuple, Tuples, has, rows_of, replace_row}
use Rattle.tatp_tables.specs.Keys.{row_at, row_with_number, has_number, has_key}
use Rattle.tatp_tables.specs.Database.{Database}
use Rattle.tatp_tables.specs.declared.table.Table.TheVariants.{Subscriber}
use Rattle.tatp_tables.proofs.FindLaws.{found_in, none_in}
use Rattle.tatp_tables.proofs.KeyLaws.{key_is, row_at-has, has-found}
use Rattle.tatp_homes.specs.Home.{SubscriberRows, IsHome}
use Rattle.tatp_numbers.specs.declared.key.Key.TheVariants.{Number}
use Rattle.tatp_numbers.specs.Homes.{s_id_of, home_of_key}
use Rattle.tatp_calls.specs.declared.call.Call.{Call}
use Rattle.tatp_calls.specs.declared.call.Call.TheVariants.{GetSubscriberData, GetNewDestination, GetAccessData, UpdateSubscriberData, UpdateLocation, InsertCallForwarding, DeleteCallForwarding}
use Rattle.tatp_calls.specs.declared.reply.Reply.TheVariants.{Values}
use Rattle.tatp_calls.specs.Transactions.{Answer, transaction, reads, destinations, some_of, updates_both, updates_location, with_bit_1, with_data_a, with_vlr_location, inserts_under, inserts_for, deletes, deletes_for}
use Rattle.tatp_history.specs.declared.event.Event.{Event}
use Rattle.tatp_history.specs.declared.observed.Recorded.TheVariants.{Exactly, Success, Failure}
use Rattle.tatp_history.specs.declared.observed.Outcome.{Outcome}
use Rattle.tatp_history.specs.declared.observed.Outcome.TheVariants.{Answered, Aborted, Unknown}
use Rattle.tatp_history.specs.declared.observed.Observed.{Observed}
use Rattle.tatp_history.specs.Histories.{IsIn, IsAnswered, IsSuccess, Precedes, MayHaveReply, AreAskedApart, KeepsRealTime, AreAnsweredInOrder, rows_after}
use Rattle.tatp_history.specs.Changes.{has_failed}
use Rattle.tatp_history.specs.Events.{asked_in}
use Rattle.tatp_history.specs.JustInTime.{Chooses, AreOpen}
use Rattle.tatp_history.proofs.ChangeLaws.{reading_leaves}
use Rattle.tatp_history.proofs.OrderLaws.{all_map, all_both, all_filter, filter_tests, in_all, in_filter, apart_filter, real_time_filter}
use Rattle.tatp_history.proofs.ChoiceLaws.{chosen_in, in_cases}
use Rattle.tatp_history.proofs.EventLaws.{asked_after}
use Rattle.tatp_history.specs.Remaining.{IsLeft, HasOrder}
use Rattle.tatp_history.proofs.RemainingLaws.{left_before}
use Rattle.tatp_history.proofs.UnchangingLaws.{is_other, other_is, is_other_true, true_other, is_the_call, stays_left, left_other}
use Rattle.tatp_linearization.specs.Doomed.{SawLocation}
use Rattle.tatp_linearization.specs.Unseen.{location_replied, location_answered, location_read, location_in, NoneSaw, SawAfter, HasSetLocation, IsReplacedBy, AreOfOne}
use Rattle.tatp_linearization.proofs.AheadLaws.{saw_location}
use Rattle.tatp_linearization.proofs.BlindLaws.{IsOnly, only_same, only_replaced}
use Rattle.tatp_linearization.proofs.DoomedLaws.{inserts_for_keep, deletes_for_keep, row_read}

-- ---- rows of one subscriber
abbrev AtMostOne : Tuples → Type 0
AtMostOne rows = (row other : Tuple) → has rows row ≡ true → has rows other ≡ true → row ≡ other

pub one_only : (rows : Tuples) (r : Tuple) → AtMostOne rows → has rows r ≡ true → IsOnly r rows
one_only rows r one there = record { there = there; only = λ q h. one q r h there }

only_one : (rows : Tuples) (r : Tuple) → IsOnly r rows → AtMostOne rows
only_one rows r p q other h k = p.only q h ∙ sym (p.only other k)

one_replaced : (rows : Tuples) (r new : Tuple) → AtMostOne rows → has rows r ≡ true → AtMostOne (replace_row rows r new)
one_replaced rows r new one there = only_one (replace_row rows r new) new (only_replaced r new rows (one_only rows r one there))

pub one_home : (home : SubscriberRows) → IsHome home → AreOfOne home.tables
one_home home is q r hq hr =
    let key : List ℕ = home.s_id ∷ [] in
    is.keys Subscriber q r hq hr (key_is key q (is.own Subscriber q hq) ∙ sym (key_is key r (is.own Subscriber r hr)))

both_one : (u : Database) (x y : ℕ) (row facility : Option Tuple) → ((q : Tuple) → row ≡ Some q → has u.subscribers q ≡ true) → AreOfOne u → AreOfOne (updates_both u x y row facility).database
both_one u x y None facility there one = one
both_one u x y (Some row) None there one = one
both_one u x y (Some row) (Some facility) there one = one_replaced u.subscribers row (with_bit_1 row x) one (there row refl)

location_one : (u : Database) (w : ℕ) (row : Option Tuple) → ((q : Tuple) → row ≡ Some q → has u.subscribers q ≡ true) → AreOfOne u → AreOfOne (updates_location u w row).database
location_one u w None there one = one
location_one u w (Some row) there one = one_replaced u.subscribers row (with_vlr_location row w) one (there row refl)

-- a transaction makes no second one
pub one_after : (call : Call) (u : Database) → AreOfOne u → AreOfOne (transaction call u).database
one_after (GetSubscriberData s) u one = subst AreOfOne (sym (reading_leaves (GetSubscriberData s) refl u)) one
one_after (GetNewDestination s t b e) u one = subst AreOfOne (sym (reading_leaves (GetNewDestination s t b e) refl u)) one
one_after (GetAccessData s t) u one = subst AreOfOne (sym (reading_leaves (GetAccessData s t) refl u)) one
one_after (UpdateSubscriberData s x t y) u one = both_one u x y (row_at u.subscribers (s ∷ [])) (row_at u.facilities (s ∷ t ∷ [])) (λ q e. row_at-has u.subscribers (s ∷ []) q e) one
one_after (UpdateLocation n w) u one = location_one u w (row_with_number u.subscribers n) (λ q e. has-found (has_number n) u.subscribers q e) one
one_after (InsertCallForwarding n t b e x) u one = subst AtMostOne (sym (inserts_for_keep u t b e x (home_of_key u.subscribers (Number n)))) one
one_after (DeleteCallForwarding n t b) u one = subst AtMostOne (sym (deletes_for_keep u t b (home_of_key u.subscribers (Number n)))) one

-- what is found where there is one row alone
pub find_one : (p : Tuple → Bool) (r : Tuple) (rows : Tuples) → IsOnly r rows → find p (rows_of rows) ≡ cond (p r) (Some r) None
find_one p r rows only = elim (p r) as (λ b. p r ≡ b → find p (rows_of rows) ≡ cond b (Some r) None) [
  | true ↦ λ e. found_in p rows r only.there e (λ q h k. only.only q h)
  | false ↦ λ e. none_in p rows (λ q h. ap p (only.only q h) ∙ e)
] refl

-- ---- columns
keyed_alike : (s : ℕ) (r : Tuple) (v : ℕ) → has_key (s ∷ []) (with_vlr_location r v) ≡ has_key (s ∷ []) r
keyed_alike s [] v = refl
keyed_alike s (x ∷ xs) v = refl

numbered_alike : (n : ℕ) (r : Tuple) (v : ℕ) → has_number n (with_vlr_location r v) ≡ has_number n r
numbered_alike n r v = ap (λ (k : ℕ). k == n) (get_or-set_other r 33 1 v 0 (λ d. omega (arith, d)))

owned_alike : (r : Tuple) (v : ℕ) → s_id_of (with_vlr_location r v) ≡ s_id_of r
owned_alike r v = get_or-set_other r 33 0 v 0 (λ d. omega (arith, d))

set_apart : (xs : List ℕ) (i j a b : ℕ) → (i ≡ j → ⊥) → set (set xs i a) j b ≡ set (set xs j b) i a
set_apart [] i j a b other = refl
set_apart (x ∷ xs) zero zero a b other = absurd (other refl)
set_apart (x ∷ xs) zero (suc j) a b other = refl
set_apart (x ∷ xs) (suc i) zero a b other = refl
set_apart (x ∷ xs) (suc i) (suc j) a b other = ap (λ zs. x ∷ zs) (set_apart xs i j a b (λ e. other (ap suc e)))

set_twice : (xs : List ℕ) (i a b : ℕ) → set (set xs i a) i b ≡ set xs i b
set_twice [] i a b = refl
set_twice (x ∷ xs) zero a b = refl
set_twice (x ∷ xs) (suc i) a b = ap (λ zs. x ∷ zs) (set_twice xs i a b)

set_seen : (xs : List ℕ) (i w : ℕ) → (slice_get (set xs i w) i ≡ Some w) ⊎ (set xs i w ≡ xs)
set_seen [] i w = inr refl
set_seen (x ∷ xs) zero w = inl refl
set_seen (x ∷ xs) (suc i) w = elim (set_seen xs i w) [
  | inl e ↦ inl e
  | inr e ↦ inr (ap (λ zs. x ∷ zs) e)
]

-- ---- databases that differ in the location alone
abbrev pub with_location : Database → Tuple → ℕ → Database
with_location u r v = record u { subscribers = replace_row u.subscribers r (with_vlr_location r v) }

-- the second is the first with the location of its one subscriber set
pub record Differ (location : ℕ) (u v : Database) : Type 0 where
  pub row : Tuple
  pub only : IsOnly row u.subscribers
  pub rows : v ≡ with_location u row location

-- what a call does in both: it has the same reply, unless it reads the location, and they differ so
-- after it, or are equal
record Goes (location : ℕ) (call : Call) (u v : Database) : Type 0 where
  fits : (outcome : Outcome) → (location_read call outcome ≡ Some location → ⊥) → MayHaveReply outcome (transaction call v).reply → MayHaveReply outcome (transaction call u).reply
  after : Differ location (transaction call u).database (transaction call v).database ⊎ ((transaction call u).database ≡ (transaction call v).database)
  over : (n w : ℕ) → call ≡ UpdateLocation n w → IsSuccess (transaction call v).reply → (transaction call u).database ≡ (transaction call v).database

abbrev Settles : ℕ → Answer → Answer → Type 0
Settles location a b = (a.reply ≡ b.reply) × (Differ location a.database b.database ⊎ (a.database ≡ b.database))

goes_alike : (location : ℕ) (call : Call) (u v : Database) → ((n w : ℕ) → call ≡ UpdateLocation n w → ⊥) → Settles location (transaction call u) (transaction call v) → Goes location call u v
goes_alike location call u v other s = record {
  fits = λ outcome none h. subst (MayHaveReply outcome) (sym s.0) h;
  after = s.1;
  over = λ n w e h. absurd (other n w e);
}

-- a read of the subscriber that saw another location
read_fits : (location : ℕ) (r : Tuple) (outcome : Outcome) → (location_answered outcome ≡ Some location → ⊥) → MayHaveReply outcome (Values (with_vlr_location r location)) → MayHaveReply outcome (Values r)
read_fits location r (Answered at (Exactly reply)) none h = elim (set_seen r 33 location) [
  | inl e ↦ absurd (none (ap location_replied h ∙ e))
  | inr e ↦ h ∙ ap Values e
]
read_fits location r (Answered at Success) none h = tt
read_fits location r (Answered at Failure) none h = absurd h
read_fits location r (Aborted at) none h = absurd h
read_fits location r Unknown none h = tt

rows_fit : (location : ℕ) (r : Tuple) (u v : Database) (b : Bool) (outcome : Outcome) → (location_answered outcome ≡ Some location → ⊥)
    → MayHaveReply outcome (reads v (λ q. q) (cond b (Some (with_vlr_location r location)) None)).reply → MayHaveReply outcome (reads u (λ q. q) (cond b (Some r) None)).reply
rows_fit location r u v true outcome none h = read_fits location r outcome none h
rows_fit location r u v false outcome none h = h

some_reply : (u v : Database) (xs : List ℕ) → (some_of u xs).reply ≡ (some_of v xs).reply
some_reply u v [] = refl
some_reply u v (x ∷ xs) = refl

reads_reply : (u v : Database) (columns : Tuple → List ℕ) (row : Option Tuple) → (reads u columns row).reply ≡ (reads v columns row).reply
reads_reply u v columns None = refl
reads_reply u v columns (Some row) = refl

module _ (location : ℕ) (u : Database) (r : Tuple) (p : IsOnly r u.subscribers) where
  abbrev new : Tuple
  new = with_vlr_location r location

  abbrev v : Database
  v = with_location u r location

  q : IsOnly new v.subscribers
  q = only_replaced r new u.subscribers p

  here : Differ location u v
  here = record { row = r; only = p; rows = refl }

  keyed : (s : ℕ) → (row_at u.subscribers (s ∷ []) ≡ cond (has_key (s ∷ []) r) (Some r) None) × (row_at v.subscribers (s ∷ []) ≡ cond (has_key (s ∷ []) r) (Some new) None)
  keyed s = (
    find_one (has_key (s ∷ [])) r u.subscribers p,
    find_one (has_key (s ∷ [])) new v.subscribers q ∙ ap (λ b. cond b (Some new) None) (keyed_alike s r location),
  )

  numbered : (n : ℕ) → (row_with_number u.subscribers n ≡ cond (has_number n r) (Some r) None) × (row_with_number v.subscribers n ≡ cond (has_number n r) (Some new) None)
  numbered n = (
    find_one (has_number n) r u.subscribers p,
    find_one (has_number n) new v.subscribers q ∙ ap (λ b. cond b (Some new) None) (numbered_alike n r location),
  )

  home_alike : (b : Bool) → option_map s_id_of (cond b (Some new) None) ≡ option_map s_id_of (cond b (Some r) None)
  home_alike true = ap Some (owned_alike r location)
  home_alike false = refl

  homes_alike : (n : ℕ) → home_of_key v.subscribers (Number n) ≡ home_of_key u.subscribers (Number n)
  homes_alike n = ap (option_map s_id_of) (numbered n).1 ∙ (home_alike (has_number n r) ∙ sym (ap (option_map s_id_of) (numbered n).0))

  reading_after : (call : Call) → ((w : Database) → (transaction call w).database ≡ w) → Differ location (transaction call u).database (transaction call v).database
  reading_after call leaves = subst (λ w. Differ location w (transaction call v).database) (sym (leaves u)) (subst (Differ location u) (sym (leaves v)) here)

  both_go : (x y : ℕ) (b : Bool) (facility : Option Tuple) → Settles location (updates_both u x y (cond b (Some r) None) facility) (updates_both v x y (cond b (Some new) None) facility)
  both_go x y false facility = (refl, inl here)
  both_go x y true None = (refl, inl here)
  both_go x y true (Some facility) =
      let row : Tuple = with_bit_1 r x in
      let first = replace_row u.subscribers r row in
      let facilities = replace_row u.facilities facility (with_data_a facility y) in
      let last : Tuple = with_vlr_location row location in
      let one : IsOnly row first = only_replaced r row u.subscribers p in
      let same : with_bit_1 new x ≡ last = set_apart r 33 2 location x (λ d. omega (arith, d)) in
      let rows : replace_row v.subscribers new (with_bit_1 new x) ≡ replace_row first row last
      = only_same last (replace_row v.subscribers new (with_bit_1 new x)) (replace_row first row last)
      (subst (λ t. IsOnly t (replace_row v.subscribers new (with_bit_1 new x))) same (only_replaced new (with_bit_1 new x) v.subscribers q))
      (only_replaced row last first one) in
      (refl, inl (record { row = row; only = one; rows = λ i. record u { subscribers = rows i; facilities = facilities } }))

  location_go : (w : ℕ) (b : Bool) → Settles location (updates_location u w (cond b (Some r) None)) (updates_location v w (cond b (Some new) None))
      × (IsSuccess (updates_location v w (cond b (Some new) None)).reply → (updates_location u w (cond b (Some r) None)).database ≡ (updates_location v w (cond b (Some new) None)).database)
  location_go w false = ((refl, inl here), λ h. absurd h)
  location_go w true =
      let last : Tuple = with_vlr_location r w in
      let same : with_vlr_location new w ≡ last = set_twice r 33 location w in
      let rows : replace_row u.subscribers r last ≡ replace_row v.subscribers new (with_vlr_location new w)
      = only_same last (replace_row u.subscribers r last) (replace_row v.subscribers new (with_vlr_location new w))
      (only_replaced r last u.subscribers p)
      (subst (λ t. IsOnly t (replace_row v.subscribers new (with_vlr_location new w))) same (only_replaced new (with_vlr_location new w) v.subscribers q)) in
      let equal : (updates_location u w (Some r)).database ≡ (updates_location v w (Some new)).database = λ i. record u { subscribers = rows i } in
      ((refl, inr equal), λ h. equal)

  inserts_go : (t b e x : ℕ) (s : Option ℕ) → Settles location (inserts_for u t b e x s) (inserts_for v t b e x s)
  inserts_go t b e x None = (refl, inl here)
  inserts_go t b e x (Some s) = under (s ∷ t ∷ b ∷ e ∷ x ∷ []) (row_at u.facilities (s ∷ t ∷ [])) (row_at u.forwardings (s ∷ t ∷ b ∷ []))
    where
      under : (row : Tuple) (facility there : Option Tuple) → Settles location (inserts_under u row facility there) (inserts_under v row facility there)
      under row None there = (refl, inl here)
      under row (Some facility) (Some there) = (refl, inl here)
      under row (Some facility) None = (refl, inl (record { row = r; only = p; rows = refl }))

  deletes_go : (t b : ℕ) (s : Option ℕ) → Settles location (deletes_for u t b s) (deletes_for v t b s)
  deletes_go t b None = (refl, inl here)
  deletes_go t b (Some s) = one (row_at u.forwardings (s ∷ t ∷ b ∷ []))
    where
      one : (row : Option Tuple) → Settles location (deletes u row) (deletes v row)
      one None = (refl, inl here)
      one (Some row) = (refl, inl (record { row = r; only = p; rows = refl }))

  go : (call : Call) → Goes location call u v
  go (GetSubscriberData s) = record {
    fits = λ outcome none h. subst (λ o. MayHaveReply outcome (reads u (λ row. row) o).reply) (sym (keyed s).0)
        (rows_fit location r u v (has_key (s ∷ []) r) outcome none (subst (λ o. MayHaveReply outcome (reads v (λ row. row) o).reply) (keyed s).1 h));
    after = inl (reading_after (GetSubscriberData s) (reading_leaves (GetSubscriberData s) refl));
    over = λ n w e h. absurd cc;
  }
  go (GetNewDestination s t b e) = goes_alike location (GetNewDestination s t b e) u v (λ n w same. cc)
      (some_reply u v (destinations u s t b e), inl (reading_after (GetNewDestination s t b e) (reading_leaves (GetNewDestination s t b e) refl)))
  go (GetAccessData s t) = goes_alike location (GetAccessData s t) u v (λ n w same. cc)
      (reads_reply u v _ (row_at u.accesses (s ∷ t ∷ [])), inl (reading_after (GetAccessData s t) (reading_leaves (GetAccessData s t) refl)))
  go (UpdateSubscriberData s x t y) = goes_alike location (UpdateSubscriberData s x t y) u v (λ n w same. cc)
      (subst (λ o. Settles location (updates_both u x y o (row_at u.facilities (s ∷ t ∷ []))) (transaction (UpdateSubscriberData s x t y) v)) (sym (keyed s).0)
      (subst (λ o. Settles location (updates_both u x y (cond (has_key (s ∷ []) r) (Some r) None) (row_at u.facilities (s ∷ t ∷ []))) (updates_both v x y o (row_at u.facilities (s ∷ t ∷ [])))) (sym (keyed s).1)
      (both_go x y (has_key (s ∷ []) r) (row_at u.facilities (s ∷ t ∷ [])))))
  go (UpdateLocation n w) =
      let Both : Option Tuple → Option Tuple → Type 0 = λ o k. Settles location (updates_location u w o) (updates_location v w k)
      × (IsSuccess (updates_location v w k).reply → (updates_location u w o).database ≡ (updates_location v w k).database) in
      let both : Both (row_with_number u.subscribers n) (row_with_number v.subscribers n)
      = subst (λ o. Both o (row_with_number v.subscribers n)) (sym (numbered n).0) (subst (Both (cond (has_number n r) (Some r) None)) (sym (numbered n).1) (location_go w (has_number n r))) in
      record {
        fits = λ outcome none h. subst (MayHaveReply outcome) (sym both.0.0) h;
        after = both.0.1;
        over = λ m k e h. both.1 h;
      }
  go (InsertCallForwarding n t b e x) = goes_alike location (InsertCallForwarding n t b e x) u v (λ m w same. cc)
      (subst (λ o. Settles location (inserts_for u t b e x (home_of_key u.subscribers (Number n))) (inserts_for v t b e x o)) (sym (homes_alike n)) (inserts_go t b e x (home_of_key u.subscribers (Number n))))
  go (DeleteCallForwarding n t b) = goes_alike location (DeleteCallForwarding n t b) u v (λ m w same. cc)
      (subst (λ o. Settles location (deletes_for u t b (home_of_key u.subscribers (Number n))) (deletes_for v t b o)) (sym (homes_alike n)) (deletes_go t b (home_of_key u.subscribers (Number n))))

goes : (location : ℕ) (call : Call) (u v : Database) → Differ location u v → Goes location call u v
goes location call u v d = subst (Goes location call u) (sym d.rows) (go location u d.row d.only call)

-- ---- an order without it
no_success : (outcome : Outcome) (number : ℕ) (u : Database) (w : ℕ) (row : Option Tuple) → IsAnswered outcome → has_failed outcome ≡ false → MayHaveReply outcome (updates_location u w row).reply → IsSuccess (updates_location u w row).reply
no_success outcome number u w (Some row) answered written h = tt
no_success (Answered at (Exactly reply)) number u w None answered written h = absurd (true≢false (sym (ap (λ k. has_failed (Answered at (Exactly k))) h) ∙ written))
no_success (Answered at Success) number u w None answered written h = h
no_success (Answered at Failure) number u w None answered written h = absurd (true≢false written)
no_success (Aborted at) number u w None answered written h = absurd answered
no_success Unknown number u w None answered written h = absurd answered

-- an update that was answered succeeds where it has a reply with which it may have ended
pub set_success : (x : Observed) (u : Database) → HasSetLocation x → MayHaveReply x.outcome (transaction x.call u).reply
    → (n : ℕ) × (w : ℕ) × (x.call ≡ UpdateLocation n w) × IsSuccess (transaction x.call u).reply
set_success x u s h =
    let own : MayHaveReply x.outcome (transaction (UpdateLocation s.number s.location) u).reply = subst (λ (call : Call). MayHaveReply x.outcome (transaction call u).reply) s.updates h in
    let success : IsSuccess (transaction (UpdateLocation s.number s.location) u).reply = no_success x.outcome s.number u s.location (row_with_number u.subscribers s.number) s.answered s.written own in
    (s.number, s.location, s.updates, subst (λ (call : Call). IsSuccess (transaction call u).reply) (sym s.updates) success)

-- an update reads no location
pub no_read : (call : Call) (outcome : Outcome) (n w location : ℕ) → call ≡ UpdateLocation n w → location_read call outcome ≡ Some location → ⊥
no_read call outcome n w location updates saw = let nothing : location_read (UpdateLocation n w) outcome ≡ Some location = subst (λ (k : Call). location_read k outcome ≡ Some location) updates saw in cc

-- where a read saw another location the databases don't differ
same_seen : (location other : ℕ) (u v : Database) → Differ location u v → (x : Observed) → SawLocation other x → (other ≡ location → ⊥) → MayHaveReply x.outcome (transaction x.call v).reply → u ≡ v
same_seen location other u v d x saw apart h =
    let r : Tuple = d.row in
    let new : Tuple = with_vlr_location r location in
    let w : Database = with_location u r location in
    let may : MayHaveReply (Answered saw.at (Exactly (Values saw.values))) (transaction (GetSubscriberData saw.s_id) w).reply
    = subst (λ o. MayHaveReply o (transaction (GetSubscriberData saw.s_id) w).reply) saw.answered (subst (λ (call : Call). MayHaveReply x.outcome (transaction call w).reply) saw.reads (subst (λ q. MayHaveReply x.outcome (transaction x.call q).reply) d.rows h)) in
    let found : row_at w.subscribers (saw.s_id ∷ []) ≡ Some saw.values = row_read w (row_at w.subscribers (saw.s_id ∷ [])) saw.values (sym may) in
    let replaced = only_replaced r new u.subscribers d.only in
    let is : saw.values ≡ new = replaced.only saw.values (row_at-has w.subscribers (saw.s_id ∷ []) saw.values found) in
    elim (set_seen r 33 location) [
      | inl e ↦ absurd (apart (sym saw.column ∙ (ap (λ (q : Tuple). slice_index q 33) is ∙ get_or_from_slice_get new 33 location 0 e)))
      | inr e ↦
          let rows : replace_row u.subscribers r new ≡ u.subscribers = only_same r (replace_row u.subscribers r new) u.subscribers (subst (λ t. IsOnly t (replace_row u.subscribers r new)) e replaced) d.only in
          (λ i. record u { subscribers = sym rows i }) ∙ sym d.rows
    ]

pub replaced_answered : (location : ℕ) (y : Observed) → IsReplacedBy location y → IsAnswered y.outcome
replaced_answered location y by = elim by [
  | inl sets ↦ sets.answered
  | inr saw ↦ subst IsAnswered (sym (saw_location saw.0 y saw.1).answered) tt
]

-- calls that don't see the location up to one at which it is replaced
abbrev SameRuns : Database → Database → List Observed → List Observed → Type 0
SameRuns u v order others = AreAnsweredInOrder u order × (rows_after u order ≡ rows_after v others)

up_to_next : (location : ℕ) (y : Observed) → IsReplacedBy location y → (order : List Observed) (u v : Database) → Differ location u v → SawAfter y location order → KeepsRealTime order → IsIn y order → AreAnsweredInOrder v order → SameRuns u v order order
up_to_next location y by [] u v d none time there runs = absurd there
up_to_next location y by (z ∷ zs) u v d none time there runs =
    let step = goes location z.call u v d in
    let own : (y ≡ z) → IsReplacedBy location z = λ is. subst (IsReplacedBy location) is by in
    let unseen : location_in z ≡ Some location → ⊥ = λ seen. elim there [
      | inl is ↦ elim (own is) [
        | inl s ↦ no_read z.call z.outcome s.number s.location location s.updates seen
        | inr saw ↦ let same : Some saw.0 ≡ Some location = sym saw.1 ∙ seen in saw.2 cc
      ]
      | inr later ↦ in_all (λ (k : Observed). Precedes k z → ⊥) y zs time.0 later (none.0 seen)
    ] in
    let fits : MayHaveReply z.outcome (transaction z.call u).reply = step.fits z.outcome unseen runs.0 in
    let equal : (transaction z.call u).database ≡ (transaction z.call v).database → SameRuns u v (z ∷ zs) (z ∷ zs)
    = λ e. ((fits, subst (λ w. AreAnsweredInOrder w zs) (sym e) runs.1), ap (λ w. rows_after w zs) e) in
    elim there [
      | inl is ↦ elim (own is) [
        | inl sets ↦ let ok = set_success z v sets runs.0 in equal (step.over ok.0 ok.1 ok.2 ok.3)
        | inr saw ↦ let same = same_seen location saw.0 u v d z (saw_location saw.0 z saw.1) saw.2 runs.0 in equal (ap (λ w. (transaction z.call w).database) same)
      ]
      | inr later ↦ elim step.after [
        | inl e ↦ let rest = up_to_next location y by zs (transaction z.call u).database (transaction z.call v).database e none.1 time.1 later runs.1 in ((fits, rest.0), rest.1)
        | inr e ↦ equal e
      ]
    ]

-- what the update leaves differs from the rows before it, or is equal
set_differs : (u : Database) (n location : ℕ) → AreOfOne u → Differ location u (transaction (UpdateLocation n location) u).database ⊎ (u ≡ (transaction (UpdateLocation n location) u).database)
set_differs u n location one = elim (row_with_number u.subscribers n) as (λ o. row_with_number u.subscribers n ≡ o → Differ location u (updates_location u location o).database ⊎ (u ≡ (updates_location u location o).database)) [
  | None ↦ λ e. inr refl
  | Some r ↦ λ e. inl (record { row = r; only = one_only u.subscribers r one (has-found (has_number n) u.subscribers r e); rows = refl })
] refl

pub all_others : (time : ℕ) (order : List Observed) → AllByRecursion (λ (z : Observed). time ≡ z.asked → ⊥) order → filter (is_other time) order ≡ order
all_others time [] h = refl
all_others time (z ∷ zs) h = ap (λ b. cond b (z ∷ filter (is_other time) zs) (filter (is_other time) zs)) (is_other_true time z (λ e. h.0 (sym e))) ∙ ap (λ ys. z ∷ ys) (all_others time zs h.1)

module _ (location n : ℕ) (w y : Observed) (updates : w.call ≡ UpdateLocation n location) (by : IsReplacedBy location y) (before : Precedes w y) (apart : w.asked ≡ y.asked → ⊥) where
  abbrev others : Observed → Bool
  others = is_other w.asked

  without : (order : List Observed) (u : Database) → AreOfOne u → AllByRecursion (λ (z : Observed). z.asked ≡ w.asked → z ≡ w) order → AreAskedApart order → KeepsRealTime order → SawAfter y location order → IsIn w order → IsIn y order
      → AreAnsweredInOrder u order → SameRuns u u (filter others order) order
  without [] u one own once time none there later runs = absurd there
  without (z ∷ zs) u one own once time none there later runs = elim (others z) as (λ b. others z ≡ b → SameRuns u u (cond b (z ∷ filter others zs) (filter others zs)) (z ∷ zs)) [
    | true ↦ λ e.
        let other : z.asked ≡ w.asked → ⊥ = true_other w.asked z e in
        let there' : IsIn w zs = elim there [ inl is ↦ absurd (other (ap (λ (k : Observed). k.asked) (sym is))) | inr k ↦ k ] in
        let later' : IsIn y zs = elim later [
          | inl is ↦ absurd (in_all (λ (k : Observed). Precedes k z → ⊥) w zs time.0 there' (subst (λ (k : Observed). Precedes w k) is before))
          | inr k ↦ k
        ] in
        let rest = without zs (transaction z.call u).database (one_after z.call u one) own.1 once.1 time.1 none.1 there' later' runs.1 in
        ((runs.0, rest.0), rest.1)
    | false ↦ λ e.
        let same : z.asked ≡ w.asked = other_is w.asked z e in
        let is : z ≡ w = own.0 same in
        let call : z.call ≡ UpdateLocation n location = ap (λ (k : Observed). k.call) is ∙ updates in
        let later' : IsIn y zs = elim later [ inl k ↦ absurd (apart (sym same ∙ sym (ap (λ (q : Observed). q.asked) k))) | inr k ↦ k ] in
        let left : (filter others zs) ≡ zs = all_others w.asked zs (subst (λ t. AllByRecursion (λ (k : Observed). t ≡ k.asked → ⊥) zs) same once.0) in
        let v : Database = (transaction z.call u).database in
        let differs : Differ location u v ⊎ (u ≡ v) = subst (λ (c : Call). Differ location u (transaction c u).database ⊎ (u ≡ (transaction c u).database)) (sym call) (set_differs u n location one) in
        let go : SameRuns u v zs zs = elim differs [
          | inl d ↦ up_to_next location y by zs u v d none.1 time.1 later' runs.1
          | inr k ↦ subst (λ q. SameRuns q v zs zs) (sym k) (runs.1, refl)
        ] in
        subst (λ ys. SameRuns u v ys zs) (sym left) go
  ] refl

-- an open update of the location that was answered needn't be open, where its location is replaced by
-- a call that is asked after its end, and each call that saw it is asked after the end of that one
module _ (events : List Event) (opened : List Observed) (w : Observed) (left : List Observed) (c : Chooses opened w left) (are : AreOpen events opened) where
  pub without_unseen : (Q : Database → Type 0) (u : Database) → AreOfOne u → (n location : ℕ) → w.call ≡ UpdateLocation n location → IsAnswered w.outcome → (y : Observed) → NoneSaw location left → SawAfter y location (asked_in events) → IsIn y (asked_in events) → IsReplacedBy location y → Precedes w y → HasOrder Q u events opened → HasOrder Q u events left
  without_unseen Q u one n location updates answered y unseen later asked by before h =
      let test : Observed → Bool = is_other w.asked in
      let after : (z : Observed) → IsLeft events opened z → location_in z ≡ Some location → Precedes y z = λ z k saw. elim k [
        | inl q ↦ elim (in_cases opened w left c z q) [
          | inl e ↦ absurd (no_read z.call z.outcome n location location (ap (λ (k : Observed). k.call) e ∙ updates) saw)
          | inr r ↦ absurd (in_all (λ (x : Observed). location_in x ≡ Some location → ⊥) z left unseen r saw)
        ]
        | inr q ↦ in_all (λ (x : Observed). location_in x ≡ Some location → Precedes y x) z (asked_in events) later q saw
      ] in
      let lt : w.asked < y.asked = asked_after w.asked events y (are.before w (chosen_in opened w left c)) asked in
      let runs = without location n w y updates by before (λ e. omega (arith, lt, e)) h.0 u one
      (all_map (IsLeft events opened) (λ (z : Observed). z.asked ≡ w.asked → z ≡ w) (λ z k. is_the_call events opened w left c are z k) h.0 h.1.made)
      h.1.once h.1.real_time
      (all_map (IsLeft events opened) (λ (z : Observed). location_in z ≡ Some location → Precedes y z) after h.0 h.1.made)
      (h.1.all w (inl (chosen_in opened w left c)) answered) (h.1.all y (inr asked) (replaced_answered location y by)) h.1.replies in (
        filter test h.0,
        record {
          made = all_map (λ z. IsLeft events opened z × (test z ≡ true)) (IsLeft events left) (λ z k. stays_left events opened w left c are z k.0 (true_other w.asked z k.1)) (filter test h.0)
              (all_both (IsLeft events opened) (λ z. test z ≡ true) (filter test h.0) (all_filter (IsLeft events opened) test h.0 h.1.made) (filter_tests test h.0));
          once = apart_filter test h.0 h.1.once;
          all = λ z k answers. in_filter test z h.0 (h.1.all z (left_before events opened w left c z k) answers) (is_other_true w.asked z (left_other events opened w left c are z k));
          real_time = real_time_filter test h.0 h.1.real_time;
          replies = runs.0;
        },
        subst Q (sym runs.1) h.2,
      )
