-- An update of the location can't take effect where the location that it replaces is lost, nor before a call that leaves another one, where a later read saw its own.
use Rattle.std.proofs.Common.{◌≡◌, ℕ, zero, suc, ◌<◌, ◌⊎◌, true, false, cond, is_some, List, [], ◌∷◌, length, Option, Some, None, slice_get, slice_index, get_or, set, remove, refl, sym, ◌∙◌, ap, subst, arith, true≢false, eq-eqb, inl, inr}
use Rattle.std.specs.List.{AllByRecursion}
use Rattle.std.proofs.lemmas.List.{length-set}
use Rattle.std.proofs.lemmas.Option.{get_or_from_slice_get}
use Rattle.tatp_tables.specs.Tuples.{Tuple, Tuples, has, replace_row, remove_row}
use Rattle.tatp_tables.specs.Keys.{row_at, row_with_number, has_number}
use Rattle.tatp_tables.specs.Database.{Database}
use Rattle.tatp_tables.specs.declared.table.Table.TheVariants.{Subscriber}
use Rattle.tatp_tables.proofs.KeyLaws.{each-insert_row, has-from_remove_row, row_at-has, has-found}
use Rattle.tatp_homes.specs.Home.{SubscriberRows, IsHome}
use Rattle.tatp_homes.proofs.UndoLaws.{is_row-length}
use Rattle.tatp_numbers.specs.declared.key.Key.TheVariants.{Number}
use Rattle.tatp_numbers.specs.Homes.{home_of_key}
use Rattle.tatp_calls.specs.declared.call.Call.{Call}
use Rattle.tatp_calls.specs.declared.call.Call.TheVariants.{GetSubscriberData, GetNewDestination, GetAccessData, UpdateSubscriberData, UpdateLocation, InsertCallForwarding, DeleteCallForwarding}
use Rattle.tatp_calls.specs.declared.reply.Reply.TheVariants.{Values}
use Rattle.tatp_calls.specs.Transactions.{transaction, updates_both, updates_location, with_bit_1, with_vlr_location}
use Rattle.tatp_history.specs.declared.event.Event.{Event}
use Rattle.tatp_history.specs.declared.event.Event.TheVariants.{Ends}
use Rattle.tatp_history.specs.declared.observed.Recorded.TheVariants.{Exactly}
use Rattle.tatp_history.specs.declared.observed.Outcome.TheVariants.{Answered}
use Rattle.tatp_history.specs.declared.observed.Observed.{Observed}
use Rattle.tatp_history.specs.Histories.{IsIn, IsSuccess, Precedes, MayHaveReply, KeepsRealTime, AreAnsweredInOrder}
use Rattle.tatp_history.specs.Changes.{only_reads, has_failed, changes_nothing}
use Rattle.tatp_history.specs.Configurations.{Configuration}
use Rattle.tatp_history.specs.Events.{asked_in}
use Rattle.tatp_history.specs.Remaining.{IsLeft}
use Rattle.tatp_history.proofs.ChangeLaws.{reading_leaves}
use Rattle.tatp_history.proofs.ChoiceLaws.{in_cases}
use Rattle.tatp_history.proofs.EventLaws.{answered_at, is_before, asked_after}
use Rattle.tatp_history.proofs.OrderLaws.{all_map, in_all}
use Rattle.tatp_linearization.specs.declared.ahead.Ahead.{Ahead}
use Rattle.tatp_linearization.specs.declared.configuration.Configuration.{Configuration as Held}
use Rattle.tatp_linearization.specs.AtOnce.{FitsAtOnce, AreLeft}
use Rattle.tatp_linearization.specs.Overwritten.{IsBlind, SetsLocation}
use Rattle.tatp_linearization.specs.Doomed.{NoneHasLocation, sets_location, SawLocation, NoneSets}
use Rattle.tatp_linearization.specs.Unseen.{location_in, HasSetLocation, SawOther, AreOfOne}
use Rattle.tatp_linearization.specs.Ahead.{LooksAhead, Loses}
use Rattle.tatp_linearization.specs.Going.{LeadsOn}
use Rattle.tatp_linearization.specs.Turns.{IsOtherTime, IsThere}
use Rattle.tatp_linearization.specs.Later.{LeavesOther, NoOtherSets, ComesLater}
use Rattle.tatp_linearization.proofs.AheadLaws.{saw_location}
use Rattle.tatp_linearization.proofs.BlindLaws.{only_replaced}
use Rattle.tatp_linearization.proofs.ButSomeLaws.{but_all}
use Rattle.tatp_linearization.proofs.DoomedLaws.{inserts_for_keep, deletes_for_keep, row_read, misfits, no_update, stays}
use Rattle.tatp_linearization.proofs.LostLaws.{IsPast, was_answered, never, none_lost}
use Rattle.tatp_linearization.proofs.PlaceLaws.{all_get, all_of_get, all_remove, chooses_at}
use Rattle.tatp_linearization.proofs.SettlingLaws.{left_all}
use Rattle.tatp_linearization.proofs.UnseenLaws.{one_only, one_home, one_after, set_success}

-- ---- rows have their columns
abbrev AreWide : Tuples → Type 0
AreWide rows = (row : Tuple) → has rows row ≡ true → 33 < length row

abbrev pub IsWide : Database → Type 0
IsWide u = AreWide u.subscribers

wide_replaced : (rows : Tuples) (r : Tuple) (i v : ℕ) → AreWide rows → has rows r ≡ true → AreWide (replace_row rows r (set r i v))
wide_replaced rows r i v wide there = each-insert_row (λ q. 33 < length q) (remove_row rows r) (set r i v) (let lt = wide r there in let same = length-set r i v in omega (arith, lt, same)) (λ q h. wide q (has-from_remove_row rows r q h))

both_wide : (u : Database) (x y : ℕ) (row facility : Option Tuple) → ((q : Tuple) → row ≡ Some q → has u.subscribers q ≡ true) → IsWide u → IsWide (updates_both u x y row facility).database
both_wide u x y None facility there wide = wide
both_wide u x y (Some row) None there wide = wide
both_wide u x y (Some row) (Some facility) there wide = wide_replaced u.subscribers row 2 x wide (there row refl)

location_wide : (u : Database) (w : ℕ) (row : Option Tuple) → ((q : Tuple) → row ≡ Some q → has u.subscribers q ≡ true) → IsWide u → IsWide (updates_location u w row).database
location_wide u w None there wide = wide
location_wide u w (Some row) there wide = wide_replaced u.subscribers row 33 w wide (there row refl)

wide_after : (call : Call) (u : Database) → IsWide u → IsWide (transaction call u).database
wide_after (GetSubscriberData s) u wide = subst IsWide (sym (reading_leaves (GetSubscriberData s) refl u)) wide
wide_after (GetNewDestination s t b e) u wide = subst IsWide (sym (reading_leaves (GetNewDestination s t b e) refl u)) wide
wide_after (GetAccessData s t) u wide = subst IsWide (sym (reading_leaves (GetAccessData s t) refl u)) wide
wide_after (UpdateSubscriberData s x t y) u wide = both_wide u x y (row_at u.subscribers (s ∷ [])) (row_at u.facilities (s ∷ t ∷ [])) (λ q e. row_at-has u.subscribers (s ∷ []) q e) wide
wide_after (UpdateLocation n w) u wide = location_wide u w (row_with_number u.subscribers n) (λ q e. has-found (has_number n) u.subscribers q e) wide
wide_after (InsertCallForwarding n t b e x) u wide = subst AreWide (sym (inserts_for_keep u t b e x (home_of_key u.subscribers (Number n)))) wide
wide_after (DeleteCallForwarding n t b) u wide = subst AreWide (sym (deletes_for_keep u t b (home_of_key u.subscribers (Number n)))) wide

wide_home : (home : SubscriberRows) → IsHome home → IsWide home.tables
wide_home home is row there = let long = is_row-length Subscriber row (is.rows Subscriber row there) in omega (arith, long)

-- ---- another location
-- a read that saw another location fits only where the subscriber has that
saw_gone : (location : ℕ) (x : Observed) (u : Database) → AreOfOne u → SawOther location x → MayHaveReply x.outcome (transaction x.call u).reply → NoneHasLocation location u
saw_gone location x u one other may row there is =
    let saw = saw_location other.0 x other.1 in
    let own : MayHaveReply (Answered saw.at (Exactly (Values saw.values))) (transaction (GetSubscriberData saw.s_id) u).reply
    = subst (λ o. MayHaveReply o (transaction (GetSubscriberData saw.s_id) u).reply) saw.answered (subst (λ (call : Call). MayHaveReply x.outcome (transaction call u).reply) saw.reads may) in
    let found : row_at u.subscribers (saw.s_id ∷ []) ≡ Some saw.values = row_read u (row_at u.subscribers (saw.s_id ∷ [])) saw.values (sym own) in
    let same : row ≡ saw.values = one row saw.values there (row_at-has u.subscribers (saw.s_id ∷ []) saw.values found) in
    other.2 (sym saw.column ∙ (ap (λ (q : Tuple). slice_index q 33) (sym same) ∙ is))

set_wide : (xs : List ℕ) (i w : ℕ) → i < length xs → get_or (set xs i w) i 0 ≡ w
set_wide [] i w lt = absurd (omega (arith, lt))
set_wide (x ∷ xs) zero w lt = refl
set_wide (x ∷ xs) (suc i) w lt = set_wide xs i w (omega (arith, lt))

update_gone : (location : ℕ) (u : Database) (w : ℕ) (row : Option Tuple) → ((q : Tuple) → row ≡ Some q → has u.subscribers q ≡ true) → AreOfOne u → IsWide u → (w ≡ location → ⊥) → IsSuccess (updates_location u w row).reply → NoneHasLocation location (updates_location u w row).database
update_gone location u w None there one wide other success = absurd success
update_gone location u w (Some r) there one wide other success = λ q hq is.
    let replaced = only_replaced r (with_vlr_location r w) u.subscribers (one_only u.subscribers r one (there r refl)) in
    other (sym (set_wide r 33 w (wide r (there r refl))) ∙ (ap (λ (k : Tuple). slice_index k 33) (sym (replaced.only q hq)) ∙ is))

-- after the call the subscriber has another location
other_gone : (location : ℕ) (x : Observed) (u : Database) → AreOfOne u → IsWide u → LeavesOther location x → MayHaveReply x.outcome (transaction x.call u).reply → NoneHasLocation location (transaction x.call u).database
other_gone location x u one wide leaves may = elim leaves [
  | inl other ↦
      let saw = saw_location other.0 x other.1 in
      let left : (transaction x.call u).database ≡ u = reading_leaves x.call (ap only_reads saw.reads) u in
      subst (NoneHasLocation location) (sym left) (saw_gone location x u one other may)
  | inr set ↦
      let own = set_success x u set.0 may in
      let differs : own.1 ≡ location → ⊥ = λ e. true≢false (sym (eq-eqb own.1 location e) ∙ (ap (sets_location location) (sym own.2) ∙ set.1)) in
      subst (λ (call : Call). NoneHasLocation location (transaction call u).database) (sym own.2)
      (update_gone location u own.1 (row_with_number u.subscribers own.0) (λ q e. has-found (has_number own.0) u.subscribers q e) one wide differs (subst (λ (call : Call). IsSuccess (transaction call u).reply) own.2 own.3))
]

-- a read of the location is no such call
no_seer : (location : ℕ) (x : Observed) → SawLocation location x → LeavesOther location x → ⊥
no_seer location x saw leaves = elim leaves [
  | inl other ↦
      let again = saw_location other.0 x other.1 in
      let same : Answered again.at (Exactly (Values again.values)) ≡ Answered saw.at (Exactly (Values saw.values)) = sym again.answered ∙ saw.answered in
      let values : again.values ≡ saw.values = cc in
      other.2 (sym again.column ∙ (ap (λ (q : Tuple). slice_index q 33) values ∙ saw.column))
  | inr set ↦ let both : GetSubscriberData saw.s_id ≡ UpdateLocation set.0.number set.0.location = sym saw.reads ∙ set.0.updates in absurd cc
]

-- ---- an order in which it comes before a read of the location, and nobody sets that between them
gone_never : (location : ℕ) (x read : Observed) → SawLocation location read → LeavesOther location x → Precedes x read → (order : List Observed) (u : Database) → AreOfOne u → IsWide u → AllByRecursion (IsPast location read) order → KeepsRealTime order
    → IsIn x order → IsIn read order → AreAnsweredInOrder u order → ⊥
gone_never location x read saw leaves before [] u one wide past time here there runs = absurd here
gone_never location x read saw leaves before (z ∷ zs) u one wide past time here there runs = elim here [
  | inl is ↦ elim there [
    | inl same ↦ no_seer location read saw (subst (LeavesOther location) (is ∙ sym same) leaves)
    | inr later ↦
        let none = other_gone location z u one wide (subst (LeavesOther location) is leaves) runs.0 in
        never location read saw zs (transaction z.call u).database none past.1 time.1 later runs.1
  ]
  | inr after ↦ elim there [
    | inl same ↦ in_all (λ (k : Observed). Precedes k z → ⊥) x zs time.0 after (subst (Precedes x) same before)
    | inr later ↦ gone_never location x read saw leaves before zs (transaction z.call u).database (one_after z.call u one) (wide_after z.call u wide) past.1 time.1 after later runs.1
  ]
]

-- ---- open calls
-- one that is open before the reads go that fit is one of these, or is open after it
fits_or_left : (u : Database) (xs left : List Observed) → AreLeft u xs left → (z : Observed) → IsIn z xs → FitsAtOnce u z ⊎ IsIn z left
fits_or_left u [] left a z there = absurd there
fits_or_left u (x ∷ xs) left a z there = elim a [
  | inl p ↦ elim there [ inl is ↦ inl (subst (FitsAtOnce u) (sym is) p.0) | inr k ↦ fits_or_left u xs left p.1 z k ]
  | inr p ↦ elim there [
    | inl is ↦ inr (subst (IsIn z) (sym p.1.1) (inl is))
    | inr k ↦ elim (fits_or_left u xs p.1.0 p.1.2 z k) [ inl f ↦ inl f | inr q ↦ inr (subst (IsIn z) (sym p.1.1) (inr q)) ]
  ]
]

none_removed : (location : ℕ) (xs : List Observed) (place : ℕ) → NoOtherSets location place xs → NoneSets location (remove xs place)
none_removed location [] zero none = tt
none_removed location [] (suc place) none = tt
none_removed location (x ∷ xs) zero none = all_of_get (λ (z : Observed). sets_location location z.call ≡ false) xs (λ k z at. none (suc k) z at (λ e. omega (arith, e)))
none_removed location (x ∷ xs) (suc place) none = (none 0 x refl (λ e. omega (arith, e)), none_removed location xs place (λ k z at differs. none (suc k) z at (λ e. differs (omega (arith, e)))))

-- such a call that fits leaves no row with the location
fits_gone : (location : ℕ) (x : Observed) (u : Database) → AreOfOne u → LeavesOther location x → FitsAtOnce u x → NoneHasLocation location u
fits_gone location x u one leaves fits = elim leaves [
  | inl other ↦ saw_gone location x u one other fits.1
  | inr set ↦
      let writes : changes_nothing x ≡ has_failed x.outcome = ap (λ call. cond (only_reads call) true (has_failed x.outcome)) set.0.updates in
      absurd (true≢false (sym fits.0 ∙ (writes ∙ set.0.written)))
]

-- ---- the law
pub later_never : (c : Held) (place asked : ℕ) (ahead : Ahead) (now location : ℕ) → IsHome c.home → ComesLater ahead now asked c place location
    → (at : ℕ) (rest : List Event) (after : Database) (e : Configuration) → LooksAhead ahead now (Ends asked at ∷ rest) → IsThere (IsOtherTime asked) c place e → LeadsOn after (Ends asked at ∷ rest) e → ⊥
later_never c place asked ahead now location home comes at rest after e looks there on =
    let events : List Event = Ends asked at ∷ rest in
    let y = comes.ending.0 in
    let leaves = comes.ending.3 in
    let F : Observed → Type 0 = λ z. IsBlind c.home.tables z × IsOtherTime asked z in
    let x = there.call in
    let others = remove c.opened.items place in
    let in_others : IsIn y others = elim (in_cases c.opened.items x others (chooses_at c.opened.items place x there.at) y comes.ending.1) [
      | inl is ↦ absurd (comes.other x there.at (ap (λ (z : Observed). z.asked) (sym is) ∙ comes.ending.2))
      | inr k ↦ k
    ] in
    let in_left : IsIn y there.left = stays F c.overwritten others there.left there.opened y (λ f. f.1 comes.ending.2) in_others in
    let v : Database = (transaction x.call there.before.rows).database in
    let rows : e.rows ≡ v = there.takes.rows in
    let one : AreOfOne v = one_after x.call there.before.rows (subst AreOfOne (sym there.rows) (one_home c.home home)) in
    let wide : IsWide v = wide_after x.call there.before.rows (subst IsWide (sym there.rows) (wide_home c.home home)) in
    let none : NoneSets location e.opened = left_all (λ (z : Observed). sets_location location z.call ≡ false) v there.left e.opened there.takes.settled
    (but_all F c.overwritten (λ (z : Observed). sets_location location z.call ≡ false) others there.left there.opened (none_removed location c.opened.items place comes.opened)) in
    let read = looks.read location comes.seen.read in
    let r = read.0 in
    let sets = looks.sets location r comes.seen.inside comes.seen.later read.1.ended in
    elim (fits_or_left v there.left e.opened there.takes.settled y in_left) [
      | inl fits ↦ none_lost (λ w. w ≡ after) location e.rows events e.opened (subst (NoneHasLocation location) (sym rows) (fits_gone location y v one leaves fits)) none r sets (inr read.1.there) read.1.saw on.order
      | inr still ↦
          let order = on.order.1 in
          let ended = (on.waiting.fit y still).0 comes.ending.2 in
          let before : Precedes y r = is_before y.outcome at r.asked ended (asked_after at rest r on.rise.0 read.1.there) in
          gone_never location y r read.1.saw leaves before on.order.0 e.rows (subst AreOfOne (sym rows) one) (subst IsWide (sym rows) wide)
          (all_map (IsLeft events e.opened) (IsPast location r) (λ z k. elim k [
            | inl q ↦ inl (in_all (λ (w : Observed). sets_location location w.call ≡ false) z e.opened none q)
            | inr q ↦ in_all (IsPast location r) z (asked_in events) sets q
          ]) on.order.0 order.made)
          order.real_time (order.all y (inl still) (answered_at y.outcome at ended)) (order.all r (inr read.1.there) (was_answered location r read.1.saw)) order.replies
    ]

-- ---- a location that is lost
named_success : (u : Database) (w : ℕ) (row : Option Tuple) → is_some row ≡ true → IsSuccess (updates_location u w row).reply
named_success u w None named = absurd (true≢false (sym named))
named_success u w (Some row) named = tt

pub lost_never : (c : Held) (place : ℕ) (ahead : Ahead) (now location : ℕ) → IsHome c.home → Loses ahead now c place location
    → (asked : ℕ) (after : Database) (events : List Event) (e : Configuration) → LooksAhead ahead now events → IsThere (IsOtherTime asked) c place e → LeadsOn after events e → ⊥
lost_never c place ahead now location home loses asked after events e looks there on =
    let F : Observed → Type 0 = λ z. IsBlind c.home.tables z × IsOtherTime asked z in
    let x = there.call in
    let others = remove c.opened.items place in
    let u : Database = there.before.rows in
    let v : Database = (transaction x.call u).database in
    let sets : SetsLocation u x.call = subst (λ w. SetsLocation w x.call) (sym there.rows) (loses.updates x there.at) in
    let own : sets_location location x.call ≡ false = all_get (λ (z : Observed). sets_location location z.call ≡ false) c.opened.items place x loses.opened there.at in
    let differs : sets.location ≡ location → ⊥ = λ is. true≢false (sym (eq-eqb sets.location location is) ∙ (ap (sets_location location) (sym sets.updates) ∙ own)) in
    let gone : NoneHasLocation location v = subst (λ (call : Call). NoneHasLocation location (transaction call u).database) (sym sets.updates)
    (update_gone location u sets.location (row_with_number u.subscribers sets.number) (λ q h. has-found (has_number sets.number) u.subscribers q h) (subst AreOfOne (sym there.rows) (one_home c.home home)) (subst IsWide (sym there.rows) (wide_home c.home home))
    differs (named_success u sets.location (row_with_number u.subscribers sets.number) sets.named)) in
    let rows : NoneHasLocation location e.rows = subst (NoneHasLocation location) (sym there.takes.rows) gone in
    let none : NoneSets location e.opened = left_all (λ (z : Observed). sets_location location z.call ≡ false) v there.left e.opened there.takes.settled
    (but_all F c.overwritten (λ (z : Observed). sets_location location z.call ≡ false) others there.left there.opened (all_remove (λ (z : Observed). sets_location location z.call ≡ false) c.opened.items place loses.opened)) in
    elim loses.read [
      | inl lt ↦
          let read = looks.read location lt in
          none_lost (λ w. w ≡ after) location e.rows events e.opened rows none read.0 (looks.sets location read.0 loses.inside loses.later read.1.ended) (inr read.1.there) read.1.saw on.order
      | inr read ↦
          let y = read.0 in
          let saw = read.2 in
          let in_others : IsIn y others = elim (in_cases c.opened.items x others (chooses_at c.opened.items place x there.at) y read.1) [
            | inl is ↦ let both : GetSubscriberData saw.s_id ≡ UpdateLocation sets.number sets.location = sym saw.reads ∙ (ap (λ (z : Observed). z.call) is ∙ sets.updates) in absurd cc
            | inr k ↦ k
          ] in
          let in_left : IsIn y there.left = stays F c.overwritten others there.left there.opened y (λ f. no_update c.home.tables y saw.s_id saw.reads f.0) in_others in
          elim (fits_or_left v there.left e.opened there.takes.settled y in_left) [
            | inl fits ↦ misfits location y v saw gone fits
            | inr still ↦ none_lost (λ w. w ≡ after) location e.rows events e.opened rows none y (looks.sets location y loses.inside loses.later read.3) (inl still) saw on.order
          ]
    ]
