-- Locations that no row has, and configurations that are doomed by one.
use Rattle.std.proofs.Common.{◌≡◌, ℕ, zero, suc, ◌⊎◌, true, false, ◌==◌, List, [], ◌∷◌, Option, Some, None, set, get_or, slice_index, slice_get, refl, sym, ◌∙◌, ap, subst, arith, eq-eqb, true≢false, inl, inr}
use Rattle.std.specs.Option.{option_map}
use Rattle.std.proofs.lemmas.List.{get_or-set_other}
use Rattle.tatp_tables.specs.Tuples.{Tuple, Tuples, has, replace_row, remove_row}
use Rattle.tatp_tables.specs.Keys.{row_at, row_with_number, has_number, has_key}
use Rattle.tatp_tables.specs.Database.{Database}
use Rattle.tatp_tables.specs.declared.table.Table.TheVariants.{Subscriber}
use Rattle.tatp_tables.proofs.FindLaws.{found_in}
use Rattle.tatp_tables.proofs.KeyLaws.{key_is, each-insert_row, has-from_remove_row, row_at-has, has-found}
use Rattle.tatp_homes.specs.Home.{SubscriberRows, IsHome}
use Rattle.tatp_homes.specs.Changes.{cell}
use Rattle.tatp_numbers.specs.declared.key.Key.TheVariants.{Number}
use Rattle.tatp_numbers.specs.Homes.{home_of_key}
use Rattle.tatp_calls.specs.declared.call.Call.{Call}
use Rattle.tatp_calls.specs.declared.call.Call.TheVariants.{GetSubscriberData, GetNewDestination, GetAccessData, UpdateSubscriberData, UpdateLocation, InsertCallForwarding, DeleteCallForwarding}
use Rattle.tatp_calls.specs.declared.reply.Reply.TheVariants.{Values}
use Rattle.tatp_calls.specs.Transactions.{transaction, reads, updates_both, updates_location, with_bit_1, with_vlr_location, inserts_under, inserts_for, deletes, deletes_for}
use Rattle.tatp_history.specs.declared.event.Event.{Event}
use Rattle.tatp_history.specs.declared.observed.Observed.{Observed}
use Rattle.tatp_history.specs.declared.observed.Recorded.TheVariants.{Exactly}
use Rattle.tatp_history.specs.declared.observed.Outcome.TheVariants.{Answered}
use Rattle.tatp_history.specs.Histories.{IsIn, MayHaveReply}
use Rattle.tatp_history.specs.Configurations.{Configuration}
use Rattle.tatp_history.proofs.ChangeLaws.{reading_leaves}
use Rattle.tatp_linearization.specs.declared.configuration.Configuration.{Configuration as Held}
use Rattle.tatp_linearization.specs.Held.{seen}
use Rattle.tatp_linearization.specs.Overwritten.{IsBlind, AreButSome}
use Rattle.tatp_linearization.specs.Covering.{StandsFor}
use Rattle.tatp_linearization.specs.AtOnce.{FitsAtOnce}
use Rattle.tatp_linearization.specs.Doomed.{NoneHasLocation, sets_location, SawLocation, IsDoomed}
use Rattle.tatp_linearization.proofs.ButSomeLaws.{but_all}

-- ---- locations
set_cases : (xs : List ℕ) (i w d : ℕ) → (get_or (set xs i w) i d ≡ w) ⊎ (get_or (set xs i w) i d ≡ get_or xs i d)
set_cases [] i w d = inr refl
set_cases (x ∷ xs) zero w d = inl refl
set_cases (x ∷ xs) (suc i) w d = set_cases xs i w d

-- another row in the place of one
none_replaced : (v : ℕ) (u : Database) (row new : Tuple) → (slice_index new 33 ≡ v → ⊥) → NoneHasLocation v u → (q : Tuple) → has (replace_row u.subscribers row new) q ≡ true → slice_index q 33 ≡ v → ⊥
none_replaced v u row new other none = each-insert_row (λ q. slice_index q 33 ≡ v → ⊥) (remove_row u.subscribers row) new other (λ q h. none q (has-from_remove_row u.subscribers row q h))

keeps_both : (v : ℕ) (u : Database) (x y : ℕ) (row facility : Option Tuple) → ((q : Tuple) → row ≡ Some q → has u.subscribers q ≡ true) → NoneHasLocation v u → NoneHasLocation v (updates_both u x y row facility).database
keeps_both v u x y None facility there none = none
keeps_both v u x y (Some row) None there none = none
keeps_both v u x y (Some row) (Some facility) there none = none_replaced v u row (with_bit_1 row x) (λ e. none row (there row refl) (sym (get_or-set_other row 2 33 x 0 (λ d. omega (arith, d))) ∙ e)) none

keeps_location : (v : ℕ) (u : Database) (w : ℕ) (row : Option Tuple) → (w == v) ≡ false → ((q : Tuple) → row ≡ Some q → has u.subscribers q ≡ true) → NoneHasLocation v u → NoneHasLocation v (updates_location u w row).database
keeps_location v u w None other there none = none
keeps_location v u w (Some row) other there none = none_replaced v u row (with_vlr_location row w) (λ e. elim (set_cases row 33 w 0) [
  | inl is ↦ true≢false (sym (eq-eqb w v (sym is ∙ e)) ∙ other)
  | inr is ↦ none row (there row refl) (sym is ∙ e)
]) none

inserts_keep : (u : Database) (row : Tuple) (facility there : Option Tuple) → (inserts_under u row facility there).database.subscribers ≡ u.subscribers
inserts_keep u row None there = refl
inserts_keep u row (Some facility) (Some there) = refl
inserts_keep u row (Some facility) None = refl

pub inserts_for_keep : (u : Database) (t b e x : ℕ) (s : Option ℕ) → (inserts_for u t b e x s).database.subscribers ≡ u.subscribers
inserts_for_keep u t b e x None = refl
inserts_for_keep u t b e x (Some s) = inserts_keep u (s ∷ t ∷ b ∷ e ∷ x ∷ []) (row_at u.facilities (s ∷ t ∷ [])) (row_at u.forwardings (s ∷ t ∷ b ∷ []))

deletes_keep : (u : Database) (row : Option Tuple) → (deletes u row).database.subscribers ≡ u.subscribers
deletes_keep u None = refl
deletes_keep u (Some row) = refl

pub deletes_for_keep : (u : Database) (t b : ℕ) (s : Option ℕ) → (deletes_for u t b s).database.subscribers ≡ u.subscribers
deletes_for_keep u t b None = refl
deletes_for_keep u t b (Some s) = deletes_keep u (row_at u.forwardings (s ∷ t ∷ b ∷ []))

abbrev NoRowHas : ℕ → Tuples → Type 0
NoRowHas v rows = (row : Tuple) → has rows row ≡ true → slice_index row 33 ≡ v → ⊥

-- a transaction that doesn't set the location leaves no row with it, where there was none
pub none_after : (call : Call) (v : ℕ) (u : Database) → sets_location v call ≡ false → NoneHasLocation v u → NoneHasLocation v (transaction call u).database
none_after (GetSubscriberData s) v u other none = subst (NoneHasLocation v) (sym (reading_leaves (GetSubscriberData s) refl u)) none
none_after (GetNewDestination s t b e) v u other none = subst (NoneHasLocation v) (sym (reading_leaves (GetNewDestination s t b e) refl u)) none
none_after (GetAccessData s t) v u other none = subst (NoneHasLocation v) (sym (reading_leaves (GetAccessData s t) refl u)) none
none_after (UpdateSubscriberData s x t y) v u other none = keeps_both v u x y (row_at u.subscribers (s ∷ [])) (row_at u.facilities (s ∷ t ∷ [])) (λ q e. row_at-has u.subscribers (s ∷ []) q e) none
none_after (UpdateLocation n w) v u other none = keeps_location v u w (row_with_number u.subscribers n) other (λ q e. has-found (has_number n) u.subscribers q e) none
none_after (InsertCallForwarding n t b e x) v u other none = subst (NoRowHas v) (sym (inserts_for_keep u t b e x (home_of_key u.subscribers (Number n)))) none
none_after (DeleteCallForwarding n t b) v u other none = subst (NoRowHas v) (sym (deletes_for_keep u t b (home_of_key u.subscribers (Number n)))) none

-- ---- a read that saw a location doesn't fit where no row has it
pub row_read : (u : Database) (row : Option Tuple) (values : List ℕ) → (reads u (λ q. q) row).reply ≡ Values values → row ≡ Some values
row_read u None values e = absurd cc
row_read u (Some row) values e = let is : row ≡ values = cc in ap Some is

pub misfits : (v : ℕ) (x : Observed) (u : Database) → SawLocation v x → NoneHasLocation v u → FitsAtOnce u x → ⊥
misfits v x u saw none fits =
    let may : MayHaveReply (Answered saw.at (Exactly (Values saw.values))) (transaction (GetSubscriberData saw.s_id) u).reply
    = subst (λ o. MayHaveReply o (transaction (GetSubscriberData saw.s_id) u).reply) saw.answered (subst (λ (call : Call). MayHaveReply x.outcome (transaction call u).reply) saw.reads fits.1) in
    let found : row_at u.subscribers (saw.s_id ∷ []) ≡ Some saw.values = row_read u (row_at u.subscribers (saw.s_id ∷ [])) saw.values (sym may) in
    none saw.values (row_at-has u.subscribers (saw.s_id ∷ []) saw.values found) saw.column

-- ---- what the code looks at
-- the location of a home's subscriber
location_cell : (home : SubscriberRows) → IsHome home → (row : Tuple) → has home.tables.subscribers row ≡ true → cell home.tables 33 (home.s_id ∷ 0 ∷ 0 ∷ []) ≡ Some (slice_index row 33)
location_cell home is row there =
    let key : List ℕ = home.s_id ∷ [] in
    ap (option_map (λ (q : Tuple). slice_index q 33))
    (found_in (has_key key) home.tables.subscribers row there (is.own Subscriber row there)
    (λ q hq keyed. is.keys Subscriber q row hq there (key_is key q keyed ∙ sym (key_is key row (is.own Subscriber row there)))))

pub none_located : (home : SubscriberRows) (v : ℕ) → IsHome home → (cell home.tables 33 (home.s_id ∷ 0 ∷ 0 ∷ []) ≡ Some v → ⊥) → NoneHasLocation v home.tables
none_located home v is none row there e = none (location_cell home is row there ∙ ap Some e)

-- ---- configurations that a doomed one stands for
pub stays : (F : Observed → Type 0) (k : ℕ) (xs left : List Observed) → AreButSome F k xs left → (z : Observed) → (F z → ⊥) → IsIn z xs → IsIn z left
stays F k [] left a z other h = absurd h
stays F k (x ∷ xs) left a z other h = elim a [
  | inl p ↦ subst (IsIn z) (sym p.1) (elim h [ inl e ↦ inl e | inr q ↦ inr (stays F k xs p.0 p.2 z other q) ])
  | inr p ↦ elim h [ inl e ↦ absurd (other (subst F (sym e) p.1)) | inr q ↦ stays F k xs left p.2 z other q ]
]

pub no_update : (u : Database) (x : Observed) (s : ℕ) → x.call ≡ GetSubscriberData s → IsBlind u x → ⊥
no_update u x s reads b = elim b.sets [
  | inl l ↦ let same : GetSubscriberData s ≡ UpdateLocation l.number l.location = sym reads ∙ l.updates in cc
  | inr d ↦ let same : GetSubscriberData s ≡ UpdateSubscriberData d.s_id d.bit d.sf_type d.value = sym reads ∙ d.updates in cc
]

pub doomed_stands : (events : List Event) (c : Held) (d : Configuration) → IsDoomed events (seen c) → StandsFor c d → IsDoomed events d
doomed_stands events c d doomed h =
    let r = doomed.0 in
    let v = doomed.1 in
    let stuck = doomed.2 in (
      doomed.0,
      doomed.1,
      record {
        there = stays (IsBlind c.home.tables) c.overwritten c.opened.items d.opened h.opened r (no_update c.home.tables r stuck.saw.s_id stuck.saw.reads) stuck.there;
        saw = stuck.saw;
        rows = subst (NoneHasLocation v) (sym h.rows) stuck.rows;
        opened = but_all (IsBlind c.home.tables) c.overwritten (λ (z : Observed). sets_location v z.call ≡ false) c.opened.items d.opened h.opened stuck.opened;
        later = stuck.later;
      },
    )

pub get_in : (xs : List Observed) (i : ℕ) (x : Observed) → slice_get xs i ≡ Some x → IsIn x xs
get_in [] i x e = absurd cc
get_in (y ∷ ys) zero x e = let is : y ≡ x = cc in inl (sym is)
get_in (y ∷ ys) (suc i) x e = inr (get_in ys i x e)
