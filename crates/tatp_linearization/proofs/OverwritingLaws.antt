-- Calls right before one that overwrites them: that one alone leaves the same.
use Rattle.std.proofs.Common.{◌≡◌, ℕ, ◌==◌, Bool, true, false, is_some, List, [], ◌∷◌, ◌++◌, find, None, Some, refl, sym, ap, ◌∙◌, subst, arith, true≢false, inl, inr}
use Rattle.std.proofs.lemmas.List.{get_or-set_other, set-set, take-set-le}
use Rattle.tatp_tables.specs.Tuples.{Tuple, Tuples, rows_of, same, has, remove_row, replace_row}
use Rattle.tatp_tables.specs.Keys.{has_key, has_number, row_at}
use Rattle.tatp_tables.specs.Database.{Database}
use Rattle.tatp_tables.specs.declared.table.Table.TheVariants.{Subscriber, SpecialFacility}
use Rattle.tatp_tables.proofs.FindLaws.{found_in}
use Rattle.tatp_tables.proofs.KeyLaws.{key_is, has_key-alike, has-found, row_at-has, row_at-key, each-insert_row, has-from_remove_row, has-inserted, has-insert_row_there, has-remove_row_other, gone}
use Rattle.tatp_tables.proofs.TupleLaws.{same_is, same_tuples}
use Rattle.tatp_homes.specs.Home.{SubscriberRows, IsHome}
use Rattle.tatp_calls.specs.declared.call.Call.{Call}
use Rattle.tatp_calls.specs.declared.call.Call.TheVariants.{GetSubscriberData, GetNewDestination, GetAccessData, UpdateSubscriberData, UpdateLocation, InsertCallForwarding, DeleteCallForwarding}
use Rattle.tatp_calls.specs.declared.reply.Reply.TheVariants.{Values}
use Rattle.tatp_calls.specs.Transactions.{Answer, replies, transaction, updates_both, with_bit_1, with_data_a, with_vlr_location}
use Rattle.tatp_history.specs.declared.observed.Observed.{Observed}
use Rattle.tatp_history.specs.Histories.{MayHaveReply}
use Rattle.tatp_history.specs.Configurations.{Configuration}
use Rattle.tatp_linearization.specs.Overwritten.{SetsLocation, SetsBoth, IsBlind, Overwrites, AreButSome}
use Rattle.tatp_linearization.proofs.SettlingLaws.{chooses_mid, shift}
use Rattle.tatp_linearization.proofs.ButSomeLaws.{but_same, but_map}
use Rattle.tatp_linearization.proofs.PossibleLaws.{SomeTakeEffect, some_on}
use Rattle.tatp_linearization.proofs.BlindLaws.{IsOnly, only_home, only_replaced, named_row, found_only, number_of, at, set_row, set_again}

-- ---- the one row that passes a test
pub record IsAlone (p : Tuple → Bool) (r : Tuple) (rows : Tuples) : Type 0 where
  pub there : has rows r ≡ true
  pub passes : p r ≡ true
  pub only : (q : Tuple) → has rows q ≡ true → p q ≡ true → q ≡ r

pub alone_found : (p : Tuple → Bool) (r : Tuple) (rows : Tuples) → IsAlone p r rows → find p (rows_of rows) ≡ Some r
alone_found p r rows h = found_in p rows r h.there h.passes h.only

pub alone_replaced : (p : Tuple → Bool) (r new : Tuple) (rows : Tuples) → IsAlone p r rows → p new ≡ true → IsAlone p new (replace_row rows r new)
alone_replaced p r new rows h passes = record {
  there = has-inserted (remove_row rows r) new;
  passes = passes;
  only = each-insert_row (λ q. p q ≡ true → q ≡ new) (remove_row rows r) new (λ _. refl) (λ q there pq. absurd (gone rows r q there (sym (h.only q (has-from_remove_row rows r q there) pq))));
}

-- put in its place twice, the row is the last one
pub alone_twice : (p : Tuple → Bool) (r new last : Tuple) (rows : Tuples) → IsAlone p r rows → p new ≡ true → replace_row (replace_row rows r new) new last ≡ replace_row rows r last
alone_twice p r new last rows h passes = same_tuples (replace_row (replace_row rows r new) new last) (replace_row rows r last) (λ q. alike (has (replace_row (replace_row rows r new) new last) q) (has (replace_row rows r last) q) (forward q) (backward q))
  where
    alike : (b c : Bool) → (b ≡ true → c ≡ true) → (c ≡ true → b ≡ true) → b ≡ c
    alike true c f g = sym (f refl)
    alike false true f g = g refl
    alike false false f g = refl

    mid : Tuples
    mid = replace_row rows r new

    other : (q : Tuple) → has mid q ≡ true → (new ≡ q → ⊥) → has (replace_row rows r last) q ≡ true
    other = each-insert_row (λ q. (new ≡ q → ⊥) → has (replace_row rows r last) q ≡ true) (remove_row rows r) new (λ differs. absurd (differs refl)) (λ q there differs. has-insert_row_there (remove_row rows r) last q there)

    forward : (q : Tuple) → has (replace_row mid new last) q ≡ true → has (replace_row rows r last) q ≡ true
    forward = each-insert_row (λ q. has (replace_row rows r last) q ≡ true) (remove_row mid new) last (has-inserted (remove_row rows r) last) (λ q there. other q (has-from_remove_row mid new q there) (gone mid new q there))

    differs : (q : Tuple) → has (remove_row rows r) q ≡ true → same q new ≡ false
    differs q there = elim (same q new) as (λ b. same q new ≡ b → b ≡ false) [
      | true ↦ λ e. absurd (gone rows r q there (sym (h.only q (has-from_remove_row rows r q there) (ap p (same_is q new e) ∙ passes))))
      | false ↦ λ e. refl
    ] refl

    backward : (q : Tuple) → has (replace_row rows r last) q ≡ true → has (replace_row mid new last) q ≡ true
    backward = each-insert_row (λ q. has (replace_row mid new last) q ≡ true) (remove_row rows r) last (has-inserted (remove_row mid new) last) (λ q there. has-insert_row_there (remove_row mid new) last q (has-remove_row_other mid new q (has-insert_row_there (remove_row rows r) new q there) (differs q there)))

-- ---- bit_1 and data_a
-- the rows that the calls with these arguments set
pub record HasBoth (s t : ℕ) (u : Database) : Type 0 where
  pub row : Tuple
  pub facility : Tuple
  pub subscriber : IsAlone (has_key (s ∷ [])) row u.subscribers
  pub own : IsAlone (has_key (s ∷ t ∷ [])) facility u.facilities

module _ (s t : ℕ) (u : Database) (h : HasBoth s t u) where
  abbrev pub both_at : ℕ → ℕ → Database
  both_at x y = record u { subscribers = replace_row u.subscribers h.row (with_bit_1 h.row x); facilities = replace_row u.facilities h.facility (with_data_a h.facility y) }

  pub set_both : (x y : ℕ) → transaction (UpdateSubscriberData s x t y) u ≡ replies (both_at x y) []
  set_both x y = λ i. updates_both u x y (alone_found (has_key (s ∷ [])) h.row u.subscribers h.subscriber i) (alone_found (has_key (s ∷ t ∷ [])) h.facility u.facilities h.own i)

  bit_passes : (x : ℕ) → has_key (s ∷ []) (with_bit_1 h.row x) ≡ true
  bit_passes x = has_key-alike 1 (s ∷ []) h.row (with_bit_1 h.row x) (omega arith) (take-set-le 1 h.row 2 x (omega arith)) ∙ h.subscriber.passes

  data_passes : (y : ℕ) → has_key (s ∷ t ∷ []) (with_data_a h.facility y) ≡ true
  data_passes y = has_key-alike 2 (s ∷ t ∷ []) h.facility (with_data_a h.facility y) (omega arith) (take-set-le 2 h.facility 4 y (omega arith)) ∙ h.own.passes

  pub both_after : (x y : ℕ) → HasBoth s t (both_at x y)
  both_after x y = record {
    row = with_bit_1 h.row x;
    facility = with_data_a h.facility y;
    subscriber = alone_replaced (has_key (s ∷ [])) h.row (with_bit_1 h.row x) u.subscribers h.subscriber (bit_passes x);
    own = alone_replaced (has_key (s ∷ t ∷ [])) h.facility (with_data_a h.facility y) u.facilities h.own (data_passes y);
  }

-- another one then sets them as it would have done before
pub both_again : (s t : ℕ) (u : Database) (h : HasBoth s t u) (x y x' y' : ℕ) → transaction (UpdateSubscriberData s x' t y') (both_at s t u h x y) ≡ transaction (UpdateSubscriberData s x' t y') u
unfolding both_after
both_again s t u h x y x' y' =
    let r1 : Tuple = with_bit_1 h.row x in
    let f1 : Tuple = with_data_a h.facility y in
    let subscribers : replace_row (replace_row u.subscribers h.row r1) r1 (with_bit_1 r1 x') ≡ replace_row u.subscribers h.row (with_bit_1 h.row x')
    = ap (λ q. replace_row (replace_row u.subscribers h.row r1) r1 q) (set-set h.row 2 x x') ∙ alone_twice (has_key (s ∷ [])) h.row r1 (with_bit_1 h.row x') u.subscribers h.subscriber (bit_passes s t u h x) in
    let facilities : replace_row (replace_row u.facilities h.facility f1) f1 (with_data_a f1 y') ≡ replace_row u.facilities h.facility (with_data_a h.facility y')
    = ap (λ q. replace_row (replace_row u.facilities h.facility f1) f1 q) (set-set h.facility 4 y y') ∙ alone_twice (has_key (s ∷ t ∷ [])) h.facility f1 (with_data_a h.facility y') u.facilities h.own (data_passes s t u h y) in
    set_both s t (both_at s t u h x y) (both_after s t u h x y) x' y' ∙ ((λ i. replies (record u { subscribers = subscribers i; facilities = facilities i }) []) ∙ sym (set_both s t u h x' y'))

-- a home has these rows once
pub home_both : (home : SubscriberRows) → IsHome home → (call : Call) (b : SetsBoth home.tables call) → HasBoth b.s_id b.sf_type home.tables
home_both home is call b =
    let row = row_there home.tables.subscribers (b.s_id ∷ []) b.subscriber in
    let facility = row_there home.tables.facilities (b.s_id ∷ b.sf_type ∷ []) b.facility in
    record {
      row = row.0;
      facility = facility.0;
      subscriber = record {
        there = row_at-has home.tables.subscribers (b.s_id ∷ []) row.0 row.1;
        passes = row_at-key home.tables.subscribers (b.s_id ∷ []) row.0 row.1;
        only = λ q h keyed. is.keys Subscriber q row.0 h (row_at-has home.tables.subscribers (b.s_id ∷ []) row.0 row.1) (key_is (b.s_id ∷ []) q keyed ∙ sym (key_is (b.s_id ∷ []) row.0 (row_at-key home.tables.subscribers (b.s_id ∷ []) row.0 row.1)));
      };
      own = record {
        there = row_at-has home.tables.facilities (b.s_id ∷ b.sf_type ∷ []) facility.0 facility.1;
        passes = row_at-key home.tables.facilities (b.s_id ∷ b.sf_type ∷ []) facility.0 facility.1;
        only = λ q h keyed. is.keys SpecialFacility q facility.0 h (row_at-has home.tables.facilities (b.s_id ∷ b.sf_type ∷ []) facility.0 facility.1)
            (key_is (b.s_id ∷ b.sf_type ∷ []) q keyed ∙ sym (key_is (b.s_id ∷ b.sf_type ∷ []) facility.0 (row_at-key home.tables.facilities (b.s_id ∷ b.sf_type ∷ []) facility.0 facility.1)));
      };
    }
  where
    row_there : (rows : Tuples) (key : Tuple) → is_some (row_at rows key) ≡ true → (r : Tuple) × (row_at rows key ≡ Some r)
    row_there rows key there = elim (row_at rows key) as (λ o. is_some o ≡ true → (r : Tuple) × (o ≡ Some r)) [
      | None ↦ λ e. absurd (true≢false (sym e))
      | Some r ↦ λ e. (r, refl)
    ] there

-- ---- calls one after another, right before one call
-- `Good` rows stay so by each call of which Z holds, and the call does then what it would have done before
module _ (call : Call) (Z : Observed → Type 0) (Good : Database → Type 0) (step : (u : Database) → Good u → (z : Observed) → Z z
    → Good (transaction z.call u).database × (MayHaveReply z.outcome (transaction z.call u).reply × (transaction call (transaction z.call u).database ≡ transaction call u))) where
  abbrev pub Chained : Database → List Observed → List Observed → Type 0
  Chained u opened left = (v : Database) × SomeTakeEffect (record { rows = u; opened = opened }) (record { rows = v; opened = left }) × (transaction call v ≡ transaction call u)

  -- one that stays open
  passed : (u : Database) (before : List Observed) (x : Observed) (xs rest mid : List Observed) → mid ≡ x ∷ rest → Chained u ((before ++ x ∷ []) ++ xs) ((before ++ x ∷ []) ++ rest) → Chained u (before ++ x ∷ xs) (before ++ mid)
  passed u before x xs rest mid is go = (
    go.0,
    subst (λ zs. SomeTakeEffect (record { rows = u; opened = zs }) (record { rows = go.0; opened = before ++ mid })) (sym (shift before x xs))
        (subst (λ zs. SomeTakeEffect (record { rows = u; opened = (before ++ x ∷ []) ++ xs }) (record { rows = go.0; opened = zs })) (sym (shift before x rest) ∙ ap (λ zs. before ++ zs) (sym is)) go.1),
    go.2,
  )

  pub chain : (u : Database) → Good u → (k : ℕ) (before xs mid : List Observed) → AreButSome Z k xs mid → Chained u (before ++ xs) (before ++ mid)
  chain u good k before [] mid a = (u, (0, λ i. record { rows = u; opened = before ++ a i }), refl)
  chain u good k before (x ∷ xs) mid a = elim a [
    | inl q ↦ passed u before x xs q.0 mid q.1 (chain u good k (before ++ x ∷ []) xs q.0 q.2)
    | inr q ↦
        let v : Database = (transaction x.call u).database in
        let one = step u good x q.1 in
        let first : Configuration = record { rows = u; opened = before ++ x ∷ xs } in
        let second : Configuration = record { rows = v; opened = before ++ xs } in
        let go = chain v one.0 k before xs mid q.2 in
        let effect : SomeTakeEffect first second = (1, (second, (x, before ++ xs, chooses_mid before xs x, one.1.0, refl), refl)) in
        (go.0, some_on first second (record { rows = go.0; opened = before ++ mid }) effect go.1, go.2 ∙ one.1.1)
  ]

  -- the first that is left out tells that the rows are good
  pub chain_from : (B : Observed → Type 0) (u : Database) → ((z : Observed) → B z → Good u × Z z) → (k : ℕ) (before xs mid : List Observed) → AreButSome B k xs mid → Chained u (before ++ xs) (before ++ mid)
  chain_from B u good k before [] mid a = (u, (0, λ i. record { rows = u; opened = before ++ a i }), refl)
  chain_from B u good k before (x ∷ xs) mid a = elim a [
    | inl q ↦ passed u before x xs q.0 mid q.1 (chain_from B u good k (before ++ x ∷ []) xs q.0 q.2)
    | inr q ↦ chain u (good x q.1).0 k before (x ∷ xs) mid (inr (q.0, (good x q.1).1, but_map B Z (λ z b. (good z b).1) k k (omega arith) xs mid q.2))
  ]

-- ---- of the location
pub record IsNumbered (n : ℕ) (u : Database) : Type 0 where
  pub row : Tuple
  pub only : IsOnly row u.subscribers
  pub number : has_number n row ≡ true

abbrev pub SetsItsLocation : ℕ → Observed → Type 0
SetsItsLocation n z = (w : ℕ) × (z.call ≡ UpdateLocation n w) × MayHaveReply z.outcome (Values [])

pub location_step : (n v : ℕ) (u : Database) → IsNumbered n u → (z : Observed) → SetsItsLocation n z
    → IsNumbered n (transaction z.call u).database × (MayHaveReply z.outcome (transaction z.call u).reply × (transaction (UpdateLocation n v) (transaction z.call u).database ≡ transaction (UpdateLocation n v) u))
location_step n v u good z sets =
    let r = good.row in
    let named : is_some (find (has_number n) (rows_of u.subscribers)) ≡ true = ap is_some (found_only r u.subscribers n good.only good.number) in
    let own : SetsLocation u z.call = record { number = n; location = sets.0; updates = sets.1; named = named } in
    let last : SetsLocation u (UpdateLocation n v) = record { number = n; location = v; updates = refl; named = named } in
    let new : Tuple = with_vlr_location r sets.0 in
    let is : transaction z.call u ≡ replies (at u r good.only sets.0) [] = set_row u r good.only z.call own in
    let column = get_or-set_other r 33 1 sets.0 0 (λ d. omega (arith, d)) in
    let next : IsNumbered n (at u r good.only sets.0) = record { row = new; only = only_replaced r new u.subscribers good.only; number = ap (λ (k : ℕ). k == n) column ∙ good.number } in (
      subst (λ (a : Answer). IsNumbered n a.database) (sym is) next,
      (subst (λ (a : Answer). MayHaveReply z.outcome a.reply) (sym is) sets.2, ap (λ (a : Answer). transaction (UpdateLocation n v) a.database) is ∙ (set_again u r good.only sets.0 (UpdateLocation n v) last).1),
    )

-- ---- of bit_1 and data_a
abbrev pub SetsItsBoth : ℕ → ℕ → Observed → Type 0
SetsItsBoth s t z = (x : ℕ) × (y : ℕ) × (z.call ≡ UpdateSubscriberData s x t y) × MayHaveReply z.outcome (Values [])

pub both_step : (s x t y : ℕ) (u : Database) → HasBoth s t u → (z : Observed) → SetsItsBoth s t z
    → HasBoth s t (transaction z.call u).database × (MayHaveReply z.outcome (transaction z.call u).reply × (transaction (UpdateSubscriberData s x t y) (transaction z.call u).database ≡ transaction (UpdateSubscriberData s x t y) u))
both_step s x t y u good z sets =
    let is : transaction z.call u ≡ replies (both_at s t u good sets.0 sets.1) [] = ap (λ (c : Call). transaction c u) sets.2 ∙ set_both s t u good sets.0 sets.1 in (
      subst (λ (a : Answer). HasBoth s t a.database) (sym is) (both_after s t u good sets.0 sets.1),
      (subst (λ (a : Answer). MayHaveReply z.outcome a.reply) (sym is) sets.3, ap (λ (a : Answer). transaction (UpdateSubscriberData s x t y) a.database) is ∙ both_again s t u good sets.0 sets.1 x y),
    )

-- ---- the law
abbrev pub AreOverwrittenBy : Database → Call → Observed → Type 0
AreOverwrittenBy u call z = IsBlind u z × Overwrites call z.call

-- the call may be one of another form
abbrev Law : SubscriberRows → Call → Type 0
Law home call = (k : ℕ) (xs mid : List Observed) → AreButSome (AreOverwrittenBy home.tables call) k xs mid
    → (v : Database) × SomeTakeEffect (record { rows = home.tables; opened = xs }) (record { rows = v; opened = mid }) × (transaction call v ≡ transaction call home.tables)

nothing_out : (home : SubscriberRows) (call : Call) → ((z : Observed) → Overwrites call z.call → ⊥) → Law home call
nothing_out home call none k xs mid a =
    let is = but_same (AreOverwrittenBy home.tables call) (λ z b. none z b.1) k xs mid a in
    (home.tables, (0, λ i. record { rows = home.tables; opened = is i }), refl)

location_law : (home : SubscriberRows) → IsHome home → (n v : ℕ) → Law home (UpdateLocation n v)
location_law home is n v k xs mid a = chain_from (UpdateLocation n v) (SetsItsLocation n) (IsNumbered n) (location_step n v) (AreOverwrittenBy home.tables (UpdateLocation n v)) home.tables good k [] xs mid a
  where
    good : (z : Observed) → AreOverwrittenBy home.tables (UpdateLocation n v) z → IsNumbered n home.tables × SetsItsLocation n z
    good z b = elim b.1 [
      | inl o ↦
          let same : UpdateLocation n v ≡ UpdateLocation o.number o.location = o.first in
          let number : o.number ≡ n = cc in
          elim b.0.sets [
            | inl l ↦
                let both : UpdateLocation l.number l.location ≡ UpdateLocation o.number o.other = sym l.updates ∙ o.second in
                let one : l.number ≡ n = cc in
                let found = named_row home.tables.subscribers l.number l.named in
                let only = only_home home found.0 is (has-found (has_number l.number) home.tables.subscribers found.0 found.1) in (
                  record { row = found.0; only = only; number = subst (λ m. has_number m found.0 ≡ true) one (number_of found.0 home.tables.subscribers l.number only l.named) },
                  (o.other, o.second ∙ ap (λ m. UpdateLocation m o.other) number, b.0.may),
                )
            | inr d ↦ let both : UpdateSubscriberData d.s_id d.bit d.sf_type d.value ≡ UpdateLocation o.number o.other = sym d.updates ∙ o.second in absurd cc
          ]
      | inr o ↦ let same : UpdateLocation n v ≡ UpdateSubscriberData o.s_id o.bit o.sf_type o.value = o.first in absurd cc
    ]

both_law : (home : SubscriberRows) → IsHome home → (s x t y : ℕ) → Law home (UpdateSubscriberData s x t y)
both_law home is s x t y k xs mid a = chain_from (UpdateSubscriberData s x t y) (SetsItsBoth s t) (HasBoth s t) (both_step s x t y) (AreOverwrittenBy home.tables (UpdateSubscriberData s x t y)) home.tables good k [] xs mid a
  where
    good : (z : Observed) → AreOverwrittenBy home.tables (UpdateSubscriberData s x t y) z → HasBoth s t home.tables × SetsItsBoth s t z
    good z b = elim b.1 [
      | inl o ↦ let same : UpdateSubscriberData s x t y ≡ UpdateLocation o.number o.location = o.first in absurd cc
      | inr o ↦
          let same : UpdateSubscriberData s x t y ≡ UpdateSubscriberData o.s_id o.bit o.sf_type o.value = o.first in
          let id : o.s_id ≡ s = cc in
          let kind : o.sf_type ≡ t = cc in
          elim b.0.sets [
            | inl l ↦ let both : UpdateLocation l.number l.location ≡ UpdateSubscriberData o.s_id o.other_bit o.sf_type o.other_value = sym l.updates ∙ o.second in absurd cc
            | inr d ↦
                let both : UpdateSubscriberData d.s_id d.bit d.sf_type d.value ≡ UpdateSubscriberData o.s_id o.other_bit o.sf_type o.other_value = sym d.updates ∙ o.second in
                let own : d.s_id ≡ s = cc in
                let own_kind : d.sf_type ≡ t = cc in (
                  subst (λ m. HasBoth s m home.tables) own_kind (subst (λ m. HasBoth m d.sf_type home.tables) own (home_both home is z.call d)),
                  (o.other_bit, o.other_value, o.second ∙ (λ i. UpdateSubscriberData (id i) o.other_bit (kind i) o.other_value), b.0.may),
                )
          ]
    ]

-- calls that are left out take effect, and leave the answer and the rows of the one that overwrites them as they were
pub overwritten_chain : (home : SubscriberRows) → IsHome home → (call : Call) → Law home call
overwritten_chain home is (GetSubscriberData s) = nothing_out home (GetSubscriberData s) (λ z o. elim o [ inl p ↦ let e = p.first in absurd cc | inr p ↦ let e = p.first in absurd cc ])
overwritten_chain home is (GetNewDestination s t b e) = nothing_out home (GetNewDestination s t b e) (λ z o. elim o [ inl p ↦ let e = p.first in absurd cc | inr p ↦ let e = p.first in absurd cc ])
overwritten_chain home is (GetAccessData s t) = nothing_out home (GetAccessData s t) (λ z o. elim o [ inl p ↦ let e = p.first in absurd cc | inr p ↦ let e = p.first in absurd cc ])
overwritten_chain home is (UpdateSubscriberData s x t y) = both_law home is s x t y
overwritten_chain home is (UpdateLocation n v) = location_law home is n v
overwritten_chain home is (InsertCallForwarding n t b e x) = nothing_out home (InsertCallForwarding n t b e x) (λ z o. elim o [ inl p ↦ let e = p.first in absurd cc | inr p ↦ let e = p.first in absurd cc ])
overwritten_chain home is (DeleteCallForwarding n t b) = nothing_out home (DeleteCallForwarding n t b) (λ z o. elim o [ inl p ↦ let e = p.first in absurd cc | inr p ↦ let e = p.first in absurd cc ])
