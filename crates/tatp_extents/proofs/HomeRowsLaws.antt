-- The rows of homes, and the database that they are.
use Rattle.std.specs.Prelude.{◌≡◌, ◌≢◌, ℕ, zero, suc, Bool, true, false, not, ◌&&◌, ◌||◌, List, [], ◌∷◌, ◌++◌, map, Some, slice_get, IsPermutation}
use Rattle.std.specs.List.{list_any, fold}
use Rattle.std.proofs.Common.{refl, sym, ap, ◌∙◌, arith, subst}
use Rattle.std.proofs.Math.ListN.{set}
use Rattle.std.proofs.lemmas.Bool.{false_from_ne_true}
use Rattle.std.proofs.lemmas.List.Folds.{list_any-append}
use Rattle.std.proofs.lemmas.List.Sorted.{list_any-IsPermutation}
use Rattle.tatp_tables.specs.Tuples.{Tuple, Tuples, has, same, rows_of, set_of}
use Rattle.tatp_tables.specs.Keys.{has_key}
use Rattle.tatp_tables.specs.Database.{Database, database_of, in_table, of_subscriber, with_subscriber}
use Rattle.tatp_homes.specs.Home.{SubscriberRows, HaveSId, home_in}
use Rattle.tatp_tables.specs.Rows.{with_home}
use Rattle.tatp_tables.specs.declared.row.Rows.{Rows}
use Rattle.tatp_tables.specs.declared.table.Table.{Table}
use Rattle.tatp_tables.specs.declared.table.Table.TheVariants.{Subscriber, AccessInfo, SpecialFacility, CallForwarding}
use Rattle.tatp_tables.proofs.TupleLaws.{same_tuples, has-set_of, has-rows_of}
use Rattle.tatp_tables.proofs.KeyLaws.{key_heads}
use Rattle.tatp_homes.proofs.SubscriberLaws.{has-rows_with_s_id, in_table-of_subscriber, has-replaced_rows, in_table-with_subscriber}
use Rattle.tatp_extents.specs.HomeRows.{database_of_homes, AreRowsOf, AreSeparateHomes}

-- ---- tests
or_assoc : (a b c : Bool) → (a || (b || c)) ≡ ((a || b) || c)
or_assoc true b c = refl
or_assoc false b c = refl

or_false : (a : Bool) → a ≡ (a || false)
or_false true = refl
or_false false = refl

and_or : (a b c : Bool) → ((a && b) || (a && c)) ≡ (a && (b || c))
and_or true b c = refl
and_or false b c = refl

false_and : (a : Bool) → false ≡ (a && false)
false_and true = refl
false_and false = refl

-- a test that holds where another does changes nothing beside it
and_implied : (a b : Bool) → (a ≡ true → b ≡ true) → (a && b) ≡ a
and_implied true b h = h refl
and_implied false b h = refl

-- ---- a row of the database is a row of some home
has_appended : (xs : List Tuple) (v : Tuples) (q : Tuple) → has (set_of (xs ++ rows_of v)) q ≡ (has (set_of xs) q || has v q)
has_appended xs v q = has-set_of (xs ++ rows_of v) q ∙ list_any-append (same q) xs (rows_of v) ∙ (λ i. sym (has-set_of xs q) i || sym (has-rows_of v q) i)

has_with_home : (t : Table) (r : Rows) (v : Database) (q : Tuple) → has (in_table t (database_of (with_home r v))) q ≡ (has (in_table t (database_of r)) q || has (in_table t v) q)
has_with_home Subscriber r v q = has_appended r.subscribers v.subscribers q
has_with_home AccessInfo r v q = has_appended r.accesses v.accesses q
has_with_home SpecialFacility r v q = has_appended r.facilities v.facilities q
has_with_home CallForwarding r v q = has_appended r.forwardings v.forwardings q

-- whether the row is one of the home's
abbrev has_home : Table → Tuple → SubscriberRows → Bool
has_home t q home = has (in_table t home.tables) q

has_after : (t : Table) (homes : List SubscriberRows) (r : Rows) (q : Tuple)
    → has (in_table t (database_of (fold (λ rows (home : SubscriberRows). with_home rows home.tables) r homes))) q ≡ (has (in_table t (database_of r)) q || list_any (has_home t q) homes)
has_after t [] r q = or_false _
has_after t (home ∷ homes) r q =
    has_after t homes (with_home r home.tables) q
    ∙ ap (λ b. b || list_any (has_home t q) homes) (has_with_home t r home.tables q)
    ∙ sym (or_assoc (has (in_table t (database_of r)) q) (has_home t q home) (list_any (has_home t q) homes))

abbrev no_lists : Rows
no_lists = record { subscribers = []; accesses = []; facilities = []; forwardings = [] }

nothing_first : (t : Table) (q : Tuple) → has (in_table t (database_of no_lists)) q ≡ false
nothing_first Subscriber q = has-set_of [] q
nothing_first AccessInfo q = has-set_of [] q
nothing_first SpecialFacility q = has-set_of [] q
nothing_first CallForwarding q = has-set_of [] q

pub has_homes : (homes : List SubscriberRows) (t : Table) (q : Tuple) → has (in_table t (database_of_homes homes)) q ≡ list_any (λ home. has (in_table t home.tables) q) homes
has_homes homes t q = has_after t homes no_lists q ∙ ap (λ b. b || list_any (has_home t q) homes) (nothing_first t q)

-- two databases with the same rows in each table are one
same_database : (u v : Database) → ((t : Table) (q : Tuple) → has (in_table t u) q ≡ has (in_table t v) q) → u ≡ v
same_database u v h = λ i. record {
  subscribers = same_tuples u.subscribers v.subscribers (h Subscriber) i;
  accesses = same_tuples u.accesses v.accesses (h AccessInfo) i;
  facilities = same_tuples u.facilities v.facilities (h SpecialFacility) i;
  forwardings = same_tuples u.forwardings v.forwardings (h CallForwarding) i;
}

-- ---- the homes of all subscribers
has_all : (t : Table) (u : Database) (ids : List ℕ) (q : Tuple) → list_any (has_home t q) (map (home_in u) ids) ≡ (has (in_table t u) q && list_any (λ s. has_key (s ∷ []) q) ids)
has_all t u [] q = false_and _
has_all t u (s ∷ ids) q =
    (λ i. (ap (λ v. has v q) (in_table-of_subscriber t u s) ∙ has-rows_with_s_id s (in_table t u) q) i || has_all t u ids q i)
    ∙ and_or (has (in_table t u) q) (has_key (s ∷ []) q) (list_any (λ k. has_key (k ∷ []) q) ids)

pub rows_are_the_database : (u : Database) (ids : List ℕ) → AreRowsOf ids u → database_of_homes (map (home_in u) ids) ≡ u
rows_are_the_database u ids all = same_database _ _ (λ t q.
    has_homes (map (home_in u) ids) t q ∙ has_all t u ids q ∙ and_implied (has (in_table t u) q) (list_any (λ s. has_key (s ∷ []) q) ids) (all t q))

-- ---- the order of homes
pub any_order : (homes others : List SubscriberRows) → IsPermutation homes others → database_of_homes homes ≡ database_of_homes others
any_order homes others h = same_database _ _ (λ t q. has_homes homes t q ∙ list_any-IsPermutation (has_home t q) homes others h ∙ sym (has_homes others t q))

-- ---- one of separate homes
behind_first : (home : SubscriberRows) (homes : List SubscriberRows) → AreSeparateHomes (home ∷ homes) → AreSeparateHomes homes
behind_first home homes h = record {
  own = λ i x is. h.own (suc i) x is;
  once = λ i j x y is at same. let e = h.once (suc i) (suc j) x y is at same in omega arith;
}

-- the rows of a home of another subscriber don't have this s_id
none_of_other : (s : ℕ) (home : SubscriberRows) (t : Table) (q : Tuple) → HaveSId home.s_id home.tables → home.s_id ≢ s → has_home t q home ≡ true → has_key (s ∷ []) q ≡ false
none_of_other s home t q own other is = false_from_ne_true (has_key (s ∷ []) q) (λ key. other (key_heads home.s_id s q (own t q is) key))

-- no home behind the first has the first's s_id
others_behind : (home : SubscriberRows) (homes : List SubscriberRows) → AreSeparateHomes (home ∷ homes) → (i : ℕ) (other : SubscriberRows) → slice_get homes i ≡ Some other → other.s_id ≢ home.s_id
others_behind home homes h i other is same = let e : zero ≡ suc i = h.once zero (suc i) home other refl is (sym same) in absurd (omega (arith, e))

-- rows of homes of other subscribers don't have this s_id
abbrev AreOfOthers : ℕ → List SubscriberRows → Type 0
AreOfOthers s homes = (i : ℕ) (other : SubscriberRows) → slice_get homes i ≡ Some other → (other.s_id ≢ s) × HaveSId other.s_id other.tables

none_of_others : (s : ℕ) (homes : List SubscriberRows) (t : Table) (q : Tuple) → AreOfOthers s homes → list_any (has_home t q) homes ≡ true → has_key (s ∷ []) q ≡ false
none_of_others s [] t q h any = absurd cc
none_of_others s (home ∷ homes) t q h any =
    let first = h zero home refl in
    elim (has_home t q home) as (λ b. has_home t q home ≡ b → (b || list_any (has_home t q) homes) ≡ true → has_key (s ∷ []) q ≡ false) [
      | true ↦ λ is _. none_of_other s home t q first.1 first.0 is
      | false ↦ λ _ more. none_of_others s homes t q (λ i other at. h (suc i) other at) more
    ] refl any

all_others : (home : SubscriberRows) (homes : List SubscriberRows) → AreSeparateHomes (home ∷ homes) → AreOfOthers home.s_id homes
all_others home homes h i other is = (others_behind home homes h i other is, h.own (suc i) other is)

-- by cases on the tests
mine : (a b k : Bool) → (a ≡ true → k ≡ true) → (b ≡ true → k ≡ false) → ((a || b) && k) ≡ a
mine true b k h g = h refl
mine false true k h g = g refl
mine false false k h g = refl

not_mine : (a b k c : Bool) → (a ≡ true → k ≡ false) → (b && k) ≡ c → ((a || b) && k) ≡ c
not_mine true true k c h e = e
not_mine true false true c h e = cc (h refl)
not_mine true false false c h e = e
not_mine false b k c h e = e

instead : (a b c k : Bool) → (a ≡ true → k ≡ true) → (b ≡ true → k ≡ false) → (c || b) ≡ (((a || b) && not k) || c)
instead true b true true h g = cc
instead true true false true h g = cc (g refl)
instead true false false true h g = refl
instead true b c false h g = cc (h refl)
instead false true c true h g = cc (g refl)
instead false true true false h g = refl
instead false true false false h g = refl
instead false false true k h g = refl
instead false false false k h g = refl

behind : (a b c d k : Bool) → (a ≡ true → k ≡ false) → d ≡ ((b && not k) || c) → (a || d) ≡ (((a || b) && not k) || c)
behind true b c d true h e = cc (h refl)
behind true b c d false h e = refl
behind false b c d k h e = e

-- of the rows of all, those with the s_id of one are its own
part_of : (homes : List SubscriberRows) (i : ℕ) (home : SubscriberRows) (t : Table) (q : Tuple) → AreSeparateHomes homes → slice_get homes i ≡ Some home
    → (list_any (has_home t q) homes && has_key (home.s_id ∷ []) q) ≡ has_home t q home
part_of [] i home t q h is = absurd cc
part_of (first ∷ homes) zero home t q h is =
    let e : first ≡ home = cc in
    subst (λ (x : SubscriberRows). (list_any (has_home t q) (first ∷ homes) && has_key (x.s_id ∷ []) q) ≡ has_home t q x) e
    (mine (has_home t q first) (list_any (has_home t q) homes) (has_key (first.s_id ∷ []) q) (h.own zero first refl t q) (none_of_others first.s_id homes t q (all_others first homes h)))
part_of (first ∷ homes) (suc i) home t q h is =
    not_mine (has_home t q first) (list_any (has_home t q) homes) (has_key (home.s_id ∷ []) q) (has_home t q home)
    (none_of_other home.s_id first t q (h.own zero first refl) (λ same. let e : zero ≡ suc i = h.once zero (suc i) first home refl is same in omega (arith, e)))
    (part_of homes i home t q (behind_first first homes h) is)

-- another in its place
put_for : (homes : List SubscriberRows) (i : ℕ) (home new : SubscriberRows) (t : Table) (q : Tuple) → AreSeparateHomes homes → slice_get homes i ≡ Some home
    → list_any (has_home t q) (set homes i new) ≡ ((list_any (has_home t q) homes && not (has_key (home.s_id ∷ []) q)) || has_home t q new)
put_for [] i home new t q h is = absurd cc
put_for (first ∷ homes) zero home new t q h is =
    let e : first ≡ home = cc in
    subst (λ (x : SubscriberRows). (has_home t q new || list_any (has_home t q) homes) ≡ ((list_any (has_home t q) (first ∷ homes) && not (has_key (x.s_id ∷ []) q)) || has_home t q new)) e
    (instead (has_home t q first) (list_any (has_home t q) homes) (has_home t q new) (has_key (first.s_id ∷ []) q) (h.own zero first refl t q) (none_of_others first.s_id homes t q (all_others first homes h)))
put_for (first ∷ homes) (suc i) home new t q h is =
    behind (has_home t q first) (list_any (has_home t q) homes) (has_home t q new) (list_any (has_home t q) (set homes i new)) (has_key (home.s_id ∷ []) q)
    (none_of_other home.s_id first t q (h.own zero first refl) (λ same. let e : zero ≡ suc i = h.once zero (suc i) first home refl is same in omega (arith, e)))
    (put_for homes i home new t q (behind_first first homes h) is)

pub one_home : (homes : List SubscriberRows) (i : ℕ) (home : SubscriberRows) → AreSeparateHomes homes → slice_get homes i ≡ Some home → of_subscriber (database_of_homes homes) home.s_id ≡ home.tables
one_home homes i home h is = same_database _ _ (λ t q.
    ap (λ v. has v q) (in_table-of_subscriber t (database_of_homes homes) home.s_id)
    ∙ has-rows_with_s_id home.s_id (in_table t (database_of_homes homes)) q
    ∙ ap (λ b. b && has_key (home.s_id ∷ []) q) (has_homes homes t q)
    ∙ part_of homes i home t q h is)

pub replaced_home : (homes : List SubscriberRows) (i : ℕ) (home new : SubscriberRows) → AreSeparateHomes homes → slice_get homes i ≡ Some home
    → database_of_homes (set homes i new) ≡ with_subscriber (database_of_homes homes) home.s_id new.tables
replaced_home homes i home new h is = same_database _ _ (λ t q.
    has_homes (set homes i new) t q
    ∙ put_for homes i home new t q h is
    ∙ ap (λ b. (b && not (has_key (home.s_id ∷ []) q)) || has_home t q new) (sym (has_homes homes t q))
    ∙ sym (has-replaced_rows home.s_id (in_table t (database_of_homes homes)) (in_table t new.tables) q)
    ∙ ap (λ v. has v q) (sym (in_table-with_subscriber t (database_of_homes homes) home.s_id new.tables)))
