-- The homes of the population, extent by extent: slices of all its homes.
use Rattle.std.proofs.Common.{◌≡◌, ℕ, zero, suc, ◌+◌, ◌*◌, ◌-◌, ◌/◌, ◌<◌, ◌≤◌, ◌&&◌, min, nat_le, Bool, true, false, if◌then◌else◌, List, [], map, length, take, drop, Some, None, refl, sym, ◌∙◌, ap, arith}
use Rattle.std.specs.List.{range_with_len}
use Rattle.std.proofs.lemmas.Bool.Decides.{nat_tests}
use Rattle.std.proofs.lemmas.List.{take-map, drop-map, take_min, length-drop}
use Rattle.tatp_limits.specs.declared.limits.TheConstants.{EXTENT_SUBSCRIBERS}
use Rattle.tatp_tables.specs.Database.{Database, database_of}
use Rattle.tatp_homes.specs.Home.{SubscriberRows, home_in}
use Rattle.tatp_homes.specs.Loading.{homes_in}
use Rattle.tatp_tables.specs.declared.row.Rows.{Rows}
use Rattle.tatp_homes.proofs.LoadingLaws.{length-homes_in}
use Rattle.tatp_extents.specs.Extents.{first_subscriber}
use Rattle.tatp_extents.specs.Opening.{homes_of_extent, last_subscriber}
use Rattle.tatp_extents.proofs.CutLaws.{drop-range, take-range}
use Rattle.tatp_settle.specs.Runs.{AreHomesOf, extents_populated, homes_populated, homes_at_first}

pub populated : (p : Rows) (e : ℕ) → 1 ≤ e → e ≤ extents_populated p → homes_populated p e ≡ Some (homes_of_extent (database_of p) (length p.subscribers) e)
populated p e l k = ap (λ (b : Bool). if b then Some (homes_of_extent (database_of p) (length p.subscribers) e) else None) within
  where
    within : (nat_le 1 e && nat_le e (extents_populated p)) ≡ true
    within = grind (arith, nat_tests, l, k)

pub not_populated : (p : Rows) (e : ℕ) → (1 ≤ e → e ≤ extents_populated p → ⊥) → homes_populated p e ≡ None
not_populated p e h = ap (λ (b : Bool). if b then Some (homes_of_extent (database_of p) (length p.subscribers) e) else None) (without (nat_le 1 e) (nat_le e (extents_populated p)) (λ a b. h (one a) (two b)))
  where
    one : nat_le 1 e ≡ true → 1 ≤ e
    one a = grind (arith, nat_tests, a)

    two : nat_le e (extents_populated p) ≡ true → e ≤ extents_populated p
    two b = grind (arith, nat_tests, b)

    without : (a b : Bool) → (a ≡ true → b ≡ true → ⊥) → (a && b) ≡ false
    without true true h = absurd (h refl refl)
    without true false h = refl
    without false b h = refl

-- an extent's homes are its piece of all homes
homes_of_piece : (u : Database) (n e : ℕ) → 1 ≤ e → take EXTENT_SUBSCRIBERS (drop (EXTENT_SUBSCRIBERS * (e - 1)) (homes_in u 1 n)) ≡ homes_of_extent u n e
homes_of_piece u n e h =
    let first : 1 + EXTENT_SUBSCRIBERS * (e - 1) ≡ first_subscriber e = omega arith in
    let long : min EXTENT_SUBSCRIBERS (n - EXTENT_SUBSCRIBERS * (e - 1)) ≡ last_subscriber n e + 1 - first_subscriber e = omega arith in
    ap (take EXTENT_SUBSCRIBERS) (drop-map (home_in u) (EXTENT_SUBSCRIBERS * (e - 1)) (range_with_len 1 n))
    ∙ take-map (home_in u) EXTENT_SUBSCRIBERS (drop (EXTENT_SUBSCRIBERS * (e - 1)) (range_with_len 1 n))
    ∙ ap (map (home_in u)) (ap (take EXTENT_SUBSCRIBERS) (drop-range (EXTENT_SUBSCRIBERS * (e - 1)) 1 n) ∙ take-range EXTENT_SUBSCRIBERS (1 + EXTENT_SUBSCRIBERS * (e - 1)) (n - EXTENT_SUBSCRIBERS * (e - 1)))
    ∙ (λ i. homes_in u (first i) (long i))

-- the piece as it is cut out
own_piece : (homes : List SubscriberRows) (p : Rows) (e m : ℕ) → AreHomesOf p homes → 1 ≤ e → m ≡ min (EXTENT_SUBSCRIBERS * (e - 1) + EXTENT_SUBSCRIBERS) (length homes)
    → take (m - EXTENT_SUBSCRIBERS * (e - 1)) (drop (EXTENT_SUBSCRIBERS * (e - 1)) homes) ≡ homes_of_extent (database_of p) (length p.subscribers) e
own_piece homes p e m is l last =
    let size : m - EXTENT_SUBSCRIBERS * (e - 1) ≡ min EXTENT_SUBSCRIBERS (length (drop (EXTENT_SUBSCRIBERS * (e - 1)) homes)) = let d = length-drop (EXTENT_SUBSCRIBERS * (e - 1)) homes in omega (arith, last, d) in
    ap (λ (k : ℕ). take k (drop (EXTENT_SUBSCRIBERS * (e - 1)) homes)) size
    ∙ (take_min EXTENT_SUBSCRIBERS (drop (EXTENT_SUBSCRIBERS * (e - 1)) homes)
    ∙ (ap (λ (xs : List SubscriberRows). take EXTENT_SUBSCRIBERS (drop (EXTENT_SUBSCRIBERS * (e - 1)) xs)) is ∙ homes_of_piece (database_of p) (length p.subscribers) e l))

pub count_is : (homes : List SubscriberRows) (p : Rows) → AreHomesOf p homes → (length homes + (EXTENT_SUBSCRIBERS - 1)) / EXTENT_SUBSCRIBERS ≡ extents_populated p
count_is homes p is = let n : length homes ≡ length p.subscribers = ap length is ∙ length-homes_in (database_of p) 1 (length p.subscribers) in ap (λ (k : ℕ). (k + (EXTENT_SUBSCRIBERS - 1)) / EXTENT_SUBSCRIBERS) n

-- ---- the homes from which a whole log goes on
first_above : (p : Rows) (e : ℕ) → 1 ≤ e → homes_at_first p e ≡ homes_populated p e
first_above p zero l = absurd (omega (arith, l))
first_above p (suc e) l = refl

-- that of the calls without a home goes on from none
pub first_of_homeless : (p : Rows) (e : ℕ) → e ≡ 0 → homes_at_first p e ≡ Some []
first_of_homeless p e is = ap (homes_at_first p) is

-- that of an extent that the population doesn't have
pub first_beyond : (homes : List SubscriberRows) (p : Rows) (e : ℕ) → AreHomesOf p homes → (length homes + (EXTENT_SUBSCRIBERS - 1)) / EXTENT_SUBSCRIBERS < e → homes_at_first p e ≡ None
first_beyond homes p e is l =
    let count = count_is homes p is in
    first_above p e (omega (arith, l)) ∙ not_populated p e (λ _ k. omega (arith, l, k, count))

-- that of an extent goes on from its piece of all homes
pub first_is_piece : (homes : List SubscriberRows) (p : Rows) (e m : ℕ) → AreHomesOf p homes → 1 ≤ e → e ≤ (length homes + (EXTENT_SUBSCRIBERS - 1)) / EXTENT_SUBSCRIBERS → m ≡ min (EXTENT_SUBSCRIBERS * (e - 1) + EXTENT_SUBSCRIBERS) (length homes)
    → homes_at_first p e ≡ Some (take (m - EXTENT_SUBSCRIBERS * (e - 1)) (drop (EXTENT_SUBSCRIBERS * (e - 1)) homes))
first_is_piece homes p e m is l k last =
    let count = count_is homes p is in
    first_above p e l ∙ (populated p e l (omega (arith, k, count)) ∙ ap Some (sym (own_piece homes p e m is l last)))
