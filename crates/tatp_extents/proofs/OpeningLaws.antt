-- The homes of clean rows in lists as long as an extent are those of the extents that they are opened into.
use Rattle.std.specs.Prelude.{◌≡◌, ℕ, ◌+◌, ◌*◌, ◌-◌, ◌^◌, ◌<◌, ◌≤◌, min, List, [], ◌∷◌, ◌++◌, map, take, drop, length}
use Rattle.std.specs.Int.{div_ceil}
use Rattle.std.specs.List.{range_with_len, flat_map}
use Rattle.std.proofs.Common.{refl, ap, sym, subst, ◌∙◌, arith}
use Rattle.std.proofs.lemmas.List.{take-map, drop-map, length-map}
use Rattle.std.proofs.lemmas.List.Folds.{flat_map-map}
use Rattle.std.proofs.lemmas.List.FromFn.{length-map-range_with_len, map-range_with_len_more}
use Rattle.tatp_limits.specs.declared.limits.TheConstants.{EXTENT_SUBSCRIBERS, MAX_SUBSCRIBERS}
use Rattle.tatp_tables.specs.Database.{Database}
use Rattle.tatp_homes.specs.Home.{SubscriberRows, home_in}
use Rattle.tatp_homes.specs.Loading.{homes_in, list_in, lists_in}
use Rattle.tatp_homes.proofs.LoadingLaws.{length-homes_in}
use Rattle.tatp_extents.specs.Extents.{ExtentState, IsExtent, s_ids, first_subscriber}
use Rattle.tatp_extents.specs.Opening.{opened_extent, extent_count, homes_of_extent, last_subscriber, opened_extents}
use Rattle.tatp_extents.proofs.ExtentLaws.{s_ids-homes_in}
use Rattle.tatp_extents.proofs.CutLaws.{map-from, drop-range, take-range, piece, all_pieces}

-- ---- one after another
-- an extent's homes are its piece of all homes
homes_of_piece : (u : Database) (n e : ℕ) → 1 ≤ e → piece (homes_in u 1 n) e ≡ homes_of_extent u n e
homes_of_piece u n e h =
    let first : 1 + EXTENT_SUBSCRIBERS * (e - 1) ≡ first_subscriber e = omega arith in
    let long : min EXTENT_SUBSCRIBERS (n - EXTENT_SUBSCRIBERS * (e - 1)) ≡ last_subscriber n e + 1 - first_subscriber e = omega arith in
    ap (take EXTENT_SUBSCRIBERS) (drop-map (home_in u) (EXTENT_SUBSCRIBERS * (e - 1)) (range_with_len 1 n))
    ∙ take-map (home_in u) EXTENT_SUBSCRIBERS (drop (EXTENT_SUBSCRIBERS * (e - 1)) (range_with_len 1 n))
    ∙ ap (map (home_in u)) (ap (take EXTENT_SUBSCRIBERS) (drop-range (EXTENT_SUBSCRIBERS * (e - 1)) 1 n) ∙ take-range EXTENT_SUBSCRIBERS (1 + EXTENT_SUBSCRIBERS * (e - 1)) (n - EXTENT_SUBSCRIBERS * (e - 1)))
    ∙ (λ i. homes_in u (first i) (long i))

opened_of_pieces : (u : Database) (n : ℕ) → map (λ e. opened_extent e (piece (homes_in u 1 n) e)) (range_with_len 1 (extent_count (length (homes_in u 1 n)))) ≡ opened_extents u n
opened_of_pieces u n =
    ap (λ k. map (λ e. opened_extent e (piece (homes_in u 1 n) e)) (range_with_len 1 (extent_count k))) (length-homes_in u 1 n)
    ∙ map-from (λ e. opened_extent e (piece (homes_in u 1 n) e)) (λ e. opened_extent e (homes_of_extent u n e)) 1 (extent_count n) (λ e h. ap (opened_extent e) (homes_of_piece u n e h))

-- one after another the extents' homes are all homes
pub homes_of_all : (u : Database) (n : ℕ) → flat_map (λ x. x.homes) (opened_extents u n) ≡ homes_in u 1 n
homes_of_all u n =
    ap (flat_map (λ x. x.homes)) (sym (opened_of_pieces u n))
    ∙ flat_map-map (λ x. x.homes) (λ e. opened_extent e (piece (homes_in u 1 n) e)) (range_with_len 1 (extent_count (length (homes_in u 1 n))))
    ∙ all_pieces (homes_in u 1 n)

-- a number that fits a u32 names each
pub few_extents : (u : Database) (n : ℕ) (extents : List ExtentState) → extents ≡ opened_extents u n → n ≤ MAX_SUBSCRIBERS → length extents < 2 ^ 32
few_extents u n extents is few =
    let count : length extents ≡ extent_count n = ap length is ∙ length-map-range_with_len (λ (e : ℕ). opened_extent e (homes_of_extent u n e)) 1 (extent_count n) in
    omega arith

-- ---- lists as long as an extent
-- list k, counted from 0, has the homes of extent k + 1
list_of_extent : (u : Database) (n k : ℕ) → list_in u EXTENT_SUBSCRIBERS n k ≡ homes_of_extent u n (k + 1)
list_of_extent u n k =
    let first : EXTENT_SUBSCRIBERS * k + 1 ≡ first_subscriber (k + 1) = omega arith in
    let long : min EXTENT_SUBSCRIBERS (n - EXTENT_SUBSCRIBERS * k) ≡ last_subscriber n (k + 1) + 1 - first_subscriber (k + 1) = omega arith in
    λ i. homes_in u (first i) (long i)

-- there are as many as extents
pub all_lists : {V : Type 0} (homes : V → List SubscriberRows) (lists : List V) (u : Database) (n : ℕ) → map homes lists ≡ lists_in u EXTENT_SUBSCRIBERS n → length lists ≡ extent_count n
all_lists homes lists u n is =
    let count : div_ceil n EXTENT_SUBSCRIBERS ≡ extent_count n = omega arith in
    sym (length-map lists homes) ∙ ap length is ∙ length-map-range_with_len (list_in u EXTENT_SUBSCRIBERS n) 0 (div_ceil n EXTENT_SUBSCRIBERS) ∙ count

pub lists_from_0 : {V : Type 0} (homes : V → List SubscriberRows) (lists : List V) (u : Database) (n : ℕ) → map homes lists ≡ lists_in u EXTENT_SUBSCRIBERS n → map homes lists ≡ map (list_in u EXTENT_SUBSCRIBERS n) (range_with_len 0 (length lists))
lists_from_0 homes lists u n is =
    let long : div_ceil n EXTENT_SUBSCRIBERS ≡ length lists = sym (length-map-range_with_len (list_in u EXTENT_SUBSCRIBERS n) 0 (div_ceil n EXTENT_SUBSCRIBERS)) ∙ ap length (sym is) ∙ length-map lists homes in
    is ∙ ap (λ k. map (list_in u EXTENT_SUBSCRIBERS n) (range_with_len 0 k)) long

-- the next of those that are left, and the others
first_is : {X : Type 0} (x y : X) (xs ys : List X) → x ∷ xs ≡ y ∷ ys → x ≡ y
first_is x y xs ys e = cc

rest_is : {X : Type 0} (x y : X) (xs ys : List X) → x ∷ xs ≡ y ∷ ys → xs ≡ ys
rest_is x y xs ys e = cc

left_along : {V : Type 0} (homes : V → List SubscriberRows) (before after : List V) (f : ℕ → List SubscriberRows) (k : ℕ) → before ≡ after → map homes before ≡ map f (range_with_len k (length before)) → map homes after ≡ map f (range_with_len k (length after))
left_along homes before after f k e is = subst (λ xs. map homes xs ≡ map f (range_with_len k (length xs))) e is

pub next_list : {V : Type 0} (homes : V → List SubscriberRows) (before after : List V) (v : V) (f : ℕ → List SubscriberRows) (k : ℕ) → before ≡ v ∷ after → map homes before ≡ map f (range_with_len k (length before)) → homes v ≡ f k
next_list homes before after v f k e is = first_is (homes v) (f k) (map homes after) (map f (range_with_len (k + 1) (length after))) (left_along homes before (v ∷ after) f k e is)

pub other_lists : {V : Type 0} (homes : V → List SubscriberRows) (before after : List V) (v : V) (f : ℕ → List SubscriberRows) (k : ℕ) → before ≡ v ∷ after → map homes before ≡ map f (range_with_len k (length before))
    → map homes after ≡ map f (range_with_len (k + 1) (length after))
other_lists homes before after v f k e is = rest_is (homes v) (f k) (map homes after) (map f (range_with_len (k + 1) (length after))) (left_along homes before (v ∷ after) f k e is)

-- the extent of a list
pub is_extent_opened : (u : Database) (n k : ℕ) (homes : List SubscriberRows) → k < extent_count n → homes ≡ list_in u EXTENT_SUBSCRIBERS n k → IsExtent (opened_extent (k + 1) homes)
is_extent_opened u n k homes lt is =
    let long : length homes ≡ min EXTENT_SUBSCRIBERS (n - EXTENT_SUBSCRIBERS * k) = ap length is ∙ length-homes_in u (EXTENT_SUBSCRIBERS * k + 1) (min EXTENT_SUBSCRIBERS (n - EXTENT_SUBSCRIBERS * k)) in
    let first : EXTENT_SUBSCRIBERS * k + 1 ≡ first_subscriber (k + 1) = omega arith in
    record {
      of_extent = record {
        numbered = omega arith;
        least = omega (arith, long, lt);
        most = omega (arith, long);
        in_order = ap s_ids is ∙ s_ids-homes_in u (range_with_len (EXTENT_SUBSCRIBERS * k + 1) (min EXTENT_SUBSCRIBERS (n - EXTENT_SUBSCRIBERS * k))) ∙ (λ i. range_with_len (first i) (sym long i));
        same = refl;
      };
      history = λ _. record { leads = refl; rise = tt };
    }

-- one extent more
pub one_more_opened : (u : Database) (n k : ℕ) (made later : List ExtentState) (x : ExtentState) (homes : List SubscriberRows) → made ≡ map (λ e. opened_extent e (homes_of_extent u n e)) (range_with_len 1 k)
    → homes ≡ list_in u EXTENT_SUBSCRIBERS n k → x ≡ opened_extent (k + 1) homes → later ≡ made ++ x ∷ [] → later ≡ map (λ e. opened_extent e (homes_of_extent u n e)) (range_with_len 1 (k + 1))
one_more_opened u n k made later x homes so_far is opened more =
    let next : 1 + k ≡ k + 1 = omega arith in
    more
    ∙ (λ i. so_far i ++ (opened ∙ ap (opened_extent (k + 1)) (is ∙ list_of_extent u n k)) i ∷ [])
    ∙ sym (map-range_with_len_more (λ e. opened_extent e (homes_of_extent u n e)) 1 k (k + 1) next)
