-- What the set of the rows in cells has: the row of a place under its key, and the changes of one cell.
use Rattle.std.specs.Prelude.{◌≡◌, ℕ, zero, suc, ◌<◌, Bool, true, false, cond, ◌&&◌, ◌||◌, ◌==◌, not, List, [], ◌∷◌, Option, Some, None, find, length, slice_get, slice_set, slice_index_or, map, T}
use Rattle.std.specs.List.{list_any, list_all}
use Rattle.std.proofs.Common.{refl, sym, ap, subst, ◌∙◌, arith}
use Rattle.std.proofs.lemmas.Bool.Decides.{nat_tests}
use Rattle.std.specs.Cmp.Lexicographic.{slice_cmp, nat_list_cmp_total}
use Rattle.std.specs.Cmp.{tied_itself, nat_cmp_total}
use Rattle.std.specs.Ordering.{nat_cmp, is_lt, ordering_then}
use Rattle.std.specs.declared.cmp.Ordering.TheVariants.{Less, Equal, Greater}
use Rattle.std.specs.FinMap.Entries as entry
use Rattle.tatp_tables.specs.Tuples.{Tuple, Tuples, rows_of, same, has, set_of, insert_row, remove_row}
use Rattle.tatp_tables.proofs.TupleLaws.{same_tuples, same_is, has-set_of, has-insert_row, has-remove_row, rises, rows_of-set_of}
use Rattle.tatp_tables.specs.Keys.{has_key, row_at}
use Rattle.tatp_tables.proofs.KeyLaws.{heads_equal}
use Rattle.tatp_homes.specs.Cells.{present, StandAt}

-- ---- keys in order
-- two keys of one length, the first before the second
abbrev pub before : List ℕ → List ℕ → Bool
before k m = (length k == length m) && is_lt (slice_cmp nat_cmp k m)

-- keys of one length that strictly rise
abbrev pub rise : List (List ℕ) → Bool
rise [] = true
rise (k ∷ keys) = list_all (before k) keys && rise keys

pub first_of : (a b : Bool) → (a && b) ≡ true → a ≡ true
first_of true b h = refl
first_of false b h = cc

pub second_of : (a b : Bool) → (a && b) ≡ true → b ≡ true
second_of true b h = h
second_of false b h = cc

length_is : (m n : ℕ) (b : Bool) → ((m == n) && b) ≡ true → m ≡ n
length_is = heads_equal

-- rows with keys in order are in that order
ordered : (k m x y : List ℕ) → length k ≡ length m → is_lt (slice_cmp nat_cmp k m) ≡ true → has_key k x ≡ true → has_key m y ≡ true → is_lt (slice_cmp nat_cmp x y) ≡ true
ordered [] [] x y l lt h g = cc
ordered [] (m ∷ ms) x y l lt h g = absurd (omega arith)
ordered (k ∷ ks) [] x y l lt h g = absurd (omega arith)
ordered (k ∷ ks) (m ∷ ms) [] y l lt h g = cc
ordered (k ∷ ks) (m ∷ ms) (a ∷ x) [] l lt h g = cc
ordered (k ∷ ks) (m ∷ ms) (a ∷ x) (b ∷ y) l lt h g =
    let e : a ≡ k = heads_equal a k _ h in
    let f : b ≡ m = heads_equal b m _ g in
    ap (λ o. is_lt (ordering_then o (slice_cmp nat_cmp x y))) (λ i. nat_cmp (e i) (f i))
    ∙ elim (nat_cmp k m) as (λ o. is_lt (ordering_then o (slice_cmp nat_cmp ks ms)) ≡ true → is_lt (ordering_then o (slice_cmp nat_cmp x y)) ≡ true) [
      | Less ↦ λ _. refl
      | Equal ↦ λ lt. ordered ks ms x y (omega arith) lt (second_of _ _ h) (second_of _ _ g)
      | Greater ↦ λ lt. cc
    ] lt

-- the same after one s_id
ordered_home : (s : ℕ) (k m : List ℕ) (x y : Tuple) → before k m ≡ true → has_key (s ∷ k) x ≡ true → has_key (s ∷ m) y ≡ true → is_lt (slice_cmp nat_cmp x y) ≡ true
ordered_home s k m x y b h g =
    let l : length k ≡ length m = length_is (length k) (length m) _ b in
    ordered (s ∷ k) (s ∷ m) x y (ap suc l)
    (ap (λ o. is_lt (ordering_then o (slice_cmp nat_cmp k m))) (tied_itself nat_cmp_total s) ∙ second_of (length k == length m) _ b) h g

not_before_itself : (x : Tuple) → is_lt (slice_cmp nat_cmp x x) ≡ false
not_before_itself x = ap is_lt (tied_itself nat_list_cmp_total x)

-- a row of one key hasn't the other
apart : (s : ℕ) (k m : List ℕ) (row : Tuple) → before k m ≡ true → has_key (s ∷ k) row ≡ true → has_key (s ∷ m) row ≡ false
apart s k m row b h =
    elim (has_key (s ∷ m) row) as (λ t. has_key (s ∷ m) row ≡ t → t ≡ false) [
      | true ↦ λ g. let yes = ordered_home s k m row row b h g in let no = not_before_itself row in cc
      | false ↦ λ g. refl
    ] refl

apart_after : (s : ℕ) (k m : List ℕ) (row : Tuple) → before k m ≡ true → has_key (s ∷ m) row ≡ true → has_key (s ∷ k) row ≡ false
apart_after s k m row b h =
    elim (has_key (s ∷ k) row) as (λ t. has_key (s ∷ k) row ≡ t → t ≡ false) [
      | true ↦ λ g. let yes = ordered_home s k m row row b g h in let no = not_before_itself row in cc
      | false ↦ λ g. refl
    ] refl

-- ---- the rows in order
abbrev pub as_entries : List Tuple → List (Tuple × Unit {0})
as_entries rows = map (λ r. (r, tt)) rows

later : (s : ℕ) (k : List ℕ) (x : Tuple) (keys : List (List ℕ)) (cells : List (Option Tuple)) → has_key (s ∷ k) x ≡ true → list_all (before k) keys ≡ true → StandAt s keys cells
    → entry.below_all (slice_cmp nat_cmp) x (as_entries (present cells)) ≡ true
later s k x [] [] h b all = refl
later s k x [] (c ∷ cells) h b all = absurd all
later s k x (m ∷ keys) [] h b all = absurd all
later s k x (m ∷ keys) (None ∷ cells) h b all = later s k x keys cells h (second_of _ _ b) all
later s k x (m ∷ keys) (Some row ∷ cells) h b all =
    λ i. ordered_home s k m x row (first_of _ _ b) h all.0 i && later s k x keys cells h (second_of _ _ b) all.1 i

present_rises : (s : ℕ) (keys : List (List ℕ)) (cells : List (Option Tuple)) → rise keys ≡ true → StandAt s keys cells → rises (present cells) ≡ true
present_rises s [] [] r all = refl
present_rises s [] (c ∷ cells) r all = absurd all
present_rises s (k ∷ keys) [] r all = absurd all
present_rises s (k ∷ keys) (None ∷ cells) r all = present_rises s keys cells (second_of _ _ r) all
present_rises s (k ∷ keys) (Some row ∷ cells) r all =
    λ i. later s k row keys cells all.0 (first_of _ _ r) all.1 i && present_rises s keys cells (second_of _ _ r) all.1 i

-- the rows of the set are those of the cells, in their order
pub rows_of-present : (s : ℕ) (keys : List (List ℕ)) (cells : List (Option Tuple)) → rise keys ≡ true → StandAt s keys cells → rows_of (set_of (present cells)) ≡ present cells
rows_of-present s keys cells r all = rows_of-set_of (present cells) (subst T (sym (present_rises s keys cells r all)) tt)

-- ---- finds
unmoved : (p : Tuple → Bool) (x : Tuple) (xs : List Tuple) → p x ≡ false → find p (x ∷ xs) ≡ find p xs
unmoved p x xs h = ap (λ b. cond b (Some x) (find p xs)) h

-- no later cell has an earlier key
pub none_later : (s : ℕ) (k : List ℕ) (keys : List (List ℕ)) (cells : List (Option Tuple)) → list_all (before k) keys ≡ true → StandAt s keys cells → find (has_key (s ∷ k)) (present cells) ≡ None
none_later s k [] [] b all = refl
none_later s k [] (c ∷ cells) b all = absurd all
none_later s k (m ∷ keys) [] b all = absurd all
none_later s k (m ∷ keys) (None ∷ cells) b all = none_later s k keys cells (second_of _ _ b) all
none_later s k (m ∷ keys) (Some row ∷ cells) b all =
    unmoved (has_key (s ∷ k)) row (present cells) (apart_after s k m row (first_of _ _ b) all.0) ∙ none_later s k keys cells (second_of _ _ b) all.1

before_found : (k m : List ℕ) (keys : List (List ℕ)) (i : ℕ) → list_all (before k) keys ≡ true → slice_get keys i ≡ Some m → before k m ≡ true
before_found k m [] i b e = cc
before_found k m (x ∷ keys) zero b e = let h : x ≡ m = cc in ap (before k) (sym h) ∙ first_of _ _ b
before_found k m (x ∷ keys) (suc i) b e = before_found k m keys i (second_of _ _ b) e

find_present : (s : ℕ) (k : List ℕ) (keys : List (List ℕ)) (cells : List (Option Tuple)) (i : ℕ) → rise keys ≡ true → StandAt s keys cells → slice_get keys i ≡ Some k → find (has_key (s ∷ k)) (present cells) ≡ slice_index_or cells i None
find_present s k [] cells i r all e = cc
find_present s k (m ∷ keys) [] i r all e = absurd all
find_present s k (m ∷ keys) (None ∷ cells) zero r all e = let h : m ≡ k = cc in none_later s k keys cells (ap (λ n. list_all (before n) keys) (sym h) ∙ first_of _ _ r) all
find_present s k (m ∷ keys) (Some row ∷ cells) zero r all e = let h : m ≡ k = cc in
    ap (λ b. cond b (Some row) (find (has_key (s ∷ k)) (present cells))) (ap (λ n. has_key (s ∷ n) row) (sym h) ∙ all.0)
find_present s k (m ∷ keys) (None ∷ cells) (suc i) r all e = find_present s k keys cells i (second_of _ _ r) all e
find_present s k (m ∷ keys) (Some row ∷ cells) (suc i) r all e =
    unmoved (has_key (s ∷ k)) row (present cells) (apart s m k row (before_found m k keys i (first_of _ _ r) e) all.0) ∙ find_present s k keys cells i (second_of _ _ r) all.1 e

-- a find of a place's key gives what stands there
pub row_at-place : (s : ℕ) (k : List ℕ) (keys : List (List ℕ)) (cells : List (Option Tuple)) (i : ℕ) → rise keys ≡ true → StandAt s keys cells → slice_get keys i ≡ Some k
    → row_at (set_of (present cells)) (s ∷ k) ≡ slice_index_or cells i None
row_at-place s k keys cells i r all e = ap (find (has_key (s ∷ k))) (rows_of-present s keys cells r all) ∙ find_present s k keys cells i r all e

-- two keys of one row, the first no longer than the second: it begins the second
prefix : (k m : List ℕ) (row : Tuple) → length m ≡ length k → has_key k row ≡ true → has_key m row ≡ true → has_key k m ≡ true
prefix [] m row l h g = refl
prefix (k ∷ ks) [] row l h g = absurd (omega arith)
prefix (k ∷ ks) (m ∷ ms) [] l h g = cc
prefix (k ∷ ks) (m ∷ ms) (x ∷ row) l h g =
    let e : x ≡ k = heads_equal x k _ h in
    let f : x ≡ m = heads_equal x m _ g in
    let i : (m == k) ≡ true = grind (arith, nat_tests) in
    ap (λ b. b && has_key ks ms) i ∙ prefix ks ms row (omega arith) (second_of _ _ h) (second_of _ _ g)

no_first : (a b : Bool) → (a || b) ≡ false → a ≡ false
no_first true b h = cc
no_first false b h = refl

no_second : (a b : Bool) → (a || b) ≡ false → b ≡ false
no_second true b h = cc
no_second false b h = h

none_present : (a s : ℕ) (k : List ℕ) (keys : List (List ℕ)) (cells : List (Option Tuple)) → (a ≡ s → list_any (has_key k) keys ≡ false) → list_all (λ m. length m == length k) keys ≡ true → StandAt s keys cells
    → find (has_key (a ∷ k)) (present cells) ≡ None
none_present a s k [] [] none l all = refl
none_present a s k [] (c ∷ cells) none l all = absurd all
none_present a s k (m ∷ keys) [] none l all = absurd all
none_present a s k (m ∷ keys) (None ∷ cells) none l all = none_present a s k keys cells (λ e. no_second _ _ (none e)) (second_of _ _ l) all
none_present a s k (m ∷ keys) (Some [] ∷ cells) none l all = cc all.0
none_present a s k (m ∷ keys) (Some (x ∷ row) ∷ cells) none l all =
    unmoved (has_key (a ∷ k)) (x ∷ row) (present cells)
    (elim (has_key (a ∷ k) (x ∷ row)) as (λ t. has_key (a ∷ k) (x ∷ row) ≡ t → t ≡ false) [
      | true ↦ λ h.
          let e : a ≡ s = sym (heads_equal x a _ h) ∙ heads_equal x s _ all.0 in
          let yes : has_key k m ≡ true = prefix k m row (length_is (length m) (length k) (list_all (λ n. length n == length k) keys) l) (second_of (x == a) (has_key k row) h) (second_of (x == s) (has_key m row) all.0) in
          let no : has_key k m ≡ false = no_first _ _ (none e) in
          cc
      | false ↦ λ h. refl
    ] refl)
    ∙ none_present a s k keys cells (λ e. no_second _ _ (none e)) (second_of _ _ l) all.1

-- a find of a key of no place gives nothing
pub row_at-nowhere : (a s : ℕ) (k : List ℕ) (keys : List (List ℕ)) (cells : List (Option Tuple)) → rise keys ≡ true → StandAt s keys cells → list_all (λ m. length m == length k) keys ≡ true → (a ≡ s → list_any (has_key k) keys ≡ false)
    → row_at (set_of (present cells)) (a ∷ k) ≡ None
row_at-nowhere a s k keys cells r all l none = ap (find (has_key (a ∷ k))) (rows_of-present s keys cells r all) ∙ none_present a s k keys cells none l all

-- ---- one cell is changed
-- whether a cell holds the row
abbrev pub holds : Tuple → Option Tuple → Bool
holds q None = false
holds q (Some row) = same q row

any_present : (q : Tuple) (cells : List (Option Tuple)) → list_any (same q) (present cells) ≡ list_any (holds q) cells
any_present q [] = refl
any_present q (None ∷ cells) = any_present q cells
any_present q (Some row ∷ cells) = ap (λ b. same q row || b) (any_present q cells)

-- the set without what a cell held
abbrev pub taken_out : Option Tuple → Tuples → Tuples
taken_out None u = u
taken_out (Some row) u = remove_row u row

-- the set with what a cell holds
abbrev pub put_in : Option Tuple → Tuples → Tuples
put_in None u = u
put_in (Some row) u = insert_row u row

has-taken_out : (o : Option Tuple) (u : Tuples) (q : Tuple) → has (taken_out o u) q ≡ (not (holds q o) && has u q)
has-taken_out None u q = refl
has-taken_out (Some row) u q = has-remove_row u row q

has-put_in : (o : Option Tuple) (u : Tuples) (q : Tuple) → has (put_in o u) q ≡ (holds q o || has u q)
has-put_in None u q = refl
has-put_in (Some row) u q = has-insert_row u row q

-- a row of an earlier key is in no later cell
not_later : (s : ℕ) (k : List ℕ) (q : Tuple) (keys : List (List ℕ)) (cells : List (Option Tuple)) → list_all (before k) keys ≡ true → StandAt s keys cells → has_key (s ∷ k) q ≡ true → list_any (holds q) cells ≡ false
not_later s k q [] [] b all h = refl
not_later s k q [] (c ∷ cells) b all h = absurd all
not_later s k q (m ∷ keys) [] b all h = absurd all
not_later s k q (m ∷ keys) (None ∷ cells) b all h = not_later s k q keys cells (second_of _ _ b) all h
not_later s k q (m ∷ keys) (Some row ∷ cells) b all h =
    (λ i. elim (same q row) as (λ t. same q row ≡ t → t ≡ false) [
      | true ↦ λ e. let yes : has_key (s ∷ m) q ≡ true = ap (has_key (s ∷ m)) (same_is q row e) ∙ all.0 in let no = apart s k m q (first_of _ _ b) h in cc
      | false ↦ λ e. refl
    ] refl i || list_any (holds q) cells) ∙ not_later s k q keys cells (second_of _ _ b) all.1 h

-- what stands in a cell has its place's key
held_key : (s : ℕ) (k : List ℕ) (keys : List (List ℕ)) (cells : List (Option Tuple)) (q : Tuple) (c : Option Tuple) → StandAt s (k ∷ keys) (c ∷ cells) → holds q c ≡ true → has_key (s ∷ k) q ≡ true
held_key s k keys cells q None all h = cc
held_key s k keys cells q (Some row) all h = ap (has_key (s ∷ k)) (same_is q row h) ∙ all.0

rest_stands : (s : ℕ) (k : List ℕ) (keys : List (List ℕ)) (c : Option Tuple) (cells : List (Option Tuple)) → StandAt s (k ∷ keys) (c ∷ cells) → StandAt s keys cells
rest_stands s k keys None cells all = all
rest_stands s k keys (Some row) cells all = all.1

here_bits : (o c m : Bool) → (c ≡ true → m ≡ false) → (o || m) ≡ (o || (not c && (c || m)))
here_bits true c m f = refl
here_bits false true true f = cc (f refl)
here_bits false true false f = refl
here_bits false false m f = refl

there_bits : (o c d m : Bool) → (c ≡ true → d ≡ false) → (c || (o || (not d && m))) ≡ (o || (not d && (c || m)))
there_bits true true d m f = refl
there_bits true false d m f = refl
there_bits false true true m f = cc (f refl)
there_bits false true false m f = refl
there_bits false false d m f = refl

not_at : (p : Option Tuple → Bool) (cells : List (Option Tuple)) (i : ℕ) → p None ≡ false → list_any p cells ≡ false → p (slice_index_or cells i None) ≡ false
not_at p [] i n h = n
not_at p (c ∷ cells) zero n h = no_first _ _ h
not_at p (c ∷ cells) (suc i) n h = not_at p cells i n (no_second _ _ h)

any_set : (s : ℕ) (q : Tuple) (o : Option Tuple) (keys : List (List ℕ)) (cells : List (Option Tuple)) (i : ℕ) → rise keys ≡ true → StandAt s keys cells → i < length cells
    → list_any (holds q) (slice_set cells i o) ≡ (holds q o || (not (holds q (slice_index_or cells i None)) && list_any (holds q) cells))
any_set s q o keys [] i r all lt = absurd (omega arith)
any_set s q o [] (c ∷ cells) i r all lt = absurd all
any_set s q o (k ∷ keys) (c ∷ cells) zero r all lt = here_bits (holds q o) (holds q c) (list_any (holds q) cells)
    (λ h. not_later s k q keys cells (first_of _ _ r) (rest_stands s k keys c cells all) (held_key s k keys cells q c all h))
any_set s q o (k ∷ keys) (c ∷ cells) (suc i) r all lt =
    ap (λ b. holds q c || b) (any_set s q o keys cells i (second_of _ _ r) (rest_stands s k keys c cells all) (omega arith))
    ∙ there_bits (holds q o) (holds q c) (holds q (slice_index_or cells i None)) (list_any (holds q) cells)
    (λ h. not_at (holds q) cells i refl (not_later s k q keys cells (first_of _ _ r) (rest_stands s k keys c cells all) (held_key s k keys cells q c all h)))

-- the set after one cell is set: without what stood there, and with what stands there now
pub set_of-set : (s : ℕ) (o : Option Tuple) (keys : List (List ℕ)) (cells : List (Option Tuple)) (i : ℕ) → rise keys ≡ true → StandAt s keys cells → i < length cells
    → set_of (present (slice_set cells i o)) ≡ put_in o (taken_out (slice_index_or cells i None) (set_of (present cells)))
set_of-set s o keys cells i r all lt = same_tuples _ _ (λ q.
    has-set_of (present (slice_set cells i o)) q ∙ any_present q (slice_set cells i o) ∙ any_set s q o keys cells i r all lt
    ∙ sym (has-put_in o (taken_out (slice_index_or cells i None) (set_of (present cells))) q
    ∙ ap (λ b. holds q o || b) (has-taken_out (slice_index_or cells i None) (set_of (present cells)) q
    ∙ ap (λ b. not (holds q (slice_index_or cells i None)) && b) (has-set_of (present cells) q ∙ any_present q cells))))

-- what fits a cell: nothing, or a row with the key of its place
abbrev pub FitsAt : ℕ → List ℕ → Option Tuple → Type 0
FitsAt s k None = Unit {0}
FitsAt s k (Some row) = has_key (s ∷ k) row ≡ true

set_first : (s : ℕ) (k m : List ℕ) (keys : List (List ℕ)) (c o : Option Tuple) (cells : List (Option Tuple)) → StandAt s (m ∷ keys) (c ∷ cells) → m ≡ k → FitsAt s k o → StandAt s (m ∷ keys) (o ∷ cells)
set_first s k m keys c None cells all e f = rest_stands s m keys c cells all
set_first s k m keys c (Some row) cells all e f = (ap (λ n. has_key (s ∷ n) row) e ∙ f, rest_stands s m keys c cells all)

set_later : (s : ℕ) (m : List ℕ) (keys : List (List ℕ)) (c : Option Tuple) (cells others : List (Option Tuple)) → StandAt s (m ∷ keys) (c ∷ cells) → StandAt s keys others → StandAt s (m ∷ keys) (c ∷ others)
set_later s m keys None cells others all more = more
set_later s m keys (Some row) cells others all more = (all.0, more)

pub StandAt-set : (s : ℕ) (k : List ℕ) (o : Option Tuple) (keys : List (List ℕ)) (cells : List (Option Tuple)) (i : ℕ) → StandAt s keys cells → slice_get keys i ≡ Some k → FitsAt s k o → StandAt s keys (slice_set cells i o)
StandAt-set s k o [] cells i all e f = cc
StandAt-set s k o (m ∷ keys) [] i all e f = absurd all
StandAt-set s k o (m ∷ keys) (c ∷ cells) zero all e f = let h : m ≡ k = cc in set_first s k m keys c o cells all h f
StandAt-set s k o (m ∷ keys) (c ∷ cells) (suc i) all e f = set_later s m keys c cells _ all (StandAt-set s k o keys cells i (rest_stands s m keys c cells all) e f)

-- as many cells as keys
pub length-StandAt : (s : ℕ) (keys : List (List ℕ)) (cells : List (Option Tuple)) → StandAt s keys cells → length cells ≡ length keys
length-StandAt s [] [] all = refl
length-StandAt s [] (c ∷ cells) all = absurd all
length-StandAt s (k ∷ keys) [] all = absurd all
length-StandAt s (k ∷ keys) (c ∷ cells) all = ap suc (length-StandAt s keys cells (rest_stands s k keys c cells all))

-- the row in a cell has the key of its place
pub key_at : (s : ℕ) (k : List ℕ) (keys : List (List ℕ)) (cells : List (Option Tuple)) (i : ℕ) (row : Tuple) → StandAt s keys cells → slice_get keys i ≡ Some k → slice_index_or cells i None ≡ Some row → has_key (s ∷ k) row ≡ true
key_at s k [] cells i row all e h = cc
key_at s k (m ∷ keys) [] i row all e h = absurd all
key_at s k (m ∷ keys) (None ∷ cells) zero row all e h = cc
key_at s k (m ∷ keys) (Some r ∷ cells) zero row all e h = let f : m ≡ k = cc in let g : r ≡ row = cc in (λ j. has_key (s ∷ sym f j) (sym g j)) ∙ all.0
key_at s k (m ∷ keys) (c ∷ cells) (suc i) row all e h = key_at s k keys cells i row (rest_stands s m keys c cells all) e h

-- a place is within the cells
pub place_within : (s : ℕ) (k : List ℕ) (keys : List (List ℕ)) (cells : List (Option Tuple)) (i : ℕ) → StandAt s keys cells → slice_get keys i ≡ Some k → i < length cells
place_within s k [] cells i all e = cc
place_within s k (m ∷ keys) [] i all e = absurd all
place_within s k (m ∷ keys) (c ∷ cells) zero all e = omega arith
place_within s k (m ∷ keys) (c ∷ cells) (suc i) all e = let h : i < length cells = place_within s k keys cells i (rest_stands s m keys c cells all) e in omega arith
