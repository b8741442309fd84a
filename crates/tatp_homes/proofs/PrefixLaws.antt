-- Sets of lists that fill up, one row after another.
use Rattle.std.specs.Prelude.{◌≡◌, ℕ, ◌+◌, ◌<◌, ◌≤◌, Bool, true, false, ◌&&◌, ◌||◌, List, [], ◌∷◌, ◌++◌, length, take, slice_index_or}
use Rattle.std.specs.List.{list_any}
use Rattle.std.proofs.Common.{refl, sym, ap, ◌∙◌}
use Rattle.std.proofs.lemmas.List.{take_more, take_all}
use Rattle.std.proofs.lemmas.List.Folds.{list_any-append}
use Rattle.tatp_tables.specs.Tuples.{Tuple, Tuples, same, has, no_rows, set_of, insert_row}
use Rattle.tatp_tables.proofs.TupleLaws.{same_tuples, same_is, has-no_rows, has-set_of, has-insert_row}
use Rattle.tatp_tables.specs.Keys.{has_key}
use Rattle.tatp_tables.specs.Database.{rows_with_s_id}
use Rattle.tatp_homes.proofs.SubscriberLaws.{has-rows_with_s_id}

-- by cases on the tests
pushed_bits : (a b : Bool) → (a || (b || false)) ≡ (b || a)
pushed_bits true true = refl
pushed_bits true false = refl
pushed_bits false true = refl
pushed_bits false false = refl

own_bits : (r h k : Bool) → (r ≡ true → k ≡ true) → ((r || h) && k) ≡ (r || (h && k))
own_bits true h k f = f refl
own_bits false h k f = refl

other_bits : (r h k : Bool) → (r ≡ true → k ≡ false) → ((r || h) && k) ≡ (h && k)
other_bits true true k f = refl
other_bits true false k f = f refl
other_bits false h k f = refl

pub set_of-push : (xs : List Tuple) (row : Tuple) → set_of (xs ++ row ∷ []) ≡ insert_row (set_of xs) row
set_of-push xs row = same_tuples _ _ (λ q. has-set_of (xs ++ row ∷ []) q ∙ list_any-append (same q) xs (row ∷ [])
    ∙ pushed_bits (list_any (same q) xs) (same q row)
    ∙ ap (λ b. same q row || b) (sym (has-set_of xs q))
    ∙ sym (has-insert_row (set_of xs) row q))

-- a row of the s_id is one more of its rows
pub own_rows-insert : (s : ℕ) (u : Tuples) (row : Tuple) → has_key (s ∷ []) row ≡ true → rows_with_s_id s (insert_row u row) ≡ insert_row (rows_with_s_id s u) row
own_rows-insert s u row own = same_tuples _ _ (λ q. has-rows_with_s_id s (insert_row u row) q
    ∙ ap (λ b. b && has_key (s ∷ []) q) (has-insert_row u row q)
    ∙ own_bits (same q row) (has u q) (has_key (s ∷ []) q) (λ e. ap (has_key (s ∷ [])) (same_is q row e) ∙ own)
    ∙ ap (λ b. same q row || b) (sym (has-rows_with_s_id s u q))
    ∙ sym (has-insert_row (rows_with_s_id s u) row q))

-- a row of another leaves them
pub other_rows-insert : (s : ℕ) (u : Tuples) (row : Tuple) → has_key (s ∷ []) row ≡ false → rows_with_s_id s (insert_row u row) ≡ rows_with_s_id s u
other_rows-insert s u row other = same_tuples _ _ (λ q. has-rows_with_s_id s (insert_row u row) q
    ∙ ap (λ b. b && has_key (s ∷ []) q) (has-insert_row u row q)
    ∙ other_bits (same q row) (has u q) (has_key (s ∷ []) q) (λ e. ap (has_key (s ∷ [])) (same_is q row e) ∙ other)
    ∙ sym (has-rows_with_s_id s u q))

-- the rows of an s_id in a list that is read one row further
pub own_rows-more : (s : ℕ) (xs : List Tuple) (i : ℕ) (d : Tuple) → i < length xs → has_key (s ∷ []) (slice_index_or xs i d) ≡ true
    → rows_with_s_id s (set_of (take (i + 1) xs)) ≡ insert_row (rows_with_s_id s (set_of (take i xs))) (slice_index_or xs i d)
own_rows-more s xs i d lt own = ap (λ ys. rows_with_s_id s (set_of ys)) (take_more xs i d lt) ∙ ap (rows_with_s_id s) (set_of-push (take i xs) (slice_index_or xs i d))
    ∙ own_rows-insert s (set_of (take i xs)) (slice_index_or xs i d) own

pub other_rows-more : (s : ℕ) (xs : List Tuple) (i : ℕ) (d : Tuple) → i < length xs → has_key (s ∷ []) (slice_index_or xs i d) ≡ false
    → rows_with_s_id s (set_of (take (i + 1) xs)) ≡ rows_with_s_id s (set_of (take i xs))
other_rows-more s xs i d lt other = ap (λ ys. rows_with_s_id s (set_of ys)) (take_more xs i d lt) ∙ ap (rows_with_s_id s) (set_of-push (take i xs) (slice_index_or xs i d))
    ∙ other_rows-insert s (set_of (take i xs)) (slice_index_or xs i d) other

-- before the first row there is none, after the last all are there
pub rows_with_s_id-none : (s : ℕ) (xs : List Tuple) → rows_with_s_id s (set_of (take 0 xs)) ≡ no_rows
rows_with_s_id-none s xs = same_tuples _ _ (λ q. has-rows_with_s_id s no_rows q ∙ ap (λ b. b && has_key (s ∷ []) q) (has-no_rows q) ∙ sym (has-no_rows q))

pub rows_with_s_id-all : (s n : ℕ) (xs : List Tuple) → length xs ≤ n → rows_with_s_id s (set_of (take n xs)) ≡ rows_with_s_id s (set_of xs)
rows_with_s_id-all s n xs l = ap (λ ys. rows_with_s_id s (set_of ys)) (take_all n xs l)
