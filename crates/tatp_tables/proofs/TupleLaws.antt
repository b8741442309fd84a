-- What a set of tuples has, and the order of its rows.
use Rattle.std.specs.Prelude.{◌≡◌, ℕ, Bool, true, false, cond, ◌&&◌, ◌||◌, not, List, [], ◌∷◌, map, Option, Some, None, filter, is_some, T}
use Rattle.std.specs.List.{list_any}
use Rattle.std.proofs.Common.{refl, sym, ap, ◌∙◌}
use Rattle.std.specs.Cmp.Lexicographic.{slice_cmp, nat_list_cmp_total}
use Rattle.std.specs.Cmp.{tied_itself, eq_by_cmp_equiv}
use Rattle.std.specs.Ordering.{nat_cmp, is_eq}
use Rattle.std.specs.declared.cmp.Ordering.{Ordering}
use Rattle.std.specs.declared.cmp.Ordering.TheVariants.{Less, Equal, Greater}
use Rattle.std.specs.FinMap as fin
use Rattle.std.specs.FinMap.Entries as entry
use Rattle.std.specs.FinMap.{IsAntisymmetric, nat_cmp-IsAntisymmetric, slice_cmp-IsAntisymmetric}
use Rattle.tatp_tables.specs.Tuples.{Tuples, rows_of, same, has, no_rows, insert_row, remove_row, retain_rows, set_of, insert_rows, union}

pub tuples_apart : IsAntisymmetric (slice_cmp nat_cmp)
tuples_apart = slice_cmp-IsAntisymmetric nat_cmp-IsAntisymmetric

pub same_itself : (q : List ℕ) → same q q ≡ true
same_itself q = ap is_eq (tied_itself nat_list_cmp_total q)

is_equal : (r : Ordering) → is_eq r ≡ true → r ≡ Equal
is_equal Less e = cc
is_equal Equal e = refl
is_equal Greater e = cc

pub same_is : (q r : List ℕ) → same q r ≡ true → q ≡ r
same_is q r e = tuples_apart q r (is_equal _ e)

pub same_turned : (q r : List ℕ) → same q r ≡ same r q
same_turned = (eq_by_cmp_equiv nat_list_cmp_total).symm

one_thing : (x y : Option (Unit {0})) → is_some x ≡ is_some y → x ≡ y
one_thing None None e = refl
one_thing None (Some u) e = cc
one_thing (Some u) None e = cc
one_thing (Some u) (Some v) e = refl

-- two sets that have the same tuples are one
pub same_tuples : (u v : Tuples) → ((q : List ℕ) → has u q ≡ has v q) → u ≡ v
same_tuples u v h = fin.same_map nat_list_cmp_total tuples_apart u v (λ q. one_thing _ _ (h q))

some_or : (b : Bool) (x : Option (Unit {0})) → is_some (cond b (Some tt) x) ≡ (b || is_some x)
some_or true x = refl
some_or false x = refl

some_and : (b : Bool) (x : Option (Unit {0})) → is_some (cond b x None) ≡ (is_some x && b)
some_and true None = refl
some_and true (Some u) = refl
some_and false None = refl
some_and false (Some u) = refl

none_or : (b : Bool) (x : Option (Unit {0})) → is_some (cond b None x) ≡ (not b && is_some x)
none_or true x = refl
none_or false x = refl

pub has-no_rows : (q : List ℕ) → has no_rows q ≡ false
has-no_rows q = ap is_some (fin.get-empty (slice_cmp nat_cmp) q)

pub has-insert_row : (u : Tuples) (r q : List ℕ) → has (insert_row u r) q ≡ (same q r || has u q)
has-insert_row u r q = ap is_some (fin.get-insert nat_list_cmp_total u r tt q) ∙ some_or _ _

pub has-remove_row : (u : Tuples) (r q : List ℕ) → has (remove_row u r) q ≡ (not (same q r) && has u q)
has-remove_row u r q = ap is_some (fin.get-remove nat_list_cmp_total u r q) ∙ none_or _ _

pub has-retain_rows : (p : List ℕ → Bool) (u : Tuples) (q : List ℕ) → has (retain_rows p u) q ≡ (has u q && p q)
has-retain_rows p u q = ap is_some (fin.get-retain_keys u p q (λ x e. ap p (sym (tuples_apart q x e)))) ∙ some_and (p q) (fin.get u q)

pub has-rows_of : (u : Tuples) (q : List ℕ) → has u q ≡ list_any (same q) (rows_of u)
has-rows_of u q = fin.contains_key-keys u q

pub has-set_of : (xs : List (List ℕ)) (q : List ℕ) → has (set_of xs) q ≡ list_any (same q) xs
has-set_of [] q = has-no_rows q
has-set_of (x ∷ xs) q = has-insert_row (set_of xs) x q ∙ ap (λ b. same q x || b) (has-set_of xs q)

or_false : (a : Bool) → a ≡ (a || false)
or_false true = refl
or_false false = refl

or_moved : (a b c : Bool) → (a || (b || c)) ≡ (b || (a || c))
or_moved true true c = refl
or_moved true false c = refl
or_moved false b c = refl

pub has-insert_rows : (u : Tuples) (xs : List (List ℕ)) (q : List ℕ) → has (insert_rows u xs) q ≡ (has u q || list_any (same q) xs)
has-insert_rows u [] q = or_false _
has-insert_rows u (x ∷ xs) q = has-insert_row (insert_rows u xs) x q ∙ ap (λ b. same q x || b) (has-insert_rows u xs q) ∙ or_moved (same q x) (has u q) _

pub has-union : (u v : Tuples) (q : List ℕ) → has (union u v) q ≡ (has u q || has v q)
unfolding union
has-union u v q = has-insert_rows u (rows_of v) q ∙ ap (λ b. has u q || b) (sym (has-rows_of v q))

-- a set is that of its rows
pub set_of-rows_of : (u : Tuples) → set_of (rows_of u) ≡ u
set_of-rows_of u = same_tuples _ _ (λ q. has-set_of (rows_of u) q ∙ sym (has-rows_of u q))

kept_keys : (p : List ℕ → Bool) (es : List (List ℕ × Unit {0})) → map (λ e. e.0) (filter (λ e. p e.0) es) ≡ filter p (map (λ e. e.0) es)
kept_keys p [] = refl
kept_keys p (e ∷ es) =
    elim (p e.0) as (λ b. map (λ e. e.0) (cond b (e ∷ filter (λ e. p e.0) es) (filter (λ e. p e.0) es)) ≡ cond b (e.0 ∷ filter p (map (λ e. e.0) es)) (filter p (map (λ e. e.0) es))) [
      | true ↦ ap (λ ys. e.0 ∷ ys) (kept_keys p es)
      | false ↦ kept_keys p es
    ]

-- the same set, made of its rows in order
retain_rows_sorted : (p : List ℕ → Bool) (u : Tuples) → retain_rows p u ≡ fin.from_sorted (filter (λ e. p e.0) (fin.entries u))
retain_rows_sorted p u = fin.same_map nat_list_cmp_total tuples_apart _ _ (λ q.
    fin.get-retain_keys u p q (λ x e. ap p (sym (tuples_apart q x e)))
    ∙ ap (λ o. cond (p q) o None) (fin.get-entries u q)
    ∙ sym (entry.find-where_key (slice_cmp nat_cmp) p q (λ x e. ap p (sym (tuples_apart q x e))) (fin.entries u))
    ∙ sym (fin.get-from_sorted (slice_cmp nat_cmp) _ q (entry.is_sorted-where_key (slice_cmp nat_cmp) p (fin.entries u) (fin.entries_sorted u))))

-- the rows of what passes are the rows that pass, in the same order
pub rows_of-retain_rows : (p : List ℕ → Bool) (u : Tuples) → rows_of (retain_rows p u) ≡ filter p (rows_of u)
rows_of-retain_rows p u = ap rows_of (retain_rows_sorted p u)
    ∙ ap (map (λ e. e.0)) (fin.entries-from_sorted (slice_cmp nat_cmp) _ (entry.is_sorted-where_key (slice_cmp nat_cmp) p (fin.entries u) (fin.entries_sorted u)))
    ∙ kept_keys p (fin.entries u)

keys_back : (xs : List (List ℕ)) → map (λ (e : List ℕ × Unit {0}). e.0) (map (λ r. (r, tt {0})) xs) ≡ xs
keys_back [] = refl
keys_back (x ∷ xs) = ap (λ ys. x ∷ ys) (keys_back xs)

-- whether rows strictly rise
abbrev pub rises : List (List ℕ) → Bool
rises xs = entry.is_sorted (slice_cmp nat_cmp) (map (λ r. (r, tt {0})) xs)

-- a rising list is the rows of its set
pub rows_of-set_of : (xs : List (List ℕ)) → T (rises xs) → rows_of (set_of xs) ≡ xs
rows_of-set_of xs sorted =
    let es : List (List ℕ × Unit {0}) = map (λ r. (r, tt {0})) xs in
    let is : set_of xs ≡ fin.from_sorted es = same_tuples _ _ (λ q. has-set_of xs q
    ∙ sym (ap is_some (fin.get-from_sorted (slice_cmp nat_cmp) es q sorted) ∙ entry.is_some-find (slice_cmp nat_cmp) q es ∙ ap (list_any (same q)) (keys_back xs))) in
    ap rows_of is ∙ ap (map (λ e. e.0)) (fin.entries-from_sorted (slice_cmp nat_cmp) es sorted) ∙ keys_back xs
