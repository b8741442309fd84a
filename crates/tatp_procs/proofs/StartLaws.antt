-- The forwardings of a facility stand in the order of their start times.
use Rattle.std.specs.Prelude.{◌≡◌, ℕ, ◌<◌, Bool, true, false, ◌==◌, ◌&&◌, ◌||◌, List, [], ◌∷◌, ◌++◌, Option, Some, None, filter, T, ◌⊎◌}
use Rattle.std.specs.List.{list_any}
use Rattle.std.specs.Option.{option_to_list}
use Rattle.std.specs.Ordering.{nat_cmp, is_lt, ordering_then}
use Rattle.std.specs.Cmp.{tied_itself, nat_cmp_total}
use Rattle.std.specs.Cmp.Lexicographic.{slice_cmp}
use Rattle.std.specs.declared.cmp.Ordering.TheVariants.{Less, Equal}
use Rattle.std.proofs.Common.{refl, sym, ap, subst, ◌∙◌, arith, inl, inr, lit<}
use Rattle.std.proofs.lemmas.Bool.{and_parts}
use Rattle.std.proofs.lemmas.Bool.Decides.{nat_tests}
use Rattle.std.proofs.lemmas.List.Folds.{list_any-append}
use Rattle.tatp_tables.specs.Tuples.{Tuples, rows_of, has, same, set_of, retain_rows}
use Rattle.tatp_tables.specs.Keys.{has_key, row_at}
use Rattle.tatp_tables.proofs.TupleLaws.{same_tuples, same_is, same_itself, has-retain_rows, has-set_of, has-rows_of, rows_of-retain_rows, rows_of-set_of, rises}
use Rattle.tatp_tables.proofs.FindLaws.{found_in, found_passes, found_there}
use Rattle.tatp_tables.proofs.KeyLaws.{heads_equal}

-- the forwarding of a start time, as a list
abbrev pub starting : Tuples → ℕ → ℕ → ℕ → List (List ℕ)
starting c s t n = option_to_list (row_at c (s ∷ t ∷ n ∷ []))

abbrev pub three : Tuples → ℕ → ℕ → List (List ℕ)
three c s t = starting c s t 0 ++ (starting c s t 8 ++ starting c s t 16)

-- what the audits say of a facility's forwardings
pub record AreForwardings (c : Tuples) (s t : ℕ) : Type 0 where
  pub starts : (q : List ℕ) → has c q ≡ true → has_key (s ∷ t ∷ []) q ≡ true
      → (has_key (s ∷ t ∷ 0 ∷ []) q ≡ true) ⊎ ((has_key (s ∷ t ∷ 8 ∷ []) q ≡ true) ⊎ (has_key (s ∷ t ∷ 16 ∷ []) q ≡ true))
  pub keys : (n : ℕ) (q r : List ℕ) → has c q ≡ true → has c r ≡ true → has_key (s ∷ t ∷ n ∷ []) q ≡ true → has_key (s ∷ t ∷ n ∷ []) r ≡ true → q ≡ r

cut : (x y z : Bool) → (x && (y && z)) ≡ true → (x && (y && true)) ≡ true
cut true true z h = refl
cut true false z h = cc
cut false y z h = cc

shorter : (s t n : ℕ) (q : List ℕ) → has_key (s ∷ t ∷ n ∷ []) q ≡ true → has_key (s ∷ t ∷ []) q ≡ true
shorter s t n [] h = cc
shorter s t n (a ∷ []) h = h
shorter s t n (a ∷ b ∷ q) h = cut (a == s) (b == t) _ h

same_bool : (a b : Bool) → (a ≡ true → b ≡ true) → (b ≡ true → a ≡ true) → a ≡ b
same_bool true b f g = sym (f refl)
same_bool false true f g = g refl
same_bool false false f g = refl

-- a row of start n is found by it
in_starting : (c : Tuples) (s t n : ℕ) (q : List ℕ) → AreForwardings c s t → has c q ≡ true → has_key (s ∷ t ∷ n ∷ []) q ≡ true → list_any (same q) (starting c s t n) ≡ true
in_starting c s t n q f h k = ap (λ o. list_any (same q) (option_to_list o)) (found_in (has_key (s ∷ t ∷ n ∷ [])) c q h k (λ r hr kr. f.keys n r q hr h kr k)) ∙ ap (λ b. b || false) (same_itself q)

from_starting : (c : Tuples) (s t n : ℕ) (q : List ℕ) → list_any (same q) (starting c s t n) ≡ true → (has c q && has_key (s ∷ t ∷ []) q) ≡ true
from_starting c s t n q h =
    elim (row_at c (s ∷ t ∷ n ∷ [])) as (λ o. row_at c (s ∷ t ∷ n ∷ []) ≡ o → list_any (same q) (option_to_list o) ≡ true → (has c q && has_key (s ∷ t ∷ []) q) ≡ true) [
      | None ↦ λ e m. cc
      | Some r ↦ λ e m.
          let is : q ≡ r = same_is q r (either_false (same q r) m) in
          let there : has c r ≡ true = has-rows_of c r ∙ found_there (has_key (s ∷ t ∷ n ∷ [])) (rows_of c) r e in
          let key : has_key (s ∷ t ∷ []) r ≡ true = shorter s t n r (found_passes (has_key (s ∷ t ∷ n ∷ [])) (rows_of c) r e) in
          ap (λ x. has c x && has_key (s ∷ t ∷ []) x) is ∙ (λ i. there i && key i)
    ] refl h
  where
    either_false : (b : Bool) → (b || false) ≡ true → b ≡ true
    either_false true h = refl
    either_false false h = cc

any_three : (a b c : Bool) → (a || (b || c)) ≡ true → (a ≡ true) ⊎ ((b ≡ true) ⊎ (c ≡ true))
any_three true b c h = inl refl
any_three false true c h = inr (inl refl)
any_three false false c h = inr (inr h)

split_three : (p : List ℕ → Bool) (xs ys zs : List (List ℕ)) → list_any p (xs ++ (ys ++ zs)) ≡ (list_any p xs || (list_any p ys || list_any p zs))
split_three p xs ys zs = list_any-append p xs (ys ++ zs) ∙ ap (λ b. list_any p xs || b) (list_any-append p ys zs)

in_three : (a b c : Bool) → (a ≡ true) ⊎ ((b ≡ true) ⊎ (c ≡ true)) → (a || (b || c)) ≡ true
in_three true b c h = refl
in_three false true c h = refl
in_three false false c h = elim h [ inl e ↦ cc | inr k ↦ elim k [ inl e ↦ cc | inr e ↦ e ] ]

-- the forwardings of a facility are those of the three start times
of_facility : (c : Tuples) (s t : ℕ) → AreForwardings c s t → retain_rows (has_key (s ∷ t ∷ [])) c ≡ set_of (three c s t)
of_facility c s t f = same_tuples _ _ (λ q. has-retain_rows (has_key (s ∷ t ∷ [])) c q ∙ same_bool _ _
    (λ h. split_three (same q) (starting c s t 0) (starting c s t 8) (starting c s t 16) ∙ in_three _ _ _ (there q h (and_parts (has c q) _ h).0 (and_parts (has c q) _ h).1))
    (λ h. back q (any_three _ _ _ (sym (split_three (same q) (starting c s t 0) (starting c s t 8) (starting c s t 16)) ∙ h)))
    ∙ sym (has-set_of (three c s t) q))
  where
    there : (q : List ℕ) → (has c q && has_key (s ∷ t ∷ []) q) ≡ true → has c q ≡ true → has_key (s ∷ t ∷ []) q ≡ true
        → (list_any (same q) (starting c s t 0) ≡ true) ⊎ ((list_any (same q) (starting c s t 8) ≡ true) ⊎ (list_any (same q) (starting c s t 16) ≡ true))
    there q h i k = elim (f.starts q i k) [
      | inl e ↦ inl (in_starting c s t 0 q f i e)
      | inr o ↦ elim o [ inl e ↦ inr (inl (in_starting c s t 8 q f i e)) | inr e ↦ inr (inr (in_starting c s t 16 q f i e)) ]
    ]

    back : (q : List ℕ) → (list_any (same q) (starting c s t 0) ≡ true) ⊎ ((list_any (same q) (starting c s t 8) ≡ true) ⊎ (list_any (same q) (starting c s t 16) ≡ true))
        → (has c q && has_key (s ∷ t ∷ []) q) ≡ true
    back q o = elim o [
      | inl e ↦ from_starting c s t 0 q e
      | inr k ↦ elim k [ inl e ↦ from_starting c s t 8 q e | inr e ↦ from_starting c s t 16 q e ]
    ]

less : (m n : ℕ) → m < n → nat_cmp m n ≡ Less
less m n h = grind (arith, nat_tests)

-- where first columns are equal, the rest decides
alike : (s : ℕ) (ks ms x y : List ℕ) → has_key (s ∷ ks) x ≡ true → has_key (s ∷ ms) y ≡ true
    → ((v w : List ℕ) → has_key ks v ≡ true → has_key ms w ≡ true → is_lt (slice_cmp nat_cmp v w) ≡ true) → is_lt (slice_cmp nat_cmp x y) ≡ true
alike s ks ms [] y h k rest = cc
alike s ks ms (a ∷ x) [] h k rest = cc
alike s ks ms (a ∷ x) (b ∷ y) h k rest =
    let e : nat_cmp a b ≡ Equal = (λ i. nat_cmp (heads_equal a s _ h i) (heads_equal b s _ k i)) ∙ tied_itself nat_cmp_total s in
    ap (λ o. is_lt (ordering_then o (slice_cmp nat_cmp x y))) e ∙ rest x y ((and_parts (a == s) _ h).1) ((and_parts (b == s) _ k).1)

lower : (m n : ℕ) (x y : List ℕ) → m < n → has_key (m ∷ []) x ≡ true → has_key (n ∷ []) y ≡ true → is_lt (slice_cmp nat_cmp x y) ≡ true
lower m n [] y lt h k = cc
lower m n (a ∷ x) [] lt h k = cc
lower m n (a ∷ x) (b ∷ y) lt h k =
    let e : nat_cmp a b ≡ Less = (λ i. nat_cmp (heads_equal a m _ h i) (heads_equal b n _ k i)) ∙ less m n lt in
    ap (λ o. is_lt (ordering_then o (slice_cmp nat_cmp x y))) e

-- a row of an earlier start is before one of a later
before : (s t m n : ℕ) (x y : List ℕ) → m < n → has_key (s ∷ t ∷ m ∷ []) x ≡ true → has_key (s ∷ t ∷ n ∷ []) y ≡ true → is_lt (slice_cmp nat_cmp x y) ≡ true
before s t m n x y lt h k = alike s (t ∷ m ∷ []) (t ∷ n ∷ []) x y h k (λ v w h k. alike t (m ∷ []) (n ∷ []) v w h k (λ v w h k. lower m n v w lt h k))

-- pairwise before gives a rising list
rising : (x y z : Option (List ℕ)) → ((a b : List ℕ) → x ≡ Some a → y ≡ Some b → is_lt (slice_cmp nat_cmp a b) ≡ true) → ((a b : List ℕ) → x ≡ Some a → z ≡ Some b → is_lt (slice_cmp nat_cmp a b) ≡ true)
    → ((a b : List ℕ) → y ≡ Some a → z ≡ Some b → is_lt (slice_cmp nat_cmp a b) ≡ true) → rises (option_to_list x ++ (option_to_list y ++ option_to_list z)) ≡ true
rising None None None f g h = refl
rising None None (Some z) f g h = refl
rising None (Some y) None f g h = refl
rising None (Some y) (Some z) f g h = λ i. (h y z refl refl i && true) && true
rising (Some x) None None f g h = refl
rising (Some x) None (Some z) f g h = λ i. (g x z refl refl i && true) && true
rising (Some x) (Some y) None f g h = λ i. (f x y refl refl i && true) && true
rising (Some x) (Some y) (Some z) f g h = λ i. (f x y refl refl i && (g x z refl refl i && true)) && ((h y z refl refl i && true) && true)

-- the rows of a facility, in order: those of the start times 0, 8 and 16
pub rows_of_facility : (c : Tuples) (s t : ℕ) → AreForwardings c s t → filter (has_key (s ∷ t ∷ [])) (rows_of c) ≡ three c s t
rows_of_facility c s t f = sym (rows_of-retain_rows (has_key (s ∷ t ∷ [])) c) ∙ ap rows_of (of_facility c s t f)
    ∙ rows_of-set_of (three c s t) (subst T (sym (rising _ _ _ (order 0 8 (lit< tt)) (order 0 16 (lit< tt)) (order 8 16 (lit< tt)))) tt)
  where
    order : (m n : ℕ) → m < n → (a b : List ℕ) → row_at c (s ∷ t ∷ m ∷ []) ≡ Some a → row_at c (s ∷ t ∷ n ∷ []) ≡ Some b → is_lt (slice_cmp nat_cmp a b) ≡ true
    order m n lt a b e k = before s t m n a b lt (found_passes (has_key (s ∷ t ∷ m ∷ [])) (rows_of c) a e) (found_passes (has_key (s ∷ t ∷ n ∷ [])) (rows_of c) b k)
