-- Lemmas on a row's columns, read and printed one after another.
use Rattle.std.proofs.Common.{◌≡◌, ℕ, suc, ◌+◌, ◌-◌, ◌<◌, ◌≤◌, ◌∙◌, sym, ap, subst, List, [], ◌∷◌, ◌++◌, length, take, drop, set, get_or, refl, arith, Option, Some, None, append_assoc, add-one, length-set, drop-cons}
use Rattle.std.proofs.lemmas.Grind.{take-set_at}
use Rattle.std.proofs.lemmas.Iterator.Adapters.{option_map_id}
use Rattle.std.proofs.lemmas.List.{append-nil, take_all, drop_all}
use Rattle.std.specs.Option.{option_map}
use Rattle.tatp_tables.specs.Tuples.{Tuple}
use Rattle.tatp_texts.specs.Text.{value_of, value_text, columns_text, columns_of}

-- ---- printed
-- a text that the columns from place i on complete
pub record IsPrintedUpTo (c : ℕ) (values : Tuple) (all : List ℕ) (i : ℕ) (text : List ℕ) : Type 0 where
  pub completed : text ++ columns_text (c + i) (drop i values) ≡ all

pub none_printed : (c : ℕ) (values : Tuple) (text : List ℕ) → IsPrintedUpTo c values (text ++ columns_text c values) 0 text
none_printed c values text = let e : c + 0 ≡ c = omega arith in record { completed = rw e refl }

column_regrouped : (text value more : List ℕ) → ((text ++ 32 ∷ []) ++ value) ++ more ≡ text ++ (32 ∷ (value ++ more))
column_regrouped text value more = append_assoc (text ++ 32 ∷ []) value more ∙ append_assoc text (32 ∷ []) (value ++ more)

pub column_printed : (c : ℕ) (values : Tuple) (all : List ℕ) (i : ℕ) (text spaced longer : List ℕ) → IsPrintedUpTo c values all i text → i < length values → spaced ≡ text ++ 32 ∷ [] → longer ≡ spaced ++ value_text (c + i) (get_or values i 0) → IsPrintedUpTo c values all (i + 1) longer
column_printed c values all i text spaced longer p l s e =
    let next : c + (i + 1) ≡ suc (c + i) = omega arith in
    let more = columns_text (suc (c + i)) (drop (suc i) values) in
    let value = value_text (c + i) (get_or values i 0) in
    let whole : longer ≡ (text ++ 32 ∷ []) ++ value = e ∙ ap (λ front. front ++ value) s in
    let here : drop i values ≡ get_or values i 0 ∷ drop (suc i) values = drop-cons values i 0 l in
    record { completed = rw (next, add-one) (ap (λ front. front ++ more) whole ∙ (column_regrouped text value more ∙ (ap (λ vs. text ++ columns_text (c + i) vs) (sym here) ∙ p.completed))) }

pub all_printed : (c : ℕ) (values : Tuple) (all : List ℕ) (i : ℕ) (text : List ℕ) → IsPrintedUpTo c values all i text → length values ≤ i → text ≡ all
all_printed c values all i text p l =
    let done : drop i values ≡ [] = drop_all i values l in
    sym (append-nil text) ∙ (ap (λ vs. text ++ columns_text (c + i) vs) (sym done) ∙ p.completed)

-- ---- read
-- values of which the fields left complete the first i
pub record IsReadUpTo (n c : ℕ) (all : List (List ℕ)) (i : ℕ) (values : Tuple) (left : List (List ℕ)) : Type 0 where
  pub room : length values ≡ n
  pub completed : option_map (λ rest. take i values ++ rest) (columns_of (n - i) (c + i) left) ≡ columns_of n c all

pub none_read : (n c : ℕ) (values : Tuple) (all : List (List ℕ)) → length values ≡ n → IsReadUpTo n c all 0 values all
none_read n c values all h =
    let e : c + 0 ≡ c = omega arith in
    let m : n - 0 ≡ n = omega arith in
    record { room = h; completed = rw (e, m) (option_map_id (columns_of n c all)) }

-- the columns from place i on, of which there is one
columns_left : (n i c : ℕ) (left : List (List ℕ)) → i < n → columns_of (n - i) (c + i) left ≡ columns_of (suc (n - (i + 1))) (c + i) left
columns_left n i c left l = let e : n - i ≡ suc (n - (i + 1)) = omega arith in rw e refl

first_missing : (n c : ℕ) (all : List (List ℕ)) (i : ℕ) (values : Tuple) → IsReadUpTo n c all i values [] → i < n → columns_of n c all ≡ None
first_missing n c all i values r l = sym r.completed ∙ ap (option_map (λ rest. take i values ++ rest)) (columns_left n i c [] l)

-- no field is left for a column
pub no_columns_short : (n c : ℕ) (all : List (List ℕ)) (i : ℕ) (values : Tuple) (left : List (List ℕ)) → IsReadUpTo n c all i values left → i < n → left ≡ [] → columns_of n c all ≡ None
no_columns_short n c all i values left r l e = first_missing n c all i values (subst (IsReadUpTo n c all i values) e r) l

first_bad : (k c : ℕ) (field : List ℕ) (more : List (List ℕ)) → value_of c field ≡ None → columns_of (suc k) c (field ∷ more) ≡ None
first_bad k c field more h = rw h refl

-- a field is no value
pub no_columns_bad : (n c : ℕ) (all : List (List ℕ)) (i : ℕ) (values : Tuple) (left more : List (List ℕ)) (field : List ℕ) → IsReadUpTo n c all i values left → i < n → left ≡ field ∷ more → value_of (c + i) field ≡ None → columns_of n c all ≡ None
no_columns_bad n c all i values left more field r l e h =
    let own = subst (IsReadUpTo n c all i values) e r in
    sym own.completed ∙ ap (option_map (λ rest. take i values ++ rest)) (columns_left n i c (field ∷ more) l ∙ first_bad (n - (i + 1)) (c + i) field more h)

first_good : (k c v : ℕ) (field : List ℕ) (more : List (List ℕ)) → value_of c field ≡ Some v → columns_of (suc k) c (field ∷ more) ≡ option_map (λ rest. v ∷ rest) (columns_of k (suc c) more)
first_good k c v field more h = rw h refl

onto_both : (front longer : Tuple) (v : ℕ) (o : Option Tuple) → longer ≡ front ++ v ∷ [] → option_map (λ rest. longer ++ rest) o ≡ option_map (λ rest. front ++ rest) (option_map (λ rest. v ∷ rest) o)
onto_both front longer v None e = refl
onto_both front longer v (Some vs) e = ap Some (ap (λ xs. xs ++ vs) e ∙ append_assoc front (v ∷ []) vs)

pub column_read : (n c : ℕ) (all : List (List ℕ)) (i : ℕ) (values : Tuple) (left more : List (List ℕ)) (field : List ℕ) (v : ℕ) → IsReadUpTo n c all i values left → i < n → left ≡ field ∷ more → value_of (c + i) field ≡ Some v → IsReadUpTo n c all (i + 1) (set values i v) more
column_read n c all i values left more field v r l e h =
    let own = subst (IsReadUpTo n c all i values) e r in
    let next : c + (i + 1) ≡ suc (c + i) = omega arith in
    let room : length values ≡ n = r.room in
    let front : take (i + 1) (set values i v) ≡ take i values ++ v ∷ [] = take-set_at values i (i + 1) v refl (omega arith) in
    record {
      room = length-set values i v ∙ room;
      completed = rw next (onto_both (take i values) (take (i + 1) (set values i v)) v (columns_of (n - (i + 1)) (suc (c + i)) more) front ∙ (ap (option_map (λ rest. take i values ++ rest)) (sym (columns_left n i c (field ∷ more) l ∙ first_good (n - (i + 1)) (c + i) v field more h)) ∙ own.completed));
    }

at_end : (n c : ℕ) (all : List (List ℕ)) (i : ℕ) (values : Tuple) (left : List (List ℕ)) → IsReadUpTo n c all i values left → n ≤ i → option_map (λ rest. values ++ rest) (columns_of 0 (c + i) left) ≡ columns_of n c all
at_end n c all i values left r l =
    let room : length values ≡ n = r.room in
    let none : n - i ≡ 0 = omega arith in
    let whole : take i values ≡ values = take_all i values (omega arith) in
    subst (λ m. option_map (λ rest. values ++ rest) (columns_of m (c + i) left) ≡ columns_of n c all) none (subst (λ vs. option_map (λ rest. vs ++ rest) (columns_of (n - i) (c + i) left) ≡ columns_of n c all) whole r.completed)

-- a field is left after the last column
pub no_columns_long : (n c : ℕ) (all : List (List ℕ)) (i : ℕ) (values : Tuple) (left more : List (List ℕ)) (field : List ℕ) → IsReadUpTo n c all i values left → n ≤ i → left ≡ field ∷ more → columns_of n c all ≡ None
no_columns_long n c all i values left more field r l e = sym (at_end n c all i values (field ∷ more) (subst (IsReadUpTo n c all i values) e r) l)

pub all_read : (n c : ℕ) (all : List (List ℕ)) (i : ℕ) (values : Tuple) (left : List (List ℕ)) → IsReadUpTo n c all i values left → n ≤ i → left ≡ [] → columns_of n c all ≡ Some values
all_read n c all i values left r l e = sym (at_end n c all i values [] (subst (IsReadUpTo n c all i values) e r) l) ∙ ap Some (append-nil values)
