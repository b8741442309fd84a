-- Lemmas on values, read one after another.
use Rattle.std.proofs.Common.{◌≡◌, ℕ, suc, ◌+◌, ◌<◌, ◌≤◌, ◌∙◌, sym, ap, subst, List, [], ◌∷◌, ◌++◌, length, take, drop, set, get_or, refl, arith, Option, Some, None, append_assoc, add-one, length-set, drop-cons}
use Rattle.std.proofs.lemmas.Grind.{take-set_at}
use Rattle.std.proofs.lemmas.Iterator.Adapters.{option_map_id}
use Rattle.std.proofs.lemmas.List.{append-nil, take_all, drop_all}
use Rattle.std.specs.Option.{option_map}
use Rattle.tatp_texts.specs.Text.{value_of}
use Rattle.tatp_calls.specs.ValuesText.{values_of}

-- values that those of the fields left complete, the first i being read
pub record IsReadUpTo (columns : List ℕ) (all : List (List ℕ)) (i : ℕ) (values : List ℕ) (left : List (List ℕ)) : Type 0 where
  pub room : length values ≡ length columns
  pub completed : option_map (λ rest. take i values ++ rest) (values_of (drop i columns) left) ≡ values_of columns all

pub none_read : (columns : List ℕ) (values : List ℕ) (all : List (List ℕ)) → length values ≡ length columns → IsReadUpTo columns all 0 values all
none_read columns values all h = record { room = h; completed = option_map_id (values_of columns all) }

-- the values of the columns from place i on, of which there is one
values_left : (columns : List ℕ) (i : ℕ) (left : List (List ℕ)) → i < length columns → values_of (drop i columns) left ≡ values_of (get_or columns i 0 ∷ drop (suc i) columns) left
values_left columns i left l = ap (λ cs. values_of cs left) (drop-cons columns i 0 l)

none_of_none : (c : ℕ) (columns : List ℕ) → values_of (c ∷ columns) [] ≡ None
unfolding values_of
none_of_none c columns = refl

first_missing : (columns : List ℕ) (all : List (List ℕ)) (i : ℕ) (values : List ℕ) → IsReadUpTo columns all i values [] → i < length columns → values_of columns all ≡ None
first_missing columns all i values r l =
    sym r.completed ∙ ap (option_map (λ rest. take i values ++ rest)) (values_left columns i [] l ∙ none_of_none (get_or columns i 0) (drop (suc i) columns))

-- no field is left for a column
pub no_values_short : (columns : List ℕ) (all : List (List ℕ)) (i : ℕ) (values : List ℕ) (left : List (List ℕ)) → IsReadUpTo columns all i values left → i < length columns → left ≡ [] → values_of columns all ≡ None
no_values_short columns all i values left r l e = first_missing columns all i values (subst (IsReadUpTo columns all i values) e r) l

first_bad : (c : ℕ) (columns : List ℕ) (field : List ℕ) (more : List (List ℕ)) → value_of c field ≡ None → values_of (c ∷ columns) (field ∷ more) ≡ None
unfolding values_of
first_bad c columns field more h = rw h refl

-- a field is no value
pub no_values_bad : (columns : List ℕ) (all : List (List ℕ)) (i : ℕ) (values : List ℕ) (left more : List (List ℕ)) (field : List ℕ) → IsReadUpTo columns all i values left → i < length columns → left ≡ field ∷ more → value_of (get_or columns i 0) field ≡ None → values_of columns all ≡ None
no_values_bad columns all i values left more field r l e h =
    let own = subst (IsReadUpTo columns all i values) e r in
    sym own.completed ∙ ap (option_map (λ rest. take i values ++ rest)) (values_left columns i (field ∷ more) l ∙ first_bad (get_or columns i 0) (drop (suc i) columns) field more h)

first_good : (c v : ℕ) (columns : List ℕ) (field : List ℕ) (more : List (List ℕ)) → value_of c field ≡ Some v → values_of (c ∷ columns) (field ∷ more) ≡ option_map (λ rest. v ∷ rest) (values_of columns more)
unfolding values_of
first_good c v columns field more h = rw h refl

onto_both : (front longer : List ℕ) (v : ℕ) (o : Option (List ℕ)) → longer ≡ front ++ v ∷ [] → option_map (λ rest. longer ++ rest) o ≡ option_map (λ rest. front ++ rest) (option_map (λ rest. v ∷ rest) o)
onto_both front longer v None e = refl
onto_both front longer v (Some vs) e = ap Some (ap (λ xs. xs ++ vs) e ∙ append_assoc front (v ∷ []) vs)

pub value_read : (columns : List ℕ) (all : List (List ℕ)) (i : ℕ) (values : List ℕ) (left more : List (List ℕ)) (field : List ℕ) (v : ℕ) → IsReadUpTo columns all i values left → i < length columns → left ≡ field ∷ more → value_of (get_or columns i 0) field ≡ Some v → IsReadUpTo columns all (i + 1) (set values i v) more
value_read columns all i values left more field v r l e h =
    let own = subst (IsReadUpTo columns all i values) e r in
    let room : length values ≡ length columns = r.room in
    let front : take (i + 1) (set values i v) ≡ take i values ++ v ∷ [] = take-set_at values i (i + 1) v refl (omega arith) in
    record {
      room = length-set values i v ∙ room;
      completed =
          ap (λ n. option_map (λ rest. take (i + 1) (set values i v) ++ rest) (values_of (drop n columns) more)) (add-one i)
          ∙ (onto_both (take i values) (take (i + 1) (set values i v)) v (values_of (drop (suc i) columns) more) front
          ∙ (ap (option_map (λ rest. take i values ++ rest)) (sym (values_left columns i (field ∷ more) l ∙ first_good (get_or columns i 0) v (drop (suc i) columns) field more h)) ∙ own.completed));
    }

at_end : (columns : List ℕ) (all : List (List ℕ)) (i : ℕ) (values : List ℕ) (left : List (List ℕ)) → IsReadUpTo columns all i values left → length columns ≤ i → option_map (λ rest. values ++ rest) (values_of [] left) ≡ values_of columns all
at_end columns all i values left r l =
    let room : length values ≡ length columns = r.room in
    let none : drop i columns ≡ [] = drop_all i columns l in
    let whole : take i values ≡ values = take_all i values (omega arith) in
    subst (λ cs. option_map (λ rest. values ++ rest) (values_of cs left) ≡ values_of columns all) none (subst (λ vs. option_map (λ rest. vs ++ rest) (values_of (drop i columns) left) ≡ values_of columns all) whole r.completed)

none_of_more : (field : List ℕ) (more : List (List ℕ)) → values_of [] (field ∷ more) ≡ None
unfolding values_of
none_of_more field more = refl

-- a field is left after the last column
pub no_values_long : (columns : List ℕ) (all : List (List ℕ)) (i : ℕ) (values : List ℕ) (left more : List (List ℕ)) (field : List ℕ) → IsReadUpTo columns all i values left → length columns ≤ i → left ≡ field ∷ more → values_of columns all ≡ None
no_values_long columns all i values left more field r l e =
    sym (at_end columns all i values (field ∷ more) (subst (IsReadUpTo columns all i values) e r) l) ∙ ap (option_map (λ rest. values ++ rest)) (none_of_more field more)

all_of_none : values_of [] [] ≡ Some []
unfolding values_of
all_of_none = refl

pub all_read : (columns : List ℕ) (all : List (List ℕ)) (i : ℕ) (values : List ℕ) (left : List (List ℕ)) → IsReadUpTo columns all i values left → length columns ≤ i → left ≡ [] → values_of columns all ≡ Some values
all_read columns all i values left r l e =
    sym (at_end columns all i values [] (subst (IsReadUpTo columns all i values) e r) l) ∙ (ap (option_map (λ rest. values ++ rest)) all_of_none ∙ ap Some (append-nil values))
