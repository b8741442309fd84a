-- Lemmas on numbers, read one after another.
use Rattle.std.proofs.Common.{◌≡◌, ℕ, zero, suc, ◌+◌, ◌≤◌, ◌∙◌, sym, ap, subst, List, [], ◌∷◌, ◌++◌, length, refl, arith, Option, Some, None, append_assoc, length-append}
use Rattle.std.proofs.lemmas.Iterator.Adapters.{option_map_id}
use Rattle.std.proofs.lemmas.List.{append-nil}
use Rattle.std.specs.Option.{option_map}
use Rattle.tatp_limits.specs.declared.limits.TheConstants.{MAX_ARGUMENTS}
use Rattle.tatp_lines.specs.Numbers.{number_of}
use Rattle.tatp_trace_lines.specs.LineFields.{numbers_within}

-- numbers that those of the fields left complete, for which there is room
pub record AreReadUpTo (all : List (List ℕ)) (numbers : List ℕ) (left : List (List ℕ)) : Type 0 where
  pub room : ℕ
  pub eight : length numbers + room ≡ MAX_ARGUMENTS
  pub completed : option_map (λ rest. numbers ++ rest) (numbers_within room left) ≡ numbers_within MAX_ARGUMENTS all

pub none_read : (all : List (List ℕ)) (numbers : List ℕ) → numbers ≡ [] → AreReadUpTo all numbers all
none_read all numbers e = subst (λ ns. AreReadUpTo all ns all) (sym e) (record { room = MAX_ARGUMENTS; eight = refl; completed = option_map_id (numbers_within MAX_ARGUMENTS all) })

nothing_within : (room : ℕ) → numbers_within room [] ≡ Some []
nothing_within zero = refl
nothing_within (suc room) = refl

-- no field is left
pub none_left : (all : List (List ℕ)) (numbers : List ℕ) (left : List (List ℕ)) → AreReadUpTo all numbers left → left ≡ [] → numbers_within MAX_ARGUMENTS all ≡ Some numbers
none_left all numbers left r e =
    sym r.completed ∙ (ap (λ fields. option_map (λ rest. numbers ++ rest) (numbers_within r.room fields)) e ∙ (ap (option_map (λ rest. numbers ++ rest)) (nothing_within r.room) ∙ ap Some (append-nil numbers)))

bad_within : (room : ℕ) (field : List ℕ) (more : List (List ℕ)) → number_of field ≡ None → numbers_within room (field ∷ more) ≡ None
bad_within zero field more h = refl
bad_within (suc room) field more h = rw h refl

-- a field is no number
pub bad_left : (all : List (List ℕ)) (numbers : List ℕ) (left more : List (List ℕ)) (field : List ℕ) → AreReadUpTo all numbers left → left ≡ field ∷ more → number_of field ≡ None → numbers_within MAX_ARGUMENTS all ≡ None
bad_left all numbers left more field r e h =
    sym r.completed ∙ (ap (λ fields. option_map (λ rest. numbers ++ rest) (numbers_within r.room fields)) e ∙ ap (option_map (λ rest. numbers ++ rest)) (bad_within r.room field more h))

no_room : (room : ℕ) (field : List ℕ) (more : List (List ℕ)) → room ≡ 0 → numbers_within room (field ∷ more) ≡ None
no_room zero field more h = refl
no_room (suc room) field more h = absurd (omega arith)

-- there is no room for a field
pub too_many_left : (all : List (List ℕ)) (numbers : List ℕ) (left more : List (List ℕ)) (field : List ℕ) → AreReadUpTo all numbers left → left ≡ field ∷ more → length numbers ≡ MAX_ARGUMENTS → numbers_within MAX_ARGUMENTS all ≡ None
too_many_left all numbers left more field r e l =
    let none : r.room ≡ 0 = omega (arith, r.eight) in
    sym r.completed ∙ (ap (λ fields. option_map (λ rest. numbers ++ rest) (numbers_within r.room fields)) e ∙ ap (option_map (λ rest. numbers ++ rest)) (no_room r.room field more none))

onto_both : (front longer : List ℕ) (n : ℕ) (o : Option (List ℕ)) → longer ≡ front ++ n ∷ [] → option_map (λ rest. longer ++ rest) o ≡ option_map (λ rest. front ++ rest) (option_map (λ rest. n ∷ rest) o)
onto_both front longer n None e = refl
onto_both front longer n (Some rest) e = ap Some (ap (λ xs. xs ++ rest) e ∙ append_assoc front (n ∷ []) rest)

good_within : (room : ℕ) (field : List ℕ) (more : List (List ℕ)) (n : ℕ) → number_of field ≡ Some n → numbers_within (suc room) (field ∷ more) ≡ option_map (λ rest. n ∷ rest) (numbers_within room more)
good_within room field more n h = rw h refl

read_with_room : (all : List (List ℕ)) (numbers longer : List ℕ) (more : List (List ℕ)) (field : List ℕ) (n room : ℕ) → length numbers + room ≡ MAX_ARGUMENTS
    → option_map (λ rest. numbers ++ rest) (numbers_within room (field ∷ more)) ≡ numbers_within MAX_ARGUMENTS all → number_of field ≡ Some n → longer ≡ numbers ++ n ∷ [] → length longer ≤ MAX_ARGUMENTS → AreReadUpTo all longer more
read_with_room all numbers longer more field n zero c r h e l = absurd (omega (arith, ap length e, length-append numbers (n ∷ [])))
read_with_room all numbers longer more field n (suc room) c r h e l = record {
  room = room;
  eight = omega (arith, ap length e, length-append numbers (n ∷ []));
  completed = onto_both numbers longer n (numbers_within room more) e ∙ (ap (option_map (λ rest. numbers ++ rest)) (sym (good_within room field more n h)) ∙ r);
}

pub one_read : (all : List (List ℕ)) (numbers longer : List ℕ) (left more : List (List ℕ)) (field : List ℕ) (n : ℕ) → AreReadUpTo all numbers left → left ≡ field ∷ more → number_of field ≡ Some n → longer ≡ numbers ++ n ∷ [] → length longer ≤ MAX_ARGUMENTS → AreReadUpTo all longer more
one_read all numbers longer left more field n r e h k l =
    read_with_room all numbers longer more field n r.room r.eight (subst (λ fields. option_map (λ rest. numbers ++ rest) (numbers_within r.room fields) ≡ numbers_within MAX_ARGUMENTS all) e r.completed) h k l
