-- trusted: read it
-- Lists merged into one that keeps the order of each.
use Rattle.std.specs.Prelude.{◌≡◌, ℕ, List, [], ◌∷◌, Some, slice_get, slice_set}

module _ {A : Type 0} where
  -- the list at this place has a first element
  abbrev pub HasFirst : List (List A) → ℕ → Type 0
  HasFirst lists place = (x : A) × (rest : List A) × (slice_get lists place ≡ Some (x ∷ rest))

  -- no list has an element
  abbrev pub AllAreEmpty : List (List A) → Type 0
  AllAreEmpty [] = Unit {0}
  AllAreEmpty (list ∷ lists) = (list ≡ []) × AllAreEmpty lists

  -- the merged list takes, while elements are left, the first of any list
  abbrev pub Interleaves : List (List A) → List A → Type 0
  Interleaves lists [] = AllAreEmpty lists
  Interleaves lists (x ∷ more) =
      (place : ℕ) × (rest : List A)
      × (slice_get lists place ≡ Some (x ∷ rest))
      × Interleaves (slice_set lists place rest) more
